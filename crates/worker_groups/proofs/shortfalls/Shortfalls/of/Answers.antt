use Rattle.std.proofs.Common.{◌≡◌, ◌<◌, ◌≤◌, ◌∷◌, ◌++◌, [], length, refl, sym, ap, ◌∙◌, arith, append_assoc, get_or}
use Rattle.std.proofs.lemmas.List.{length-append, drop-replicate}
use Rattle.worker_groups.specs.Groups.{group_of}
use Rattle.listener_set.proofs.NumberSets.{length-numbers}
use Rattle.worker_groups.proofs.GroupCounts.{group-within, zeros-counted, count-there, count-few, counted-more, set-padded}
use Rattle.worker_groups.proofs.shortfalls.Shortfalls.of.Goals as goal

pub loop-number-init : goal.loop-number-init
loop-number-init c =
    let len = length c.as_slice-len.result.now in
    let long : length c.args.groups.now ≡ len = ap length (sym c.as_slice-len.ensures.items) in
    let most : len ≤ 16 = omega (arith, long, c.as_slice-len.ensures.groups.most) in
    record {
      split = c.into_iter-number-iterator.ensures.into_iter_gives ∙ c.iter-number-items.ensures.members;
      padded = record { size = refl; fits = most; blanks = drop-replicate len 16 0 };
      counted = zeros-counted c.args.groups.now len long most;
    }

long : (c : goal.After-group_of) → length c.args.groups.now ≡ length c.as_slice-len.result.now
long c = ap length (sym c.as_slice-len.ensures.items)

there : (c : goal.After-group_of) → group_of c.args.groups.now c.in-Some.number < length c.as_slice-len.result.now
there c = omega (arith, long c, group-within c.args.groups.now c.in-Some.number c.as_slice-len.ensures.groups.some)

whole : (c : goal.After-group_of) → c.loop-number.yielded ++ c.in-Some.number ∷ c.next.new.self ≡ c.args.lacking.now
whole c = ap (λ ns. c.loop-number.yielded ++ ns) (sym c.in-Some.ensures.steps) ∙ c.loop-number.invariant.split

pub offset_bounds-counts-group_of : goal.offset_bounds-counts-group_of
offset_bounds-counts-group_of c = omega (arith, c.group_of.ensures, long c, there c, c.as_slice-len.ensures.groups.most)

pub bounds-counts-group_of : goal.bounds-counts-group_of
bounds-counts-group_of c = omega (arith, c.group_of.ensures, long c, there c, c.as_slice-len.ensures.groups.most)

pub bounds-counts-group_of-in-loop-number : goal.bounds-counts-group_of-in-loop-number
bounds-counts-group_of-in-loop-number c = omega (arith, c.group_of.ensures, long c, there c, c.as_slice-len.ensures.groups.most)

pub overflow_add-counts : goal.overflow_add-counts
overflow_add-counts c =
    let gs = c.args.groups.now in
    let done = c.loop-number.yielded in
    let place = group_of gs c.in-Some.number in
    let is : get_or c.loop-number.counts c.group_of.result 0 ≡ get_or c.loop-number.counts place 0 = ap (λ k. get_or c.loop-number.counts k 0) c.group_of.ensures in
    let counted = count-there gs done c.loop-number.counts _ place (long c) (there c) c.loop-number.invariant.counted in
    let few : length done ≤ 1024 = omega (arith, ap length (whole c), length-append done (c.in-Some.number ∷ c.next.new.self), length-numbers c.args.lacking.now 1024 c.iter-number-items.ensures.numbers) in
    omega (arith, is, counted, count-few gs done place, few)

pub loop-number-preserved : goal.loop-number-preserved
loop-number-preserved c =
    rw c.group_of.ensures (record {
      split = append_assoc c.loop-number.yielded (c.in-Some.number ∷ []) c.next.new.self ∙ whole c;
      padded = set-padded _ _ c.loop-number.invariant.padded (there c);
      counted = counted-more c.args.groups.now c.loop-number.yielded c.loop-number.counts _ c.in-Some.number _ (long c) (there c) c.loop-number.invariant.counted refl;
    })
