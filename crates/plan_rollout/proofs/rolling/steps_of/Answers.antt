use Rattle.std.proofs.Common.{◌≡◌, ◌<◌, ◌+◌, ◌-◌, ◌++◌, ◌&&◌, List, ℕ, true, false, nat_lt, length, reverse, refl}
use Rattle.std.proofs.Common.{sym, ◌∙◌, ap, subst, arith}
use Rattle.std.specs.List.{range_with_len}
use Rattle.std.proofs.lemmas.Bool.{and_parts, ltb-true}
use Rattle.std.proofs.lemmas.List.{reverse-append, length-append}
use Rattle.std.proofs.lemmas.List.FromFn.{length-range_with_len}
use Rattle.definitions.specs.Plans.{rolled, is_enough, rollout_of}
use Rattle.plan_rollout.specs.Counts.{AreServed, before}
use Rattle.plan_rollout.proofs.Lists.{range-append}
use Rattle.plan_rollout.proofs.Rolled.{served-more, begins, goes-on, ends}
use Rattle.plan_rollout.proofs.rolling.steps_of.Goals as goal

pub loop-starts-init : goal.loop-starts-init
loop-starts-init c =
    let n = c.args.newcomers.now.workers in
    let none = c.new-steps.ensures.items in
    record {
      same = refl;
      room = λ i lt. omega (arith, c.requires.room i lt);
      some = omega arith;
      tries = omega (arith, ap length none);
      told = λ r s old new ready was. (
        was,
        begins (is_enough r s) c.args.surge s.workers n r.ready c.args.ready.now new.workers ready
            ∙ (λ i. before (sym none i) (rolled (is_enough r s) (n - length (sym none i)) c.args.surge
            (reverse (range_with_len 0 0)) (range_with_len 0 (n - 0)) c.args.ready.now)),
      );
    }

pub count_in-requires-clause-room : goal.count_in-requires-clause-room
count_in-requires-clause-room c = λ i lt. omega (
  arith,
  c.loop-starts.invariant.room i lt,
  c.loop-starts.invariant.some,
  c.requires.workers,
)

pub loop-starts-preserved : goal.loop-starts-preserved
loop-starts-preserved c =
    let loop = c.loop-starts in
    let inv = loop.invariant in
    let g = c.args.surge in
    let n = c.args.newcomers.now.workers in
    let m = loop.started in
    let on : (nat_lt 0 g && nat_lt g (n - m)) ≡ true = sym c.is_more.ensures ∙ c.loop-starts-test.true in
    let both = and_parts (nat_lt 0 g) (nat_lt g (n - m)) on in
    let some = ltb-true 0 g both.0 in
    let low : m + g < n = omega (arith, ltb-true g (n - m) both.1) in
    let begun = reverse (range_with_len 0 m) in
    let starts = c.numbers_from-starts.result in
    let longer = ap length c.in_ok-push.ensures.items ∙ length-append loop.steps.items _ in
    record {
      same = c.staying-stay.ensures.same ∙ (c.count_in.ensures.same ∙ inv.same);
      room = λ i lt.
          let there : i < length loop.counts = omega (
            arith,
            c.staying-stay.ensures.same,
            c.count_in.ensures.same,
            lt,
          ) in
          let came : i < length c.count_in.new.counts = omega (arith, c.staying-stay.ensures.same, lt) in
          omega (
            arith,
            c.staying-stay.ensures.fewer i lt,
            c.count_in.ensures.most i came,
            inv.room i there,
            ap length c.numbers_from-starts.ensures,
            length-range_with_len m g,
          );
      some = omega (arith, low);
      tries = omega (arith, longer, inv.tries, some);
      told = λ r s old new ready was.
          let before = inv.told r s old new ready was in
          let more = served-more r s begun loop.left starts loop.counts c.count_in.new.counts
          c.args.newcomers.now.groups.now c.args.newcomers.now.spots.now
          before.0 c.count_in.ensures.same new.groups c.as_slice.ensures.groups.some new.spots
          c.count_in.ensures.each in
          let stay = c.staying-stay.ensures.stay r s (reverse starts ++ begun) old more in
          let now : reverse starts ++ begun ≡ reverse (range_with_len 0 (m + g)) =
          ap (λ xs. reverse xs ++ begun) c.numbers_from-starts.ensures
          ∙ (sym (reverse-append (range_with_len 0 m) (range_with_len m g)) ∙
          ap reverse (range-append 0 m g m (m + g) (omega arith) refl)) in (
            subst (λ (xs : List ℕ). AreServed r s xs c.staying-stay.result c.staying-stay.new.counts) now stay.1,
            goes-on (is_enough r s) g n m loop.steps.items c.push.new.self.items loop.left c.staying-stay.result
                starts c.minus-quits.result (rollout_of r s g)
                inv.tries on low c.numbers_from-starts.ensures c.minus-quits.ensures c.in_ok-push.ensures.items
                stay.0 before.1,
          );
    }

pub returns : goal.returns
returns c =
    let loop = c.loop-starts in
    let g = c.args.surge in
    let n = c.args.newcomers.now.workers in
    let m = loop.started in
    let off : (nat_lt 0 g && nat_lt g (n - m)) ≡ false = sym c.is_more.ensures ∙ c.loop-starts-test.false in
    λ r s old new ready was.
    ends (is_enough r s) g n m loop.steps.items loop.left c.numbers_from-last.result (rollout_of r s g) off
    c.numbers_from-last.ensures
    (loop.invariant.told r s old new ready was).1
