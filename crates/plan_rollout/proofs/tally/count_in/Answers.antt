use Rattle.std.proofs.Common.{[], length, get_or, ap, arith}
use Rattle.std.proofs.lemmas.List.{length-append}
use Rattle.std.proofs.lemmas.List.Sums.{count_by-le-length}
use Rattle.listener_set.specs.Numbers.{is_in}
use Rattle.listener_set.proofs.NumberSets.{length-numbers}
use Rattle.worker_groups.specs.Groups.{group_of}
use Rattle.plan_rollout.proofs.tally.count_in.Goals as goal

pub add_at-requires-clause-room : goal.add_at-requires-clause-room
add_at-requires-clause-room c =
    let loop = c.loop-number in
    λ i lt.
    let whole = ap length loop.invariant.split in
    let parts = length-append loop.yielded loop.number-iterator in
    let most = length-numbers c.args.numbers.now 1024 c.iter-number-items.ensures.numbers in
    let counted = count_by-le-length (λ k. is_in (get_or c.args.spots.now (group_of c.args.groups.now k) []) i)
    loop.yielded in
    omega (
      arith,
      whole,
      parts,
      most,
      counted,
      loop.invariant.each i (omega (arith, loop.invariant.same, lt)),
      c.requires.room i (omega (arith, loop.invariant.same, lt)),
    )

pub returns-clause-most : goal.returns-clause-most
returns-clause-most c =
    let loop = c.loop-number in
    λ i lt.
    let whole = ap length loop.invariant.split in
    let parts = length-append loop.yielded loop.number-iterator in
    let counted = count_by-le-length (λ k. is_in (get_or c.args.spots.now (group_of c.args.groups.now k) []) i)
    loop.yielded in
    omega (arith, whole, parts, counted, loop.invariant.each i (omega (arith, loop.invariant.same, lt)))

pub returns-clause-numbers : goal.returns-clause-numbers
returns-clause-numbers c = length-numbers c.args.numbers.now 1024 c.iter-number-items.ensures.numbers
