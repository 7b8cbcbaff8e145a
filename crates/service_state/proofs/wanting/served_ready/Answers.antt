use Rattle.std.proofs.Common.{ap, length, arith}
use Rattle.std.proofs.lemmas.List.{length-append}
use Rattle.std.proofs.lemmas.List.Sums.{count_by-le-length}
use Rattle.listener_set.proofs.NumberSets.{length-numbers}
use Rattle.definitions.specs.Master.{Record, layout_wanted}
use Rattle.service_state.specs.Wanted.{is_counted}
use Rattle.service_state.proofs.wanting.served_ready.Goals as goal

pub overflow_add-served : goal.overflow_add-served
overflow_add-served c =
    let loop = c.loop-number in
    let whole = ap length loop.invariant.split in
    let parts = length-append loop.yielded loop.number-iterator in
    let same = ap (λ (r : Record). length r.ready) c.state.view_is in
    let most = length-numbers c.state.inside.ready 1024 c.iter-number-items.ensures.numbers in
    let counted = count_by-le-length (is_counted (layout_wanted c.args.state.now c.args.target.now) c.args.address.now) loop.yielded in
    omega (arith, whole, parts, same, most, counted, loop.invariant.counted)
