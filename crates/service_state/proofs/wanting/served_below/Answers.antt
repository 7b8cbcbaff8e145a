use Rattle.std.proofs.Common.{arith}
use Rattle.service_state.proofs.Serving.{counted-below}
use Rattle.definitions.specs.Master.{layout_wanted}
use Rattle.service_state.specs.Wanted.{is_counted}
use Rattle.service_state.proofs.wanting.served_below.Goals as goal

pub overflow_add-served : goal.overflow_add-served
overflow_add-served c =
    let most = counted-below (is_counted (layout_wanted c.args.state.now c.args.target.now) c.args.address.now) c.loop-number.number in
    omega (arith, c.loop-number.invariant, most, c.loop-number-test.true, c.ranges.bound.fits)
