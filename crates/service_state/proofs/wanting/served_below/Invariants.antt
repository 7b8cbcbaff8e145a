use Rattle.std.proofs.Common.{◌≡◌}
use Rattle.listener_set.specs.Numbers.{numbers_below}
use Rattle.definitions.specs.Master.{served, layout_wanted}
use Rattle.service_state.proofs.wanting.served_below.Given as goal

abbrev pub invariant-loop-number : goal.invariant-loop-number
invariant-loop-number l = l.served ≡ served (layout_wanted l.state l.target) (numbers_below l.number) l.address
