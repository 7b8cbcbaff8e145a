use Rattle.std.proofs.Common.{◌≡◌, ◌++◌}
use Rattle.definitions.specs.Master.{served, layout_wanted}
use Rattle.service_state.proofs.wanting.served_ready.Given as goal

abbrev pub invariant-loop-number : goal.invariant-loop-number
invariant-loop-number l = record {
  split : l.yielded ++ l.number-iterator ≡ l.state.ready;
  counted : l.served ≡ served (layout_wanted l.state l.target) l.yielded l.address;
}
