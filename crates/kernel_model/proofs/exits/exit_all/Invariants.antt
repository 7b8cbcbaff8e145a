use Rattle.std.proofs.Common.{◌≡◌, drop}
use Rattle.definitions.specs.Calls.{after_exits}
use Rattle.kernel_table.specs.Seen.{seen}
use Rattle.kernel_table.specs.Room.{EditsRows, IsKept}
use Rattle.kernel_model.proofs.exits.exit_all.Given as goal

abbrev pub invariant-loop-name : goal.invariant-loop-name
invariant-loop-name l = record {
  table : after_exits (drop l.name-index l.names) (seen l.store) ≡ after_exits l.names (seen l.fn.store);
  kept : IsKept (seen l.store);
  room : EditsRows l.fn.store l.store;
}
