use Rattle.std.proofs.Common.{◌≡◌, ◌+◌, length}
use Rattle.std.specs.Prelude.{slice_get}
use Rattle.std.specs.List.{AllByRecursion}
use Rattle.kernel_table.specs.Room.{HasSockets}
use Rattle.kernel_rows.specs.Seen.{seen_rows}
use Rattle.kernel_model.specs.Readers.{hold_rows}
use Rattle.kernel_model.proofs.readers.HoldRow.of_all.Given as goal

abbrev pub invariant-loop-holder : goal.invariant-loop-holder
invariant-loop-holder l = record {
  same : slice_get (hold_rows (seen_rows l.addresses l.holders.items)) l.i ≡ slice_get (hold_rows (seen_rows l.addresses l.holder-iterator)) l.rest;
  sockets : AllByRecursion (HasSockets (length l.addresses + 1)) (seen_rows l.addresses l.holder-iterator);
}
