use Rattle.std.proofs.Common.{◌≡◌, ◌++◌, drop}
use Rattle.kernel_model.specs.Readers.{hold_rows}
use Rattle.life_account.proofs.Opening.{opens}
use Rattle.life_account.proofs.opened.first_open.Given as goal

abbrev pub invariant-loop-place : goal.invariant-loop-place
invariant-loop-place l =
    l.kept.items ++ opens l.process (drop l.place (hold_rows l.kernel.table.rows)) ≡ opens l.process (hold_rows l.kernel.table.rows)
