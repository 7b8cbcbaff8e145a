use Rattle.std.proofs.Common.{◌≡◌, ◌++◌, map, drop}
use Rattle.std.specs.List.{filter_map}
use Rattle.kernel_model.specs.Readers.{row_of}
use Rattle.plan_executor.specs.Naming.{listed}
use Rattle.explorer.specs.Events.{exit_of}
use Rattle.explorer.proofs.effects.add_exits.Given as goal

abbrev pub invariant-loop-place : goal.invariant-loop-place
invariant-loop-place l =
    let rows = map row_of l.kernel.table.rows in
    l.mishaps.items ++ filter_map (exit_of (listed l.heir) l.above) (drop l.place rows) ≡ l.fn.mishaps.items ++ filter_map (exit_of (listed l.heir) l.above) rows
