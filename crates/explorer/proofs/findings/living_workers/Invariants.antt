use Rattle.std.proofs.Common.{◌≡◌, ◌≤◌, ◌+◌, map, drop, count_by}
use Rattle.kernel_model.specs.Readers.{row_of}
use Rattle.explorer.specs.Most.{is_living_row}
use Rattle.explorer.proofs.findings.living_workers.Given as goal

abbrev pub invariant-loop-place : goal.invariant-loop-place
invariant-loop-place l =
    let rows = map row_of l.kernel.table.rows in
    record {
      few : l.workers ≤ l.place;
      all : l.workers + count_by is_living_row (drop l.place rows) ≡ count_by is_living_row rows;
    }
