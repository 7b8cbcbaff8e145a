use Rattle.std.proofs.Common.{◌≡◌, ◌<◌, ℕ, true}
use Rattle.worker_table.specs.Beats.{has_worker}
use Rattle.worker_table.proofs.workers.WorkerTable.lowest_missing.Given as goal

-- each number so far is there
abbrev pub invariant-loop-nr : goal.invariant-loop-nr
invariant-loop-nr l = (k : ℕ) → k < l.nr → has_worker l.self k ≡ true
