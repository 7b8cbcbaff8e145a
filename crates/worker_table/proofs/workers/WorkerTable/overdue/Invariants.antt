use Rattle.worker_table.proofs.Loops.{Gathers}
use Rattle.worker_table.proofs.workers.WorkerTable.overdue.Given as goal

abbrev pub invariant-loop-nr : goal.invariant-loop-nr
invariant-loop-nr l = Gathers l.self l.now l.timeout l.nr l.overdue
