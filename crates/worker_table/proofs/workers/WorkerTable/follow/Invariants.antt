use Rattle.worker_table.proofs.Loops.{Follows}
use Rattle.worker_table.proofs.workers.WorkerTable.follow.Given as goal

abbrev pub invariant-loop-nr : goal.invariant-loop-nr
invariant-loop-nr l = Follows l.fn.self l.ready l.started l.nr l.self
