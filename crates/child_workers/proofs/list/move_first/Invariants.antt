use Rattle.std.proofs.Common.{◌≡◌, ◌++◌, drop, take}
use Rattle.child_workers.specs.Workers.{moved_first}
use Rattle.child_workers.proofs.list.move_first.Given as goal

abbrev pub invariant-loop-worker : goal.invariant-loop-worker
invariant-loop-worker l = take l.worker-index l.workers ++ moved_first l.who l.stage (drop l.worker-index l.workers) ≡ moved_first l.who l.stage l.initial.workers
