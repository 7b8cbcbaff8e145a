use Rattle.std.proofs.Common.{◌≡◌, ◌++◌, drop, take}
use Rattle.child_workers.specs.Workers.{moved}
use Rattle.child_edge.proofs.workers.move_each.Given as goal

abbrev pub invariant-loop-worker : goal.invariant-loop-worker
invariant-loop-worker l = take l.worker-index l.workers ++ moved l.who l.stage (drop l.worker-index l.workers) ≡ moved l.who l.stage l.initial.workers
