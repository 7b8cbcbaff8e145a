use Rattle.std.proofs.Common.{◌≡◌, [], drop}
use Rattle.child_workers.specs.Workers.{add_numbers}
use Rattle.child_edge.proofs.workers.numbers_of.Given as goal

abbrev pub invariant-loop-worker : goal.invariant-loop-worker
invariant-loop-worker l = add_numbers l.who l.numbers (drop l.worker-index l.workers) ≡ add_numbers l.who [] l.workers
