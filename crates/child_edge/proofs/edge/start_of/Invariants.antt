use Rattle.std.proofs.Common.{◌≡◌, drop, None}
use Rattle.child_edge.specs.Edge.{start_after}
use Rattle.child_edge.proofs.edge.start_of.Given as goal

abbrev pub invariant-loop-worker : goal.invariant-loop-worker
invariant-loop-worker l = start_after l.nr l.found (drop l.worker-index l.workers) ≡ start_after l.nr None l.workers
