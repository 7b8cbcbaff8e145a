use Rattle.std.proofs.Common.{ℕ, List, [], drop, take}
use Rattle.child_edge.specs.Each.{beats_each}
use Rattle.child_workers.specs.declared.worker.Worker.{Worker}
use Rattle.child_edge.specs.Table.{Turn}
use Rattle.child_edge.specs.Turns.{GoesOn}
use Rattle.child_edge.proofs.each.beat_each.Given as goal

abbrev pub invariant-loop-at : goal.invariant-loop-at
invariant-loop-at g l = (rest : List Worker → List ℕ → Turn) → GoesOn (g.F.Family.told l.initial.family) (g.F.Family.told l.family) (beats_each l.now [] [] l.initial.workers rest) (beats_each l.now (take l.at l.workers) l.numbers (drop l.at l.workers) rest)
