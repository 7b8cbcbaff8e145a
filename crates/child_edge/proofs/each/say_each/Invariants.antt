use Rattle.std.proofs.Common.{drop}
use Rattle.child_edge.specs.Each.{says_each}
use Rattle.child_edge.specs.Turns.{GoesOn}
use Rattle.child_edge.specs.Table.{Turn}
use Rattle.child_edge.proofs.each.say_each.Given as goal

abbrev pub invariant-loop-worker : goal.invariant-loop-worker
invariant-loop-worker g l = (rest : Turn) → GoesOn (g.F.Family.told l.initial.family) (g.F.Family.told l.family) (says_each l.who l.line l.workers rest) (says_each l.who l.line (drop l.worker-index l.workers) rest)
