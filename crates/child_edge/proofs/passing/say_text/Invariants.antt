use Rattle.std.proofs.Common.{length}
use Rattle.plain_text.specs.Lines.{lines_of}
use Rattle.child_edge.specs.Each.{says_unless}
use Rattle.child_edge.specs.Table.{Turn}
use Rattle.child_edge.specs.Turns.{GoesOn}
use Rattle.child_edge.proofs.passing.say_text.Given as goal

abbrev pub invariant-loop-rest : goal.invariant-loop-rest
invariant-loop-rest g l = (otherwise next : Turn) → GoesOn (g.F.Family.told l.initial.family) (g.F.Family.told l.family) (says_unless l.id (lines_of l.text) otherwise next) (says_unless l.id (lines_of l.rest) otherwise next)

abbrev pub decreases-loop-rest : goal.decreases-loop-rest
decreases-loop-rest g l = length l.rest
