use Rattle.master_on_kernel.specs.Goals.{AreGoals}
use Rattle.master_on_kernel.proofs.goals.read_goals.Given as goal

abbrev pub invariant-loop-file : goal.invariant-loop-file
invariant-loop-file g l = AreGoals l.first l.goals.items
