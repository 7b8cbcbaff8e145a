use Rattle.std.proofs.Common.{arith}
use Rattle.plan_steps.proofs.StepTrees.{length-trees_from}
use Rattle.rollback_plan.proofs.plan.Plan.len.Goals as goal

pub returns : goal.returns
returns c = omega (arith, length-trees_from 1 c.args.self.now.steps.items)
