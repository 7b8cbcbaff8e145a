use Rattle.std.proofs.Common.{arith}
use Rattle.plan_steps.proofs.StepTrees.{length-trees}
use Rattle.rollback_plan.proofs.draft.Draft.len.Goals as goal

pub returns-clause-count : goal.returns-clause-count
returns-clause-count c = omega (arith, length-trees c.args.self.now.steps.items)
