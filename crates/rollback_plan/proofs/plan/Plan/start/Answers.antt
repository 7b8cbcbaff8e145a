use Rattle.plan_steps.proofs.Woven.{woven_answers, woven_height}
use Rattle.rollback_plan.proofs.plan.Plan.start.Goals as goal

pub returns-clause-answers : goal.returns-clause-answers
returns-clause-answers c = λ turns. woven_answers c.args.self.now.steps.items c.args.self.now.parts turns c.args.self.now.answers

pub returns-clause-longest : goal.returns-clause-longest
returns-clause-longest c = λ turns. woven_height c.args.self.now.steps.items c.args.self.now.parts turns
