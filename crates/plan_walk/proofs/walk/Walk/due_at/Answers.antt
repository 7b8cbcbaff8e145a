use Rattle.plan_walk.proofs.DueSteps.{due_next}
use Rattle.plan_walk.proofs.walk.Walk.due_at.Goals as goal

pub returns-clause-some : goal.returns-clause-some
returns-clause-some c = due_next c.args.self.now c.in_ok-self.field-0 c.args.turn c.in_ok-step.step.now c.call.result c.in_ok-self.was c.in_ok-step.ensures.some c.call.ensures
