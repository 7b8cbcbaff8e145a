use Rattle.plan_walk.proofs.NewFirst.{due_first, over_first}
use Rattle.plan_walk.proofs.walk.Walk.due.Goals as goal

pub returns : goal.returns
returns c = record {
  some = due_first c.args.self.now c.due_at.result c.due_at.ensures.some;
  none = over_first c.args.self.now c.due_at.result c.due_at.ensures.none;
}
