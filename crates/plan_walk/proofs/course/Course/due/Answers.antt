use Rattle.plan_walk.specs.Course.{turns_left}
use Rattle.plan_walk.proofs.Courses.{due_given, over_given}
use Rattle.plan_walk.proofs.course.Course.due.Goals as goal

pub returns : goal.returns
returns c = record {
  some = due_given c.args.self.now.walk c.turn.result (turns_left c.args.self.now) c.due_at.result c.turn.ensures c.due_at.ensures.some;
  none = over_given c.args.self.now.walk (turns_left c.args.self.now) c.due_at.result c.due_at.ensures.none;
}
