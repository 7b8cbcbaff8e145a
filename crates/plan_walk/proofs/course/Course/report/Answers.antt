use Rattle.plan_walk.specs.Course.{turns_left}
use Rattle.plan_walk.proofs.course.Course.report.Goals as goal

pub report-requires : goal.report-requires
report-requires c = record { turns = turns_left c.args.self.now; over = c.requires }

pub returns : goal.returns
returns c = c.report.ensures (turns_left c.args.self.now)
