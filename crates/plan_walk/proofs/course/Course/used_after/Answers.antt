use Rattle.std.proofs.Common.{◌∙◌}
use Rattle.plan_walk.specs.Course.{turns_of, turns_left}
use Rattle.plan_walk.proofs.TurnsUsed.{without_drop}
use Rattle.plan_walk.proofs.course.Course.used_after.Goals as goal

pub returns-then-takes_turns-clause-left : goal.returns-then-takes_turns-clause-left
returns-then-takes_turns-clause-left c =
    let course = c.args.self.now in
    c.takes_turns.ensures.both c.if-takes_turns.true (turns_left course) ∙ without_drop course.used (turns_of course)
