use Rattle.std.proofs.Common.{Option, ◌∙◌, ap}
use Rattle.std.specs.Prelude.{unwrap_or}
use Rattle.definitions.specs.Plans.{Turn, New}
use Rattle.plan_walk.proofs.TurnsUsed.{turn_there}
use Rattle.plan_walk.proofs.course.Course.turn.Goals as goal

pub returns : goal.returns
returns c = c.unwrap_or.ensures ∙ (ap (λ (o : Option Turn). unwrap_or o New) c.get.ensures ∙ turn_there c.args.self.now.turns.now c.args.self.now.used)
