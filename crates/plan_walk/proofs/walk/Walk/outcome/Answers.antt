use Rattle.std.proofs.Common.{Option, subst, sym, ◌∙◌}
use Rattle.plan_walk.specs.Path.{IsOver}
use Rattle.rollback_plan.specs.declared.cursor.Cursor.{Cursor}
use Rattle.rollback_plan.specs.Cursors.{rest_under}
use Rattle.plan_walk.specs.Rests.{rest_in}
use Rattle.plan_walk.proofs.TurnsUsed.{not_over}
use Rattle.plan_walk.proofs.walk.Walk.outcome.Goals as goal

pub unreachable-requires : goal.unreachable-requires
unreachable-requires c =
    let turns = c.requires.turns in
    not_over (rest_under c.in-Some.cursor turns) (sym c.in-None.is ∙ c.end.ensures turns) (subst (λ (o : Option Cursor). IsOver (rest_in o turns)) c.in-Some.is c.requires.over)
