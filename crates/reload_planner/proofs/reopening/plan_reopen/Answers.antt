use Rattle.std.proofs.Common.{false, ◌∙◌, ap}
use Rattle.plan_steps.specs.Fit.{is_fit}
use Rattle.reload_planner.proofs.Fitness.{reopening_fit}
use Rattle.reload_planner.proofs.reopening.plan_reopen.Goals as goal

pub finish-requires-clause-fit : goal.finish-requires-clause-fit
finish-requires-clause-fit c =
    let s = c.args.scene.now in
    ap (is_fit false) c.in_ok-first.ensures.made.is ∙ reopening_fit s.by s.crew c.deref.result.now s.ready s.rounds
