use Rattle.std.proofs.Common.{false, ◌∙◌, ap}
use Rattle.plan_steps.specs.Fit.{is_fit}
use Rattle.reload_planner.proofs.Fitness.{stop_fit}
use Rattle.reload_planner.proofs.stopping.plan_stop.Goals as goal

pub finish-requires-clause-fit : goal.finish-requires-clause-fit
finish-requires-clause-fit c =
    let s = c.args.scene.now in
    ap (is_fit false) c.in_ok-first.ensures.made.is ∙ stop_fit s.by s.crew.generation c.deref.result.now c.args.path c.args.note c.args.quick
