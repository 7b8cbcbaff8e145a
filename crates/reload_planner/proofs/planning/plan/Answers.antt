use Rattle.std.proofs.Common.{◌≤◌, length, sym, subst, arith}
use Rattle.std.specs.Prelude.{IfOk}
use Rattle.std.proofs.lemmas.Result.{IfOk-weaker}
use Rattle.vocabulary.specs.declared.targets.Target.{Target}
use Rattle.rollback_plan.specs.Plans.{trees_in}
use Rattle.reload_planner.specs.Planning.{most_steps}
use Rattle.reload_planner.proofs.Sets.{length-below}
use Rattle.reload_planner.proofs.planning.plan.Goals as goal

pub returns-in-Workers-clause-few : goal.returns-in-Workers-clause-few
returns-in-Workers-clause-few c = grind (arith, length-below)

pub returns-in-Mend-clause-few : goal.returns-in-Mend-clause-few
returns-in-Mend-clause-few c = grind (arith, length-below)

pub returns-in-Reload-clause-few : goal.returns-in-Reload-clause-few
returns-in-Reload-clause-few c =
    let r = c.args.state.now in
    let s = c.in-Reload.settings in
    subst (λ (target : Target). IfOk c.plan_reload.result (λ plan. length (trees_in plan) ≤ most_steps r target))
    (sym c.in-Reload.is)
    (IfOk-weaker c.plan_reload.result _ _ (λ plan few. omega (arith, few, length-below s.workers)) c.plan_reload.ensures.few)
