use Rattle.std.proofs.Common.{ℕ, ap, subst}
use Rattle.std.proofs.lemmas.Result.{IfOk-weaker}
use Rattle.definitions.specs.Master.{Crew}
use Rattle.rollback_plan.specs.Drafts.{LeadsTo}
use Rattle.upgrade_planner.specs.Trees.{staffing}
use Rattle.upgrade_planner.proofs.Takeovers.{part, staffed}
use Rattle.upgrade_planner.proofs.taking_over.add_staffing.Goals as goal

pub returns-clause-made : goal.returns-clause-made
returns-clause-made c =
    let u = c.args.upgrade.now in
    let here = ap (λ (crew : Crew). crew.generation) c.crew.view_is in
    IfOk-weaker c.add_tried_all-2.result _ _
    (λ next made.
    subst (λ (by : ℕ). LeadsTo c.add_tried_all-2.new.draft next (part by (staffing u.new.crew u.coming.now))) c.master-by.ensures
    (staffed c.master-by.result u.new.crew c.crew.inside.generation u.coming.now c.add_tried_all.new.draft c.add_tried_all-2.new.draft c.in_ok-waiting.waiting next here c.in_ok-waiting.ensures.made made))
    c.add_tried_all-2.ensures.made
