use Rattle.std.proofs.Common.{ℕ, sym, subst}
use Rattle.std.proofs.lemmas.Result.{IfOk-weaker}
use Rattle.rollback_plan.specs.Drafts.{IsMade, LeadsTo}
use Rattle.upgrade_planner.specs.Trees.{staffing, coming_calls}
use Rattle.upgrade_planner.proofs.Takeovers.{part, came}
use Rattle.upgrade_planner.proofs.taking_over.add_new_part.Goals as goal

pub returns-clause-made : goal.returns-clause-made
returns-clause-made c =
    let u = c.args.upgrade.now in
    let mans = subst (λ (by : ℕ). LeadsTo c.add_staffing.new.draft c.in_ok-staffing.staffing (part by (staffing u.new.crew u.coming.now))) (sym c.master-by.ensures) c.in_ok-staffing.ensures.made in
    IfOk-weaker c.add_tried.result _ _
    (λ place made.
    subst (λ (by : ℕ). IsMade c.add_tried.new.draft place (part by (coming_calls u.new.crew u.dropped.now u.added.now u.coming.now))) c.master-by.ensures
    (came c.master-by.result (staffing u.new.crew u.coming.now) u.dropped.now u.added.now c.none.result c.add_staffing.new.draft c.add_tried_all.new.draft c.add_tried_all-2.new.draft c.add_tried.new.draft c.in_ok-staffing.staffing c.in_ok-opening.opening c.in_ok-closing.closing place
    c.none.ensures mans c.in_ok-opening.ensures.made c.in_ok-closing.ensures.made made))
    c.add_tried.ensures.made
