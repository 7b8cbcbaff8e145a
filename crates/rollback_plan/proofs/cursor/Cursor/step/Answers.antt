use Rattle.std.proofs.Common.{◌≡◌, ◌-◌, ◌<◌, Some, List, get_or, slice_get, refl, sym, ◌∙◌, ap, subst, length}
use Rattle.std.proofs.lemmas.Option.{slice_get_read}
use Rattle.plan_steps.specs.declared.step.Next.{Next}
use Rattle.plan_steps.specs.declared.step.Next.TheVariants.{To}
use Rattle.plan_steps.specs.declared.step.Step.{Step}
use Rattle.rollback_plan.specs.Places.{chosen_at}
use Rattle.rollback_plan.proofs.PlanTrees.{within_at, leads_within_at}
use Rattle.rollback_plan.proofs.CursorTrees.{StandsAt, chosen_within, goes_at}
use Rattle.rollback_plan.proofs.Apart.{led_apart}
use Rattle.rollback_plan.proofs.cursor.Cursor.step.Goals as goal

pub returns-in-To-clause-some : goal.returns-in-To-clause-some
returns-in-To-clause-some c =
    let me = c.args.self.now in
    let plan = me.plan.now in
    let steps = plan.steps.items in
    let parts = plan.parts in
    let s = c.index-steps-place.result in
    let k = c.in-To.place.0 - 1 in
    let is : chosen_at me.at c.args.turn ≡ To c.in-To.place = sym c.chosen.ensures ∙ c.in-To.is in
    let low : k < length steps = within_at steps (chosen_at me.at c.args.turn) c.in-To.place is (chosen_within steps parts me.at c.args.turn me.within) in
    let at : slice_get steps k ≡ Some s = slice_get_read steps (length steps) k s refl low (c.index-steps-place.is ∙ ap (λ (xs : List Step). get_or xs k s) c.steps.ensures.steps) in
    let stands : StandsAt steps (chosen_at me.at c.args.turn) s = subst (λ (n : Next). StandsAt steps n s) (sym is) at in
    record {
      first = λ turns turn. (goes_at steps parts me.at c.args.turn turns s plan.leads_on me.within turn stands).first;
      leads = λ turns answer turn. (goes_at steps parts me.at c.args.turn turns s plan.leads_on me.within turn stands).leads answer;
      within = leads_within_at 0 steps k s plan.leads_on at;
      apart = led_apart steps me.at c.args.turn s plan.leads_on stands me.apart;
    }
