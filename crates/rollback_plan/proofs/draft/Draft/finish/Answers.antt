use Rattle.std.proofs.Common.{false, refl, sym, ◌∙◌, ap, arith}
use Rattle.call_laws.specs.Lengths.{height}
use Rattle.plan_steps.specs.Fit.{is_fit}
use Rattle.plan_steps.specs.Steps.{first_tree}
use Rattle.plan_steps.proofs.StepTrees.{length-trees, length-trees_from}
use Rattle.plan_steps.proofs.Woven.{fit_answers}
use Rattle.rollback_plan.proofs.DraftTrees.{at_place_is}
use Rattle.rollback_plan.proofs.draft.Draft.finish.Goals as goal

pub number_steps-requires-clause-first : goal.number_steps-requires-clause-first
number_steps-requires-clause-first c = omega (arith, c.requires.made, length-trees c.args.self.steps.items)

pub invariant_of-result : goal.invariant_of-result
invariant_of-result c =
    let plan = c.in_ok-numbered.ensures.numbered in
    record {
      begins = omega (arith, plan.begins);
      leads_on = plan.on;
      placed = refl;
      apart = refl;
      answers = fit_answers false (first_tree c.in_ok-numbered.numbered.steps.items) (ap (is_fit false) (plan.tree ∙ at_place_is c.args.self.steps.items c.args.first) ∙ c.requires.fit);
      tall = c.in_ok-numbered.ensures.longest ∙ ap height (sym plan.tree);
      numbered = ∣ record { steps = c.args.self.steps.items; first = c.args.first.0; is = plan.numbering } ∣₁;
    }

pub returns-clause-tree : goal.returns-clause-tree
returns-clause-tree c = λ turns. c.in_ok-numbered.ensures.numbered.tree ∙ at_place_is c.args.self.steps.items c.args.first

pub returns-clause-few : goal.returns-clause-few
returns-clause-few c = omega (arith, c.in_ok-numbered.ensures.numbered.few, length-trees_from 1 c.in_ok-numbered.numbered.steps.items, length-trees c.args.self.steps.items)
