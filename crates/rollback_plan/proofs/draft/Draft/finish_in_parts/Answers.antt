use Rattle.std.proofs.Common.{◌≡◌, false, true, sym, ◌∙◌, ap, arith}
use Rattle.std.proofs.lemmas.Bool.{and_from}
use Rattle.definitions.specs.Run.{Tree}
use Rattle.plan_steps.specs.Fit.{is_fit}
use Rattle.definitions.specs.Plans.{graft}
use Rattle.plan_steps.specs.Stretches.{longest_of}
use Rattle.plan_steps.specs.Woven.{part_end, answers}
use Rattle.plan_steps.proofs.StepTrees.{length-trees, length-trees_from}
use Rattle.plan_steps.proofs.Woven.{fit_answers}
use Rattle.rollback_plan.specs.Masters.{are_apart}
use Rattle.rollback_plan.proofs.DraftTrees.{at_place_is}
use Rattle.rollback_plan.proofs.draft.Draft.finish_in_parts.Goals as goal

-- a tree that is the same as a fit one answers
same_answers : (t u v : Tree) → t ≡ u → u ≡ v → is_fit false v ≡ true → answers t ≡ true
same_answers t u v e h fit = fit_answers false t (ap (is_fit false) (e ∙ h) ∙ fit)

pub number_in_parts-requires-clause-first : goal.number_in_parts-requires-clause-first
number_in_parts-requires-clause-first c = omega (arith, c.requires.made, length-trees c.args.self.steps.items)

pub invariant_of-result : goal.invariant_of-result
invariant_of-result c =
    let steps = c.args.self.steps.items in
    let parts = c.args.parts.now in
    let plan = c.in_ok-numbered.ensures.numbered in
    let fit = c.requires.fit in
    record {
      begins = omega (arith, plan.begins);
      leads_on = plan.on;
      placed = plan.placed;
      apart = (λ i. are_apart ((plan.new ∙ at_place_is steps parts.new) i) ((plan.old ∙ at_place_is steps parts.old) i)) ∙ c.requires.apart;
      answers = and_from _ _ (same_answers _ _ _ plan.tree (at_place_is steps c.args.first) fit.before)
          (and_from _ _ (same_answers _ _ _ plan.new (at_place_is steps parts.new) fit.new)
          (and_from _ _ (same_answers _ _ _ plan.old (at_place_is steps parts.old) fit.old)
          (and_from _ _ (same_answers _ _ _ plan.ready (at_place_is steps parts.ready) fit.ready) (same_answers _ _ _ plan.back (at_place_is steps parts.back) fit.back))));
      tall = c.in_ok-numbered.ensures.longest ∙ sym (λ i. longest_of (plan.tree i) (plan.new i) (plan.old i) (plan.ready i) (plan.back i));
      numbered = ∣ record { steps = steps; first = c.args.first.0; parts = parts; is = plan.numbering } ∣₁;
    }

pub returns-clause-few : goal.returns-clause-few
returns-clause-few c = omega (arith, c.in_ok-numbered.ensures.numbered.few, length-trees_from 1 c.in_ok-numbered.numbered.steps.items, length-trees c.args.self.steps.items)

pub returns-clause-tree : goal.returns-clause-tree
returns-clause-tree c =
    let plan = c.in_ok-numbered.ensures.numbered in
    λ turns i. graft (part_end (plan.ready i) (plan.back i) (plan.new i) (plan.old i) turns) (plan.tree i)

pub returns-clause-longest : goal.returns-clause-longest
returns-clause-longest c =
    let plan = c.in_ok-numbered.ensures.numbered in
    λ i. longest_of (plan.tree i) (plan.new i) (plan.old i) (plan.ready i) (plan.back i)
