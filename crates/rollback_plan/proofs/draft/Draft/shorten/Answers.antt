use Rattle.std.proofs.Common.{[], ◌∙◌, sym, ap, arith, true, ◌≡◌, subst, List}
use Rattle.plan_steps.specs.declared.step.Step.{Step}
use Rattle.plan_steps.specs.Steps.{trees_after, all_lead_back}
use Rattle.plan_steps.specs.Stretches.{steps_split_to}
use Rattle.plan_steps.proofs.StepTrees.{trees-take, all_lead_back-take}
use Rattle.rollback_plan.proofs.Splits.{splits_take}
use Rattle.rollback_plan.proofs.draft.Draft.shorten.Goals as goal

pub invariant_of-self : goal.invariant_of-self
invariant_of-self c =
    record {
      few = omega (arith, c.truncate.ensures.len, c.args.self.now.few);
      back = subst (λ (steps : List Step). all_lead_back 0 steps ≡ true) (sym c.truncate.ensures.items) (all_lead_back-take 0 c.args.steps c.args.self.now.steps.items c.args.self.now.back);
    }

pub returns-clause-trees : goal.returns-clause-trees
returns-clause-trees c = ap (trees_after []) c.truncate.ensures.items ∙ trees-take c.args.steps c.args.self.now.steps.items

pub returns-clause-splits : goal.returns-clause-splits
returns-clause-splits c = λ a b h. ap (steps_split_to a b) c.truncate.ensures.items ∙ splits_take a b c.args.steps c.args.self.now.steps.items h
