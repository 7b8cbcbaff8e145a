use Rattle.std.proofs.Common.{◌∙◌, [], ap}
use Rattle.plan_steps.specs.Steps.{trees_after}
use Rattle.plan_steps.specs.Stretches.{steps_split_to}
use Rattle.plan_steps.proofs.StepTrees.{trees_after-nil}
use Rattle.rollback_plan.proofs.draft.Draft.new.Goals as goal

pub returns-clause-none : goal.returns-clause-none
returns-clause-none c = ap (trees_after []) c.new.ensures.items ∙ trees_after-nil

pub returns-clause-splits : goal.returns-clause-splits
returns-clause-splits c = λ a b. ap (steps_split_to a b) c.new.ensures.items
