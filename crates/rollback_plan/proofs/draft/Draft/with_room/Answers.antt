use Rattle.std.proofs.Common.{[], ap}
use Rattle.plan_steps.specs.Steps.{trees_after}
use Rattle.plan_steps.specs.Stretches.{steps_split_to}
use Rattle.rollback_plan.proofs.draft.Draft.with_room.Goals as goal

pub returns-clause-none : goal.returns-clause-none
unfolding trees_after
returns-clause-none c = ap (trees_after []) c.in_ok-with_capacity.ensures.items

pub returns-clause-splits : goal.returns-clause-splits
returns-clause-splits c = λ a b. ap (steps_split_to a b) c.in_ok-with_capacity.ensures.items
