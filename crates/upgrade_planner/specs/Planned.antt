-- Which targets have a plan.
use Rattle.std.specs.Prelude.{◌≡◌, true, false}
use Rattle.definitions.specs.Master.{Record}
use Rattle.service_state.specs.Targets.{lacks_generation}
use Rattle.vocabulary.specs.declared.targets.Target.{Target}
use Rattle.reload_planner.specs.declared.refusal.PlanRefusal.{PlanRefusal}
use Rattle.reload_planner.specs.declared.refusal.PlanRefusal.TheVariants.{TooLarge, Unplanned, NoGeneration, Memory}

-- There is a plan: no number of the target's generation would pass its limit.
abbrev pub HasPlan : Record → Target → Type 0
HasPlan r target = lacks_generation r target ≡ false

-- When a target's planner refuses it so, want of memory aside. Each target has a planner, and no plan is too large.
abbrev pub HasNoPlan : Record → Target → PlanRefusal → Type 0
HasNoPlan r target Unplanned = ⊥
HasNoPlan r target TooLarge = ⊥
HasNoPlan r target NoGeneration = lacks_generation r target ≡ true
HasNoPlan r target Memory = ⊥
