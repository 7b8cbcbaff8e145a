-- Refusals of a draft.
use Rattle.rollback_plan.specs.declared.draft.DraftRefusal.{DraftRefusal}
use Rattle.rollback_plan.specs.declared.draft.DraftRefusal.TheVariants as draft
use Rattle.reload_planner.specs.declared.refusal.PlanRefusal.{PlanRefusal}
use Rattle.reload_planner.specs.declared.refusal.PlanRefusal.TheVariants.{TooLarge, Memory}

-- the refusal of a plan that a draft's refusal makes
abbrev pub plan_refusal : DraftRefusal → PlanRefusal
plan_refusal draft.TooLarge = TooLarge
plan_refusal draft.Memory = Memory
