-- Which orders of a plan there are.
use Rattle.std.specs.Prelude.{ℕ, ◌≡◌, ◌-◌, ◌*◌, ◌⊎◌, min, Bool, List, Option, Some, None}
use Rattle.vocabulary.specs.declared.targets.Target.{Target}
use Rattle.definitions.specs.Plans.{Turn, plan_tree}
use Rattle.definitions.specs.Master.{Record}
use Rattle.plan_steps.specs.declared.parts.Parts.{Parts}
use Rattle.rollback_plan.specs.declared.plan.Plan.{Plan}
use Rattle.rollback_plan.specs.Plans.{parts_of, tree_under}
use Rattle.plan_executor.specs.Refusals.{HasNoPlan}
use Rattle.reload_planner.specs.declared.refusal.PlanRefusal.{PlanRefusal}
use Rattle.explorer.specs.Explored.{most_events}
use Rattle.turn_orders.specs.Orders.{orders, AreAllOrders}
use Rattle.order_explorer.specs.declared.choosing.ChosenOrders.{ChosenOrders}

-- how many steps the part of each master has: the old one's follow the new one's, and those where the plan goes on follow both
abbrev pub news_in : Option Parts → ℕ
news_in None = 0
news_in (Some parts) = parts.old.0 - parts.new.0

abbrev pub olds_in : Option Parts → ℕ
olds_in None = 0
olds_in (Some parts) = min parts.ready.0 parts.back.0 - parts.old.0

-- A run whose events are so many has at most four calls of the old master's part for each: a count, a start, a wait, and a
-- count or a kill.
abbrev pub most_olds : Bool → Option Parts → ℕ
most_olds pairs parts = min (olds_in parts) (4 * most_events pairs)

-- All orders of these parts, each once; the one without turns where there are none.
pub record AreOrdersOf (pairs : Bool) (parts : Option Parts) (chosen : ChosenOrders) : Type 0 where
  pub old : chosen.olds ≡ most_olds pairs parts
  pub new : chosen.news ≡ news_in parts
  pub lists : chosen.lists.items ≡ orders chosen.olds chosen.news
  pub all : AreAllOrders chosen.olds chosen.news chosen.lists.items

-- those of the parts of a plan of the target
pub record AreOfPlan (r : Record) (target : Target) (pairs : Bool) (chosen : ChosenOrders) : Type 0 where
  pub plan : Plan
  pub is_its : (turns : List Turn) → tree_under plan turns ≡ plan_tree r target turns
  pub orders : AreOrdersOf pairs (parts_of plan) chosen

-- the one of a target without a plan
pub record IsUnplanned (r : Record) (target : Target) (pairs : Bool) (chosen : ChosenOrders) : Type 0 where
  pub refusal : PlanRefusal
  pub due : HasNoPlan r target refusal
  pub orders : AreOrdersOf pairs None chosen

-- The orders of a target: those of its plan, or the one without turns where it has no plan.
abbrev pub IsChosen : Record → Target → Bool → ChosenOrders → Type 0
IsChosen r target pairs chosen = AreOfPlan r target pairs chosen ⊎ IsUnplanned r target pairs chosen
