-- The codes of the refusals, as they are printed.
use Rattle.std.specs.Prelude.{ℕ, List, codes}
use Rattle.reload_planner.specs.declared.refusal.PlanRefusal.{PlanRefusal}
use Rattle.reload_planner.specs.declared.refusal.PlanRefusal.TheVariants.{TooLarge, Unplanned, NoGeneration, Memory}

abbrev pub plan_code : PlanRefusal → List ℕ
plan_code TooLarge = codes "P1"
plan_code Unplanned = codes "P2"
plan_code NoGeneration = codes "P3"
plan_code Memory = codes "out of memory"
