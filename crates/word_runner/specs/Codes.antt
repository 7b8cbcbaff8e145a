-- The codes of words that are carried out nowhere.
use Rattle.std.specs.Prelude.{ℕ, List, ◌++◌, codes}
use Rattle.reload_planner.specs.Codes.{plan_code}
use Rattle.reload_planner.specs.declared.refusal.PlanRefusal.{PlanRefusal}

-- there is no master any more
abbrev pub stopped_code : List ℕ
stopped_code = codes "V1"

-- there is no plan, and why
abbrev pub unplanned_code : PlanRefusal → List ℕ
unplanned_code refusal = codes "E3 " ++ plan_code refusal
