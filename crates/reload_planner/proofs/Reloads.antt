-- The generation of a reload, and how long a plan is.
use Rattle.std.proofs.Common.{◌≡◌, ◌+◌, Bool, true, false, List, [], Some, Result, Ok, Err, sym, ◌∙◌, ap}
use Rattle.std.specs.Prelude.{IfOk}
use Rattle.std.specs.Bool.{then_some}
use Rattle.listener_set.specs.declared.generation.Generation.{Generation}
use Rattle.definitions.specs.Master.{reload_generation, has_next}
use Rattle.definitions.specs.After.{next_config}
use Rattle.definitions.specs.Plans.{Turn}
use Rattle.definitions.specs.Run.{Tree}
use Rattle.call_laws.specs.Lengths.{height}
use Rattle.rollback_plan.specs.declared.plan.Plan.{Plan}
use Rattle.rollback_plan.specs.Plans.{tree_of, tree_under, length_of}
use Rattle.reload_planner.specs.declared.refusal.PlanRefusal.{PlanRefusal}

pub next_is : (g new : Generation) → next_config g ≡ Some new → new ≡ reload_generation g
next_is g new h = one (has_next g.config) h
  where
    one : (b : Bool) → then_some b (reload_generation g) ≡ Some new → new ≡ reload_generation g
    one true e = let is : reload_generation g ≡ new = cc in sym is
    one false e = cc

-- a plan of a tree is as long as the tree is high
pub as_long : (result : Result Plan PlanRefusal) (tree : Tree) →
    IfOk result (λ plan. (turns : List Turn) → tree_under plan turns ≡ tree) →
    IfOk result (λ plan. length_of plan ≡ height (tree_of plan)) → IfOk result (λ plan. length_of plan ≡ height tree)
as_long (Err e) tree is long = tt
as_long (Ok plan) tree is long = long ∙ ap height (is [])
