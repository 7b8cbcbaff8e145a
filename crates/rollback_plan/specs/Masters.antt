-- Whose steps the parts of a plan are.
use Rattle.std.specs.Prelude.{ℕ, ◌≡◌, ◌==◌, Bool, true, ◌&&◌, not, List, Option, None, Some, if◌then◌else◌}
use Rattle.definitions.specs.Run.{Tree, Branches, Ends, Does, Nothing, Branch}
use Rattle.definitions.specs.Plans.{Turn}
use Rattle.plan_steps.specs.declared.parts.Parts.{Parts}
use Rattle.plan_steps.specs.declared.step.Next.{Next}
use Rattle.plan_steps.specs.declared.step.Next.TheVariants.{To}
use Rattle.plan_steps.specs.declared.step.Step.{Step}
use Rattle.plan_steps.specs.Steps.{tree_behind}
use Rattle.rollback_plan.specs.declared.cursor.At.{At}
use Rattle.rollback_plan.specs.declared.cursor.At.TheVariants.{Before, Beside, Behind}
use Rattle.rollback_plan.specs.Places.{goes_new}

-- a test holds of the master of each step
abbrev mutual
  pub all_by : (ℕ → Bool) → Tree → Bool
  all_by test (Ends end) = true
  all_by test (Does by order set branches) = test by && all_by_in test branches

  pub all_by_in : (ℕ → Bool) → Branches → Bool
  all_by_in test Nothing = true
  all_by_in test (Branch replies said rest more) = all_by test rest && all_by_in test more

-- no master has steps in both trees
abbrev pub are_apart : Tree → Tree → Bool
are_apart new old = all_by (λ image. all_by (λ other. not (image == other)) old) new

-- nor in both parts of a plan
abbrev pub parts_apart : List Step → Option Parts → Bool
parts_apart steps None = true
parts_apart steps (Some p) = are_apart (tree_behind steps (To p.new)) (tree_behind steps (To p.old))

-- nor in what is left of both, where a cursor stands in them
abbrev pub is_apart : List Step → At → Bool
is_apart steps (Before next) = true
is_apart steps (Beside new old) = are_apart (tree_behind steps new) (tree_behind steps old)
is_apart steps (Behind next) = true

-- nor behind an edge of the next step
abbrev pub leads_apart : List Step → At → Turn → Next → Bool
leads_apart steps (Before from) turn next = true
leads_apart steps (Beside new old) turn next =
    if goes_new new old turn then are_apart (tree_behind steps next) (tree_behind steps old) else are_apart (tree_behind steps new) (tree_behind steps next)
leads_apart steps (Behind from) turn next = true

-- a tree begins with a step of this master
abbrev pub begins_by : ℕ → Tree → Type 0
begins_by image (Ends end) = ⊥
begins_by image (Does by order set branches) = image ≡ by
