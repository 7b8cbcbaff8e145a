-- The tree of steps with two parts, under the turns that the two masters take.
use Rattle.std.specs.Prelude.{ℕ, Bool, true, ◌&&◌, List, Option, None, Some, is_some}
use Rattle.std.specs.List.{list_all}
use Rattle.vocabulary.specs.declared.plans.End.{End}
use Rattle.vocabulary.specs.declared.plans.End.TheVariants.{Split}
use Rattle.call_laws.specs.Pieces.{branch}
use Rattle.definitions.specs.Run.{Tree, Branches, Ends, Does, Nothing, Branch}
use Rattle.call_laws.specs.Lengths.{height}
use Rattle.call_replies.specs.Replies.{order_replies}
use Rattle.definitions.specs.Plans.{Turn, graft, weave, joined}
use Rattle.plan_steps.specs.declared.parts.Parts.{Parts}
use Rattle.plan_steps.specs.declared.step.Next.{Next}
use Rattle.plan_steps.specs.declared.step.Next.TheVariants.{To}
use Rattle.plan_steps.specs.declared.step.Step.{Step}
use Rattle.plan_steps.specs.Steps.{tree_behind, first_tree, at_place}
use Rattle.plan_steps.specs.Numbering.{IsNumberedPlan}
use Rattle.plan_steps.specs.Stretches.{longest_of, are_placed, IsPartedNumbering}

---- Two parts

-- Where the parts begin stand both, woven by the turns, and behind them what follows both.
abbrev pub part_end : Tree → Tree → Tree → Tree → List Turn → End → Tree
part_end ready back new old turns Split = weave (joined ready back) new turns old
part_end ready back new old turns end = Ends end

-- what an edge leads to, where the steps have these parts
abbrev pub woven_behind : List Step → Option Parts → Next → List Turn → Tree
woven_behind steps None next turns = tree_behind steps next
woven_behind steps (Some p) next turns =
    graft (part_end (tree_behind steps (To p.ready)) (tree_behind steps (To p.back)) (tree_behind steps (To p.new))
    (tree_behind steps (To p.old)) turns) (tree_behind steps next)

-- the tree of a plan's steps
abbrev pub woven : List Step → Option Parts → List Turn → Tree
woven steps parts turns = woven_behind steps parts (To (record { 0 = 1 })) turns

-- the tree at a place of a draft, where it has these parts
abbrev pub woven_at : List Step → ℕ → Parts → List Turn → Tree
woven_at steps first p turns =
    graft (part_end (at_place steps p.ready.0) (at_place steps p.back.0) (at_place steps p.new.0) (at_place steps p.old.0) turns) (at_place steps first)

-- the number of steps on the longest path; with parts, the sum over the four stretches
abbrev pub length_in : List Step → Option Parts → ℕ
length_in steps None = height (first_tree steps)
length_in steps (Some p) =
    longest_of (first_tree steps) (tree_behind steps (To p.new)) (tree_behind steps (To p.old)) (tree_behind steps (To p.ready)) (tree_behind steps (To p.back))

-- the parts stand at places of the steps
abbrev pub parts_placed : List Step → Option Parts → Bool
parts_placed steps None = true
parts_placed steps (Some p) = are_placed steps p

---- Replies

-- Each step has an edge for each reply to its call, master-gone aside.
abbrev mutual
  pub answers : Tree → Bool
  answers (Ends end) = true
  answers (Does by order set branches) = list_all (λ r. is_some (branch branches r)) (order_replies order) && all_answer branches

  pub all_answer : Branches → Bool
  all_answer Nothing = true
  all_answer (Branch replies said rest more) = list_all (λ r. answers rest) replies && all_answer more

-- the same of a plan's steps, with its parts
abbrev pub plan_answers : List Step → Option Parts → Bool
plan_answers steps None = answers (first_tree steps)
plan_answers steps (Some p) =
    answers (first_tree steps)
    && (answers (tree_behind steps (To p.new))
    && (answers (tree_behind steps (To p.old))
    && (answers (tree_behind steps (To p.ready)) && answers (tree_behind steps (To p.back)))))

---- Numbers

-- The steps are those of some draft, in four stretches.
pub record IsPartedFrom (plan : List Step) (told : Parts) : Type 0 where
  pub steps : List Step
  pub first : ℕ
  pub parts : Parts
  pub is : IsPartedNumbering steps first parts plan told

-- how a plan with these parts, or without, is numbered
abbrev pub IsNumberedWith : List Step → Option Parts → Type 0
IsNumberedWith plan None = IsNumberedPlan plan
IsNumberedWith plan (Some told) = IsPartedFrom plan told

-- how a plan with parts of a draft is numbered, and where its parts stand
abbrev pub IsNumberedInParts : List Step → ℕ → Parts → List Step → Option Parts → Type 0
IsNumberedInParts steps first parts plan None = ⊥
IsNumberedInParts steps first parts plan (Some told) = IsPartedNumbering steps first parts plan told
