-- Where a cursor stands in a plan with parts or without, and the tree there.
use Rattle.std.specs.Prelude.{◌≡◌, Bool, true, false, ◌&&◌, ◌||◌, not, List, [], ◌∷◌, Option, None, Some, if◌then◌else◌}
use Rattle.vocabulary.specs.declared.plans.End.{End}
use Rattle.vocabulary.specs.declared.plans.End.TheVariants.{Done, Split}
use Rattle.definitions.specs.Run.{Tree, Ends, Does}
use Rattle.definitions.specs.Plans.{Turn, New, Old, weave, joined}
use Rattle.plan_steps.specs.declared.parts.Parts.{Parts}
use Rattle.plan_steps.specs.declared.step.Step.{Step}
use Rattle.plan_steps.specs.declared.step.Next.{Next}
use Rattle.plan_steps.specs.declared.step.Next.TheVariants.{To, Over, Both}
use Rattle.plan_steps.specs.Steps.{tree_behind, is_within}
use Rattle.plan_steps.specs.Woven.{woven_behind}
use Rattle.rollback_plan.specs.declared.cursor.At.{At}
use Rattle.rollback_plan.specs.declared.cursor.At.TheVariants.{Before, Beside, Behind}

---- Places

abbrev pub is_step : Next → Bool
is_step (To place) = true
is_step (Over end) = false
is_step (Both new old) = false

-- the parts begin there
abbrev pub is_split : Next → Bool
is_split (To place) = false
is_split (Over Split) = true
is_split (Over end) = false
is_split (Both new old) = true

abbrev pub end_at : Next → End
end_at (To place) = Done
end_at (Over end) = end
end_at (Both new old) = Split

-- the end that stands there
abbrev pub end_behind : Next → Option End
end_behind (To place) = None
end_behind (Over end) = Some end
end_behind (Both new old) = Some Split

-- steps without parts
abbrev pub is_alone : Option Parts → Bool
is_alone None = true
is_alone (Some p) = false

-- A cursor stands at places of its steps. Where the parts begin it stands in both, and in both only while one goes on.
abbrev pub is_at : List Step → Option Parts → At → Bool
is_at steps parts (Before next) = is_within steps next && (is_alone parts || not (is_split next))
is_at steps parts (Beside new old) = is_within steps new && (is_within steps old && (is_step new || is_step old))
is_at steps parts (Behind next) = is_within steps next

---- Trees

-- what follows both parts
abbrev pub joined_in : List Step → Option Parts → End → Tree
joined_in steps None end = Ends end
joined_in steps (Some p) end = joined (tree_behind steps (To p.ready)) (tree_behind steps (To p.back)) end

-- the tree where a cursor stands, under turns
abbrev pub tree_at : List Step → Option Parts → At → List Turn → Tree
tree_at steps parts (Before next) turns = woven_behind steps parts next turns
tree_at steps parts (Beside new old) turns = weave (joined_in steps parts) (tree_behind steps new) turns (tree_behind steps old)
tree_at steps parts (Behind next) turns = tree_behind steps next

---- Turns

-- whose turn is next: after the end of the list, the new master's
abbrev pub turn_of : List Turn → Turn
turn_of [] = New
turn_of (turn ∷ turns) = turn

abbrev pub without_first : List Turn → List Turn
without_first [] = []
without_first (turn ∷ turns) = turns

-- both parts go on
abbrev pub is_both : At → Bool
is_both (Before next) = false
is_both (Beside new old) = is_step new && is_step old
is_both (Behind next) = false

-- the turns that are left after a step: one is used up where both parts go on
abbrev pub left_at : At → List Turn → List Turn
left_at at turns = if is_both at then without_first turns else turns

---- Steps

-- the next step is the new master's
abbrev pub goes_new : Next → Next → Turn → Bool
goes_new (To a) (To b) New = true
goes_new (To a) (To b) Old = false
goes_new (To a) (Over end) turn = true
goes_new (To a) (Both new old) turn = true
goes_new (Over end) next turn = false
goes_new (Both new old) next turn = false

-- where the next step stands
abbrev pub chosen_at : At → Turn → Next
chosen_at (Before next) turn = next
chosen_at (Beside new old) turn = if goes_new new old turn then new else old
chosen_at (Behind next) turn = next

-- the tree to which an edge of the next step leads
abbrev pub led_at : List Step → Option Parts → At → Turn → Next → List Turn → Tree
led_at steps parts (Before from) turn next turns = woven_behind steps parts next turns
led_at steps parts (Beside new old) turn next turns =
    if goes_new new old turn then weave (joined_in steps parts) (tree_behind steps next) turns (tree_behind steps old)
    else weave (joined_in steps parts) (tree_behind steps new) turns (tree_behind steps next)
led_at steps parts (Behind from) turn next turns = tree_behind steps next

-- a tree begins with a step
abbrev pub begins : Tree → Step → Type 0
begins (Ends end) s = ⊥
begins (Does by order set branches) s = (s.by ≡ by) × (s.order ≡ order) × (s.set ≡ set)

-- the end that a tree is
abbrev pub end_of : Tree → Option End
end_of (Ends end) = Some end
end_of (Does by order set branches) = None

abbrev pub IsEnd : Tree → Type 0
IsEnd (Ends end) = Unit {0}
IsEnd (Does by order set branches) = ⊥
