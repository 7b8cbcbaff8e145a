-- The trees that steps stand for.
use Rattle.std.specs.Prelude.{◌≡◌, ℕ, suc, ◌+◌, ◌-◌, Bool, true, ◌&&◌, List, [], ◌∷◌, ◌++◌, Option, None, slice_get, unwrap_or, nat_lt, length}
use Rattle.std.specs.List.{list_all, find}
use Rattle.vocabulary.specs.declared.calls.Reply.{Reply}
use Rattle.vocabulary.specs.declared.plans.Order.{Order}
use Rattle.vocabulary.specs.declared.plans.End.TheVariants.{Done, Split}
use Rattle.definitions.specs.Run.{Tree, Branches, Ends, Does, Nothing, Branch}
use Rattle.call_laws.specs.Pieces.{among}
use Rattle.plan_steps.specs.declared.step.Next.{Next}
use Rattle.plan_steps.specs.declared.step.Next.TheVariants.{To, Over, Both}
use Rattle.plan_steps.specs.declared.step.PlanEdge.{PlanEdge}
use Rattle.plan_steps.specs.declared.step.Step.{Step}

---- Edges

-- an edge for some replies that sets no note
pub record IsEdge (e : PlanEdge) (replies : List Reply) (next : Next) : Type 0 where
  pub takes : e.replies.now ≡ replies
  pub silent : e.note ≡ None
  pub leads : e.next ≡ next

-- a step of these parts
pub record IsStep (s : Step) (by : ℕ) (order : Order) (set : List ℕ) (edges : List PlanEdge) : Type 0 where
  pub makes : s.by ≡ by
  pub asks : s.order ≡ order
  pub counts : s.set ≡ set
  pub leads : s.edges.items ≡ edges

-- the first edge for a reply
abbrev pub edge_for : List PlanEdge → Reply → Option PlanEdge
edge_for edges r = find (λ e. among e.replies.now r) edges

-- the tree behind an edge, where trees stand at places of which the first has a number
abbrev pub tree_among : ℕ → List Tree → Next → Tree
tree_among first trees (Over end) = Ends end
tree_among first trees (Both new old) = Ends Split
tree_among first trees (To place) = unwrap_or (slice_get trees (place.0 - first)) (Ends Done)

abbrev pub branches_among : ℕ → List Tree → List PlanEdge → Branches
branches_among first trees [] = Nothing
branches_among first trees (e ∷ edges) = Branch e.replies.now e.note (tree_among first trees e.next) (branches_among first trees edges)

-- the tree that a step stands for
abbrev pub step_tree : ℕ → List Tree → Step → Tree
step_tree first trees s = Does s.by s.order s.set (branches_among first trees s.edges.items)

---- Edges that lead back, in a draft

-- an edge leads to one of the first n places, or to an end
abbrev pub is_below : ℕ → Next → Bool
is_below n (Over end) = true
is_below n (Both new old) = nat_lt new.0 n && nat_lt old.0 n
is_below n (To place) = nat_lt place.0 n

abbrev pub all_below : ℕ → List PlanEdge → Bool
all_below n edges = list_all (λ e. is_below n e.next) edges

abbrev pub leads_back : ℕ → Step → Bool
leads_back n s = all_below n s.edges.items

abbrev pub all_lead_back : ℕ → List Step → Bool
all_lead_back n [] = true
all_lead_back n (s ∷ steps) = leads_back n s && all_lead_back (suc n) steps

-- the trees of steps whose edges lead to earlier ones, after those of the steps before
unfoldable pub trees_after : List Tree → List Step → List Tree
trees_after trees [] = trees
trees_after trees (s ∷ steps) = trees_after (trees ++ step_tree 0 trees s ∷ []) steps

-- the tree at a place of a draft
abbrev pub at_place : List Step → ℕ → Tree
at_place steps p = unwrap_or (slice_get (trees_after [] steps) p) (Ends Done)

---- Edges that lead on, in a plan

-- an edge of the step at place n leads past it to one of the next places, or to an end
abbrev pub is_past : ℕ → ℕ → Next → Bool
is_past n more (Over end) = true
is_past n more (Both new old) = true
is_past n more (To place) = nat_lt n place.0 && nat_lt place.0 (suc (n + more))

abbrev pub all_lead_on : ℕ → List Step → Bool
all_lead_on n [] = true
all_lead_on n (s ∷ steps) = list_all (λ e. is_past n (length steps) e.next) s.edges.items && all_lead_on (suc n) steps

-- the trees of steps whose edges lead to later ones, where the first step has a number
unfoldable pub trees_from : ℕ → List Step → List Tree
trees_from first [] = []
trees_from first (s ∷ steps) = step_tree (suc first) (trees_from (suc first) steps) s ∷ trees_from (suc first) steps

-- the tree behind an edge of a plan
abbrev pub tree_behind : List Step → Next → Tree
tree_behind steps next = tree_among 1 (trees_from 1 steps) next

-- the tree of a plan's step
abbrev pub tree_here : List Step → Step → Tree
tree_here steps s = step_tree 1 (trees_from 1 steps) s

-- the tree of the first step
abbrev pub first_tree : List Step → Tree
first_tree steps = tree_behind steps (To (record { 0 = 1 }))

-- a place of these steps, or an end
abbrev pub is_within : List Step → Next → Bool
is_within steps next = is_past 0 (length steps) next
