-- What a contract sees of a draft.
use Rattle.std.specs.Prelude.{◌≡◌, ℕ, ◌+◌, ◌<◌, ◌≤◌, Bool, true, false, List, [], ◌++◌, length, nat_lt, Result, OnOk, IsErrOf}
use Rattle.std.specs.List.{list_all}
use Rattle.definitions.specs.Run.{Tree, Branches}
use Rattle.plan_steps.specs.Fit.{is_fit}
use Rattle.plan_steps.specs.declared.parts.Parts.{Parts}
use Rattle.plan_steps.specs.declared.step.PlanEdge.{PlanEdge}
use Rattle.plan_steps.specs.declared.step.Step.{Step}
use Rattle.plan_steps.specs.declared.step.Place.{Place}
use Rattle.plan_steps.specs.declared.step.Next.{Next}
use Rattle.plan_steps.specs.declared.step.Next.TheVariants.{To, Over, Both}
use Rattle.rollback_plan.specs.declared.draft.Draft.{Draft}
use Rattle.rollback_plan.specs.declared.draft.DraftRefusal.{DraftRefusal}
use Rattle.rollback_plan.specs.declared.draft.DraftRefusal.TheVariants.{TooLarge}
use Rattle.rollback_plan.specs.declared.draft.TheConstants.{MOST_STEPS}
use Rattle.plan_steps.specs.Steps.{trees_after, branches_among, tree_among}
use Rattle.plan_steps.specs.Stretches.{steps_split_to}

-- its steps in order
abbrev pub steps_in : Draft → List Step
steps_in d = d.steps.items

-- the tree at each place
abbrev pub trees_of : Draft → List Tree
trees_of d = trees_after [] d.steps.items

-- the tree at one place
abbrev pub tree_at : Draft → Place → Tree
tree_at d place = tree_among 0 (trees_of d) (To place)

-- a tree stands at a place
pub record IsMade (d : Draft) (place : Place) (tree : Tree) : Type 0 where
  pub below : place.0 < length (trees_of d)
  pub is : tree_at d place ≡ tree

-- one of the first n places, or an end
abbrev pub is_plain : ℕ → Next → Bool
is_plain n (Over end) = true
is_plain n (Both new old) = false
is_plain n (To place) = nat_lt place.0 n

abbrev pub are_plain : ℕ → List PlanEdge → Bool
are_plain n edges = list_all (λ e. is_plain n e.next) edges

-- a tree stands at a place, or is an end
pub record LeadsTo (d : Draft) (next : Next) (tree : Tree) : Type 0 where
  pub plain : is_plain (length (trees_of d)) next ≡ true
  pub is : tree_among 0 (trees_of d) next ≡ tree

-- each edge to two places leads to these
abbrev pub splits_in : ℕ → ℕ → Draft → Bool
splits_in a b d = steps_split_to a b d.steps.items

-- what stands in the one draft stands in the other, at the same places
pub record Extends (old new : Draft) : Type 0 where
  pub more : List Tree
  pub is : trees_of new ≡ trees_of old ++ more

-- The same, and no edge is added that leads to two places.
pub record Keeps (old new : Draft) : Type 0 where
  pub more : List Tree
  pub is : trees_of new ≡ trees_of old ++ more
  pub splits : (a b : ℕ) → splits_in a b old ≡ true → splits_in a b new ≡ true

-- What is added is so many steps, beside those that stand there; it is too large only where they would be too many.
pub record Grows {T : Type 0} (old new : Draft) (result : Result T DraftRefusal) (n : ℕ) : Type 0 where
  pub count : OnOk result (length (trees_of new) ≡ length (trees_of old) + n)
  pub keeps : Keeps old new
  pub too_large : IsErrOf result TooLarge → MOST_STEPS < length (trees_of old) + n

-- What is added is at most so many steps; it is too large only where so many would be too many.
pub record GrowsWithin {T : Type 0} (old new : Draft) (result : Result T DraftRefusal) (most : ℕ) : Type 0 where
  pub count : OnOk result (length (trees_of new) ≤ length (trees_of old) + most)
  pub keeps : Keeps old new
  pub too_large : IsErrOf result TooLarge → MOST_STEPS < length (trees_of old) + most

-- the branches of edges in a draft
abbrev pub branches_in : Draft → List PlanEdge → Branches
branches_in d edges = branches_among 0 (trees_of d) edges

-- each of these is a place of the draft
abbrev pub are_places : Draft → List Place → Bool
are_places d places = list_all (λ place. nat_lt place.0 (length (trees_of d))) places

-- the trees of a plan with parts are fit, from where nothing is lacking
pub record AreFit (d : Draft) (first : Place) (parts : Parts) : Type 0 where
  pub before : is_fit false (tree_at d first) ≡ true
  pub new : is_fit false (tree_at d parts.new) ≡ true
  pub old : is_fit false (tree_at d parts.old) ≡ true
  pub ready : is_fit false (tree_at d parts.ready) ≡ true
  pub back : is_fit false (tree_at d parts.back) ≡ true
