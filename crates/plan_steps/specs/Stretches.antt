-- How a plan with two parts numbers the places of a draft: the steps before the parts, the new master's part, the old one's, and
-- the rest, each as a plan of one part numbers its places.
use Rattle.std.specs.Prelude.{◌≡◌, Some, ◌≤◌, ◌<◌, ℕ, zero, suc, ◌+◌, ◌-◌, max, Bool, true, false, ◌&&◌, List, [], ◌∷◌}
use Rattle.std.specs.Prelude.{◌++◌, slice_get, slice_index, nat_lt, nat_eq, length, filter}
use Rattle.std.specs.List.{list_all}
use Rattle.listener_set.specs.Numbers.{is_in}
use Rattle.vocabulary.specs.declared.plans.End.{End}
use Rattle.vocabulary.specs.declared.plans.End.TheVariants.{Split, JoinReady, JoinBack, Join}
use Rattle.definitions.specs.Run.{Tree, Branches, Ends, Does, Nothing, Branch}
use Rattle.call_laws.specs.Lengths.{height}
use Rattle.plan_steps.specs.declared.step.Next.{Next}
use Rattle.plan_steps.specs.declared.step.Next.TheVariants.{To, Over, Both}
use Rattle.plan_steps.specs.declared.step.PlanEdge.{PlanEdge}
use Rattle.plan_steps.specs.declared.step.Step.{Step}
use Rattle.plan_steps.specs.declared.parts.Parts.{Parts}
use Rattle.plan_steps.specs.Steps.{at_place, all_lead_on, first_tree, tree_behind, is_within}
use Rattle.plan_steps.specs.Numbering.{IsStretch, IsOrder, AreNumbers, AllNumbered, CanBeOrder}

---- Where trees end

abbrev pub has_some : Branches → Bool
has_some Nothing = false
has_some (Branch replies said rest more) = true

-- a test holds of each end of a tree, of which each step has an edge
abbrev mutual
  pub ends_at : (End → Bool) → Tree → Bool
  ends_at test (Ends end) = test end
  ends_at test (Does by order set branches) = has_some branches && all_end_at test branches

  pub all_end_at : (End → Bool) → Branches → Bool
  all_end_at test Nothing = true
  all_end_at test (Branch replies said rest more) = ends_at test rest && all_end_at test more

-- an end of a plan, and no mark
abbrev pub is_last : End → Bool
is_last Split = false
is_last JoinReady = false
is_last JoinBack = false
is_last Join = false
is_last _ = true

-- an end of what lies before the parts
abbrev pub is_onward : End → Bool
is_onward Split = true
is_onward JoinReady = false
is_onward JoinBack = false
is_onward Join = false
is_onward _ = true

-- an end of the new master's part
abbrev pub ends_new : End → Bool
ends_new JoinReady = true
ends_new JoinBack = true
ends_new _ = false

-- an end of the old master's part
abbrev pub ends_old : End → Bool
ends_old Join = true
ends_old _ = false

---- Where trees lead to the parts

abbrev pub split_end : End → ℕ
split_end Split = 1
split_end _ = 0

abbrev pub one_more : ℕ → ℕ
one_more zero = 0
one_more (suc n) = suc (suc n)

-- One more than the greatest number of steps on a path to where the parts begin; 0 where there is no path.
abbrev mutual
  pub to_split : Tree → ℕ
  to_split (Ends end) = split_end end
  to_split (Does by order set branches) = one_more (farthest branches)

  pub farthest : Branches → ℕ
  farthest Nothing = 0
  farthest (Branch replies said rest more) = max (to_split rest) (farthest more)

-- the same of edges, where it is known of each place
abbrev pub split_behind : List ℕ → Next → ℕ
split_behind splits (Over end) = split_end end
split_behind splits (Both new old) = 1
split_behind splits (To place) = slice_index splits place.0

abbrev pub farthest_among : List ℕ → List PlanEdge → ℕ
farthest_among splits [] = 0
farthest_among splits (e ∷ edges) = max (split_behind splits e.next) (farthest_among splits edges)

---- The stretches

abbrev pub is_before : List Step → ℕ → Bool
is_before steps k = nat_lt 0 (to_split (at_place steps k))

abbrev pub is_off : List Step → ℕ → Bool
is_off steps k = nat_eq (to_split (at_place steps k)) 0

-- an edge that leads to two places leads to these
abbrev pub splits_to : ℕ → ℕ → Next → Bool
splits_to a b (Over end) = true
splits_to a b (Both new old) = nat_eq new.0 a && nat_eq old.0 b
splits_to a b (To place) = true

-- each of these edges does so
abbrev pub all_split_to : ℕ → ℕ → List PlanEdge → Bool
all_split_to a b edges = list_all (λ e. splits_to a b e.next) edges

-- each edge of each step does so
abbrev pub steps_split_to : ℕ → ℕ → List Step → Bool
steps_split_to a b steps = list_all (λ s. all_split_to a b s.edges.items) steps

-- These are the parts of what begins at a place: it leads to them, by one pair of places, and ends otherwise; the parts end at
-- their own marks; and what follows them ends.
pub record AreParts (steps : List Step) (first : ℕ) (parts : Parts) : Type 0 where
  pub splits : steps_split_to parts.new.0 parts.old.0 steps ≡ true
  pub low : (parts.new.0 < length steps) × (parts.old.0 < length steps) × (parts.ready.0 < length steps) × (parts.back.0 < length steps)
  pub begins : is_before steps first ≡ true
  pub before : ends_at is_onward (at_place steps first) ≡ true
  pub new : ends_at ends_new (at_place steps parts.new.0) ≡ true
  pub old : ends_at ends_old (at_place steps parts.old.0) ≡ true
  pub ready : ends_at is_last (at_place steps parts.ready.0) ≡ true
  pub back : ends_at is_last (at_place steps parts.back.0) ≡ true

-- where the rest begins: at the two places where the plan goes on, and at what is reached without leading to the parts
abbrev pub rest_roots : List Step → Parts → List ℕ → List ℕ
rest_roots steps parts reached = parts.ready.0 ∷ parts.back.0 ∷ filter (is_off steps) reached

-- These places are four stretches in a row: of what the first place reaches that which leads to the parts; the new part; the old
-- one; and the rest. The others of what the first place reaches are roots of the rest, behind the two where the plan goes on.
pub record AreStretches (steps : List Step) (first : ℕ) (parts : Parts) (order : List ℕ) : Type 0 where
  pub reached : List ℕ
  pub new : List ℕ
  pub old : List ℕ
  pub rest : List ℕ
  pub reached_is : IsStretch steps (first ∷ []) reached
  pub new_is : IsStretch steps (parts.new.0 ∷ []) new
  pub old_is : IsStretch steps (parts.old.0 ∷ []) old
  pub rest_is : IsStretch steps (rest_roots steps parts reached) rest
  pub is : order ≡ filter (is_before steps) reached ++ (new ++ (old ++ rest))

-- the four stretches, as they are found
pub record AreOrders (steps : List Step) (reached : List ℕ) (parts : Parts) (roots order : List ℕ) : Type 0 where
  pub new : List ℕ
  pub old : List ℕ
  pub rest : List ℕ
  pub new_is : IsOrder steps (parts.new.0 ∷ []) new
  pub old_is : IsOrder steps (parts.old.0 ∷ []) old
  pub rest_is : IsOrder steps roots rest
  pub is : order ≡ filter (is_before steps) reached ++ (new ++ (old ++ rest))

abbrev pub HasNumber : List ℕ → ℕ → ℕ → Type 0
HasNumber numbers place number = number ≡ slice_index numbers place

-- A plan with two parts numbers the places of the four stretches in a row, and says the numbers of the parts' places.
pub record IsPartedNumbering (steps : List Step) (first : ℕ) (parts : Parts) (plan : List Step) (told : Parts) : Type 0 where
  pub order : List ℕ
  pub stretches : AreStretches steps first parts order
  pub numbers : List ℕ
  pub numbered : AreNumbers order (length steps) numbers
  pub steps_are : AllNumbered numbers steps order plan
  pub told_new : HasNumber numbers parts.new.0 told.new.0
  pub told_old : HasNumber numbers parts.old.0 told.old.0
  pub told_ready : HasNumber numbers parts.ready.0 told.ready.0
  pub told_back : HasNumber numbers parts.back.0 told.back.0

---- An order in which each place leads to later ones

-- a place stands behind the i-th
pub record StandsAfter (order : List ℕ) (i k : ℕ) : Type 0 where
  pub at : ℕ
  pub after : i < at
  pub is : slice_get order at ≡ Some k

abbrev pub IsLater : List ℕ → ℕ → Next → Type 0
IsLater order i (Over end) = Unit {0}
IsLater order i (Both new old) = Unit {0}
IsLater order i (To place) = StandsAfter order i place.0

abbrev pub AllLater : List ℕ → ℕ → List PlanEdge → Type 0
AllLater order i [] = Unit {0}
AllLater order i (e ∷ edges) = IsLater order i e.next × AllLater order i edges

-- each place's edges lead to later ones
abbrev pub OrderRuns : List Step → List ℕ → Type 0
OrderRuns steps order = (i p : ℕ) (s : Step) → slice_get order i ≡ Some p → slice_get steps p ≡ Some s → AllLater order i s.edges.items

-- what was found of four stretches in a row
pub record AreParted (steps : List Step) (first : ℕ) (parts : Parts) (order : List ℕ) : Type 0 where
  pub can : CanBeOrder (length steps) order
  pub few : length order ≤ length steps
  pub runs : OrderRuns steps order
  pub stands : slice_get order 0 ≡ Some first
  pub has_new : is_in order parts.new.0 ≡ true
  pub has_old : is_in order parts.old.0 ≡ true
  pub has_ready : is_in order parts.ready.0 ≡ true
  pub has_back : is_in order parts.back.0 ≡ true
  pub stretches : AreStretches steps first parts order

---- The plan

-- the places of the parts are places of these steps
abbrev pub are_placed : List Step → Parts → Bool
are_placed steps p = is_within steps (To p.new) && (is_within steps (To p.old) && (is_within steps (To p.ready) && is_within steps (To p.back)))

-- a plan of the steps that stand for the trees at these places, with the numbers of the parts' places
pub record IsPartedPlan (steps : List Step) (first : ℕ) (parts : Parts) (plan : List Step) (told : Parts) : Type 0 where
  pub begins : 0 < length plan
  pub few : length plan ≤ length steps
  pub on : all_lead_on 1 plan ≡ true
  pub placed : are_placed plan told ≡ true
  pub tree : first_tree plan ≡ at_place steps first
  pub new : tree_behind plan (To told.new) ≡ at_place steps parts.new.0
  pub old : tree_behind plan (To told.old) ≡ at_place steps parts.old.0
  pub ready : tree_behind plan (To told.ready) ≡ at_place steps parts.ready.0
  pub back : tree_behind plan (To told.back) ≡ at_place steps parts.back.0
  pub numbering : IsPartedNumbering steps first parts plan told

---- The longest path

abbrev pub beside_height : ℕ → ℕ → ℕ → ℕ
beside_height zero tall behind = tall
beside_height (suc n) tall behind = behind

abbrev mutual
  -- the greatest height of what is led to that does not itself lead to the parts
  pub aside : Tree → ℕ
  aside (Ends end) = 0
  aside (Does by order set branches) = beside_height (one_more (farthest branches)) (height (Does by order set branches)) (asides branches)

  pub asides : Branches → ℕ
  asides Nothing = 0
  asides (Branch replies said rest more) = max (aside rest) (asides more)

-- the same behind an edge, where it is known of each place
abbrev pub aside_behind : List ℕ → Next → ℕ
aside_behind asides (Over end) = 0
aside_behind asides (Both new old) = 0
aside_behind asides (To place) = slice_index asides place.0

abbrev pub asides_among : List ℕ → List PlanEdge → ℕ
asides_among known [] = 0
asides_among known (e ∷ edges) = max (aside_behind known e.next) (asides_among known edges)

-- the steps on the longest path: the sum over the four stretches
abbrev pub longest_of : Tree → Tree → Tree → Tree → Tree → ℕ
longest_of first new old ready back = (to_split first - 1) + height new + height old + max (max (height ready) (height back)) (aside first)

-- the same of a draft's places
abbrev pub longest_at : List Step → ℕ → Parts → ℕ
longest_at steps first parts =
    longest_of (at_place steps first) (at_place steps parts.new.0) (at_place steps parts.old.0)
    (at_place steps parts.ready.0) (at_place steps parts.back.0)
