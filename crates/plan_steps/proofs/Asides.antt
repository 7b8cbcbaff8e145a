-- What is led to that does not itself lead to where the parts begin, and how long paths are.
use Rattle.std.proofs.Common.{◌≡◌, ℕ, zero, suc, ◌+◌, ◌-◌, ◌<◌, ◌≤◌, true, List, [], ◌∷◌, ◌++◌, length, get_or, map}
use Rattle.std.proofs.Common.{take, refl, sym, ◌∙◌, ap, arith, Some, slice_get, unwrap_or}
use Rattle.std.proofs.lemmas.Bool.{and_parts, ltb-true}
use Rattle.std.proofs.lemmas.List.{take_more, get_or-take, length-map, get_or_default}
use Rattle.vocabulary.specs.declared.plans.End.TheVariants.{Done, RolledBack, ShortOld, ShortTarget, Split, JoinReady, JoinBack, Join}
use Rattle.definitions.specs.Run.{Tree, Branches, Ends, Does, Nothing, Branch}
use Rattle.call_laws.specs.Lengths.{height, highest}
use Rattle.plan_steps.specs.declared.step.Next.{Next}
use Rattle.plan_steps.specs.declared.step.Next.TheVariants.{To, Over, Both}
use Rattle.plan_steps.specs.declared.step.PlanEdge.{PlanEdge}
use Rattle.plan_steps.specs.declared.step.Step.{Step}
use Rattle.plan_steps.specs.Steps.{at_place, tree_among, branches_among, step_tree, trees_after, is_below, all_below, all_lead_back}
use Rattle.plan_steps.specs.Stretches.{one_more, to_split, farthest, beside_height, aside, asides, aside_behind, asides_among}
use Rattle.plan_steps.proofs.StepTrees.{length-trees}
use Rattle.plan_steps.proofs.Unfolded.{draft_at}

-- what is known of each place
pub known_at : (f : Tree → ℕ) → f (Ends Done) ≡ 0 → (trees : List Tree) (k : ℕ) → get_or (map f trees) k 0 ≡ f (unwrap_or (slice_get trees k) (Ends Done))
known_at f none [] k = sym none
known_at f none (t ∷ trees) zero = refl
known_at f none (t ∷ trees) (suc k) = known_at f none trees k

-- what is known of a step's place
known_here : (f : Tree → ℕ) → f (Ends Done) ≡ 0 → (steps : List Step) (k : ℕ) (s : Step) →
    all_lead_back 0 steps ≡ true → slice_get steps k ≡ Some s →
    get_or (map f (trees_after [] steps)) k 0 ≡ f (step_tree 0 (trees_after [] steps) s)
known_here f none steps k s back at = known_at f none (trees_after [] steps) k ∙ ap (λ o. f (unwrap_or o (Ends Done))) (draft_at steps k s back at)

-- what is read at a place
pub read_at : (f : Tree → ℕ) → f (Ends Done) ≡ 0 → (steps : List Step) (known : List ℕ) (k n : ℕ) →
    known ≡ map f (trees_after [] steps) → k < length steps → n ≡ get_or known k n → n ≡ f (at_place steps k)
read_at f none steps known k n e low is =
    is
    ∙ (get_or_default known k n 0 (omega (arith, low, ap length e, length-map (trees_after [] steps) f, length-trees steps)) ∙ (ap (λ ns. get_or ns k 0) e ∙ known_at f none (trees_after [] steps) k))

aside_there : (trees : List Tree) (i : ℕ) (next : Next) → is_below i next ≡ true →
    aside_behind (take i (map aside trees)) next ≡ aside (tree_among 0 trees next)
aside_there trees i (Over end) h = refl
aside_there trees i (Both new old) h = refl
aside_there trees i (To place) h =
    get_or-take i (map aside trees) place.0 0 (ltb-true place.0 i h)
    ∙ (known_at aside refl trees place.0 ∙ ap (λ k. aside (unwrap_or (slice_get trees k) (Ends Done))) (let e : place.0 ≡ place.0 - 0 = omega arith in e))

pub asides_there : (trees : List Tree) (i : ℕ) (edges : List PlanEdge) → all_below i edges ≡ true →
    asides_among (take i (map aside trees)) edges ≡ asides (branches_among 0 trees edges)
asides_there trees i [] h = refl
asides_there trees i (e ∷ edges) h =
    let parts = and_parts (is_below i e.next) (all_below i edges) h in
    rw (aside_there trees i e.next parts.0, asides_there trees i edges parts.1) refl

-- one step more
pub aside_more : (steps : List Step) (i : ℕ) (s : Step) (split tall behind : ℕ) → all_lead_back 0 steps ≡ true →
    slice_get steps i ≡ Some s → i < length steps → all_below i s.edges.items ≡ true
    → split ≡ get_or (map to_split (trees_after [] steps)) i 0 → tall ≡ get_or (map height (trees_after [] steps)) i 0 →
    behind ≡ asides_among (take i (map aside (trees_after [] steps))) s.edges.items
    → take i (map aside (trees_after [] steps)) ++ beside_height split tall behind ∷ [] ≡ take (i + 1) (map aside (trees_after [] steps))
aside_more steps i s split tall behind back at low below splits talls behinds =
    let all = trees_after [] steps in
    let one : beside_height split tall behind ≡ aside (step_tree 0 all s) =
    rw (splits ∙ known_here to_split refl steps i s back at, talls ∙ known_here height refl steps i s back at, behinds ∙ asides_there all i s.edges.items below) refl in
    ap (λ n. take i (map aside all) ++ n ∷ []) (one ∙ sym (known_here aside refl steps i s back at))
    ∙ sym (take_more (map aside all) i 0 (omega (arith, low, length-map all aside, length-trees steps)))

-- ---- bounds

one_more_low : (n h : ℕ) → n ≤ h + 1 → one_more n ≤ suc h + 1
one_more_low zero h le = omega arith
one_more_low (suc n) h le = omega (arith, le)

beside_low : (n tall behind : ℕ) → behind ≤ tall → beside_height n tall behind ≤ tall
beside_low zero tall behind le = omega arith
beside_low (suc n) tall behind le = le

mutual
  pub split_low : (t : Tree) → to_split t ≤ height t + 1
  split_low (Ends Done) = omega arith
  split_low (Ends RolledBack) = omega arith
  split_low (Ends ShortOld) = omega arith
  split_low (Ends ShortTarget) = omega arith
  split_low (Ends Split) = omega arith
  split_low (Ends JoinReady) = omega arith
  split_low (Ends JoinBack) = omega arith
  split_low (Ends Join) = omega arith
  split_low (Does by order set branches) = one_more_low (farthest branches) (highest branches) (farthest_low branches)

  farthest_low : (bs : Branches) → farthest bs ≤ highest bs + 1
  farthest_low Nothing = omega arith
  farthest_low (Branch replies said rest more) = omega (arith, split_low rest, farthest_low more)

mutual
  pub aside_low : (t : Tree) → aside t ≤ height t
  aside_low (Ends end) = omega arith
  aside_low (Does by order set branches) = beside_low (one_more (farthest branches)) (suc (highest branches)) (asides branches) (omega (arith, asides_low branches))

  asides_low : (bs : Branches) → asides bs ≤ highest bs
  asides_low Nothing = omega arith
  asides_low (Branch replies said rest more) = omega (arith, aside_low rest, asides_low more)
