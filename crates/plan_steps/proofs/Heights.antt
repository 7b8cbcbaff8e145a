-- Heights of steps.
use Rattle.std.proofs.Common.{◌≡◌, ℕ, zero, suc, ◌+◌, ◌-◌, ◌≤◌, List, [], ◌∷◌, ◌++◌, map, get_or, refl, sym, ◌∙◌, ap, arith, add-one, slice_get, unwrap_or}
use Rattle.std.proofs.lemmas.List.{map_push}
use Rattle.vocabulary.specs.declared.plans.End.TheVariants.{Done}
use Rattle.definitions.specs.Run.{Tree, Ends}
use Rattle.call_laws.specs.Lengths.{height, highest}
use Rattle.plan_steps.specs.declared.step.Next.{Next}
use Rattle.plan_steps.specs.declared.step.Next.TheVariants.{To, Over, Both}
use Rattle.plan_steps.specs.declared.step.PlanEdge.{PlanEdge}
use Rattle.plan_steps.specs.declared.step.Step.{Step}
use Rattle.plan_steps.specs.Steps.{tree_among, branches_among, step_tree}
use Rattle.plan_steps.specs.Numbering.{height_behind, highest_behind}

height_at : (trees : List Tree) (k : ℕ) → get_or (map height trees) k 0 ≡ height (unwrap_or (slice_get trees k) (Ends Done))
height_at [] k = refl
height_at (t ∷ trees) zero = refl
height_at (t ∷ trees) (suc k) = height_at trees k

height_there : (trees : List Tree) (next : Next) → height_behind (map height trees) next ≡ height (tree_among 0 trees next)
height_there trees (Over end) = refl
height_there trees (Both new old) = refl
height_there trees (To place) = height_at trees place.0 ∙ ap (λ k. height (unwrap_or (slice_get trees k) (Ends Done))) (let e : place.0 ≡ place.0 - 0 = omega arith in e)

pub highest_there : (trees : List Tree) (edges : List PlanEdge) → highest_behind (map height trees) edges ≡ highest (branches_among 0 trees edges)
highest_there trees [] = refl
highest_there trees (e ∷ edges) = rw (height_there trees e.next, highest_there trees edges) refl

-- one step more
pub height_more : (trees : List Tree) (s : Step) (h : ℕ) → h ≡ highest_behind (map height trees) s.edges.items →
    map height trees ++ (h + 1) ∷ [] ≡ map height (trees ++ step_tree 0 trees s ∷ [])
height_more trees s h e =
    let is : h + 1 ≡ height (step_tree 0 trees s) = add-one h ∙ ap suc (e ∙ highest_there trees s.edges.items) in
    ap (λ n. map height trees ++ n ∷ []) is ∙ sym (map_push height trees (step_tree 0 trees s))

-- heights within a bound
pub highest_within : (n : ℕ) (heights : List ℕ) (edges : List PlanEdge) → ((k : ℕ) → get_or heights k 0 ≤ n) → highest_behind heights edges ≤ n
highest_within n heights [] h = omega arith
highest_within n heights (e ∷ edges) h = omega (arith, one e.next, highest_within n heights edges h)
  where
    one : (next : Next) → height_behind heights next ≤ n
    one (Over end) = omega arith
    one (Both new old) = omega arith
    one (To place) = h place.0

pub within_more : (n : ℕ) (heights : List ℕ) (m : ℕ) → ((k : ℕ) → get_or heights k 0 ≤ n) → m ≤ n + 1 → (k : ℕ) → get_or (heights ++ m ∷ []) k 0 ≤ n + 1
within_more n [] m h le zero = le
within_more n [] m h le (suc k) = omega arith
within_more n (x ∷ heights) m h le zero = let first : x ≤ n = h 0 in omega arith
within_more n (x ∷ heights) m h le (suc k) = within_more n heights m (λ j. h (suc j)) le k
