-- A plan stands for the tree of the draft at its first place.
use Rattle.std.proofs.Common.{◌≡◌, ℕ, zero, suc, ◌+◌, ◌-◌, ◌<◌, ◌≤◌, true, List, [], ◌∷◌, ◌++◌, length, get_or, map}
use Rattle.std.proofs.Common.{take, drop, refl, sym, ◌∙◌, ap, subst, arith, Some, slice_get, unwrap_or, nat_lt}
use Rattle.std.proofs.lemmas.Bool.{and_from, and_parts, lt-ltb}
use Rattle.std.proofs.lemmas.List.{take-append-drop, length-take-le}
use Rattle.std.specs.List.{list_all}
use Rattle.vocabulary.specs.declared.plans.End.TheVariants.{Done}
use Rattle.definitions.specs.Run.{Tree, Ends, Does}
use Rattle.plan_steps.specs.declared.step.Next.{Next}
use Rattle.plan_steps.specs.declared.step.Next.TheVariants.{To, Over, Both}
use Rattle.plan_steps.specs.declared.step.PlanEdge.{PlanEdge}
use Rattle.plan_steps.specs.declared.step.Step.{Step}
use Rattle.plan_steps.specs.Steps.{at_place, tree_among, branches_among, step_tree, trees_after, trees_from, is_below}
use Rattle.plan_steps.specs.Steps.{all_below, all_lead_back, is_past, all_lead_on}
use Rattle.plan_steps.specs.Numbering.{AllNumbered, IsNumbered, next_numbered, edge_numbered}
use Rattle.plan_steps.proofs.StepTrees.{trees-take, trees-more, length-trees, back_at}
use Rattle.plan_steps.proofs.Trees.{slice_get-append, slice_get-seam, tree_more}

some_one : {X : Type 0} {x y : X} → Some x ≡ Some y → x ≡ y
some_one e = cc

low_at : {X : Type 0} (xs : List X) (i : ℕ) (x : X) → slice_get xs i ≡ Some x → i < length xs
low_at [] i x e = cc
low_at (y ∷ ys) zero x e = omega arith
low_at (y ∷ ys) (suc i) x e = let h : i < length ys = low_at ys i x e in omega arith

-- ---- the tree at a place of a draft is that of its step

branches_more : (trees more : List Tree) (edges : List PlanEdge) → all_below (length trees) edges ≡ true →
    branches_among 0 (trees ++ more) edges ≡ branches_among 0 trees edges
branches_more trees more [] h = refl
branches_more trees more (e ∷ edges) h =
    let parts = and_parts (is_below (length trees) e.next) (all_below (length trees) edges) h in
    rw (tree_more trees more e.next parts.0, branches_more trees more edges parts.1) refl

get_read : (steps : List Step) (p : ℕ) (s : Step) → slice_get steps p ≡ Some s → s ≡ get_or steps p s
get_read [] p s e = cc
get_read (x ∷ steps) zero s e = cc
get_read (x ∷ steps) (suc p) s e = get_read steps p s e

pub draft_at : (steps : List Step) (p : ℕ) (s : Step) → all_lead_back 0 steps ≡ true → slice_get steps p ≡ Some s →
    slice_get (trees_after [] steps) p ≡ Some (step_tree 0 (trees_after [] steps) s)
draft_at steps p s back at =
    let all = trees_after [] steps in
    let low : p < length steps = low_at steps p s at in
    let front : trees_after [] (take p steps) ≡ take p all = trees-take p steps in
    let many : length (take p all) ≡ p = length-take-le p all (omega (arith, length-trees steps)) in
    let here : take (p + 1) all ≡ take p all ++ step_tree 0 (take p all) s ∷ [] =
    sym (trees-take (p + 1) steps) ∙ (trees-more steps p s low (get_read steps p s at) ∙ ap (λ ts. ts ++ step_tree 0 ts s ∷ []) front) in
    let found : slice_get all p ≡ Some (step_tree 0 (take p all) s) =
    ap (λ ts. slice_get ts p) (sym (take-append-drop (p + 1) all))
    ∙ (slice_get-append (take (p + 1) all) (drop (p + 1) all) p (omega (arith, length-take-le (p + 1) all (omega (arith, length-trees steps))))
    ∙ (ap (λ ts. slice_get ts p) here ∙ (ap (slice_get (take p all ++ step_tree 0 (take p all) s ∷ [])) (sym many) ∙ slice_get-seam (take p all) (step_tree 0 (take p all) s) []))) in
    let below : all_below (length (take p all)) s.edges.items ≡ true = subst (λ (n : ℕ). all_below n s.edges.items ≡ true) (let e : 0 + p ≡ length (take p all) = omega (arith, many) in e) (back_at 0 steps p s back at) in
    let same : branches_among 0 all s.edges.items ≡ branches_among 0 (take p all) s.edges.items =
    ap (λ ts. branches_among 0 ts s.edges.items) (sym (take-append-drop p all)) ∙ branches_more (take p all) (drop p all) s.edges.items below in
    found ∙ ap (λ bs. Some (Does s.by s.order s.set bs)) (sym same)

-- ---- numbers that lead on

-- an edge of the i-th place leads to a place that stands later in the order
abbrev pub LeadsOn : List ℕ → List ℕ → ℕ → Next → Type 0
LeadsOn order numbers i (Over end) = Unit {0}
LeadsOn order numbers i (Both new old) = Unit {0}
LeadsOn order numbers i (To place) = (i + 2 ≤ get_or numbers place.0 0) × (slice_get order (get_or numbers place.0 0 - 1) ≡ Some place.0)

abbrev pub AllLeadOn : List ℕ → List ℕ → ℕ → List PlanEdge → Type 0
AllLeadOn order numbers i [] = Unit {0}
AllLeadOn order numbers i (e ∷ edges) = LeadsOn order numbers i e.next × AllLeadOn order numbers i edges

-- each place's edges lead on
abbrev pub OrderLeadsOn : List Step → List ℕ → List ℕ → Type 0
OrderLeadsOn steps order numbers = (i p : ℕ) (s : Step) → slice_get order i ≡ Some p → slice_get steps p ≡ Some s → AllLeadOn order numbers i s.edges.items

-- the places from the i-th on
abbrev pub IsRest : List ℕ → ℕ → List ℕ → Type 0
IsRest order i rest = (k : ℕ) → slice_get rest k ≡ slice_get order (i + k)

get_mapped : (steps : List Step) (rest : List ℕ) (k q : ℕ) → slice_get rest k ≡ Some q → slice_get (map (at_place steps) rest) k ≡ Some (at_place steps q)
get_mapped steps [] k q e = cc
get_mapped steps (x ∷ rest) zero q e = let is : x ≡ q = some_one e in ap (λ y. Some (at_place steps y)) is
get_mapped steps (x ∷ rest) (suc k) q e = get_mapped steps rest k q e

rest_after : (order : List ℕ) (i p : ℕ) (rest : List ℕ) → IsRest order i (p ∷ rest) → IsRest order (suc i) rest
rest_after order i p rest h k = h (suc k) ∙ ap (slice_get order) (let e : i + suc k ≡ suc i + k = omega arith in e)

next_tree : (steps : List Step) (order numbers : List ℕ) (i : ℕ) (rest : List ℕ) (next : Next) →
    IsRest order (suc i) rest → LeadsOn order numbers i next →
    tree_among (suc (suc i)) (map (at_place steps) rest) (next_numbered numbers next)
    ≡ tree_among 0 (trees_after [] steps) next
next_tree steps order numbers i rest (Over end) h on = refl
next_tree steps order numbers i rest (Both new old) h on = refl
next_tree steps order numbers i rest (To place) h on =
    let m : ℕ = get_or numbers place.0 0 in
    let there : slice_get rest (m - suc (suc i)) ≡ Some place.0 = h (m - suc (suc i)) ∙ (ap (slice_get order) (let e : suc i + (m - suc (suc i)) ≡ m - 1 = omega (arith, on.0) in e) ∙ on.1) in
    ap (λ o. unwrap_or o (Ends Done)) (get_mapped steps rest (m - suc (suc i)) place.0 there)
    ∙ ap (λ k. unwrap_or (slice_get (trees_after [] steps) k) (Ends Done)) (let e : place.0 ≡ place.0 - 0 = omega arith in e)

branches_numbered : (steps : List Step) (order numbers : List ℕ) (i : ℕ) (rest : List ℕ) (edges : List PlanEdge) →
    IsRest order (suc i) rest → AllLeadOn order numbers i edges →
    branches_among (suc (suc i)) (map (at_place steps) rest) (map (edge_numbered numbers) edges)
    ≡ branches_among 0 (trees_after [] steps) edges
branches_numbered steps order numbers i rest [] h on = refl
branches_numbered steps order numbers i rest (e ∷ edges) h on = rw (next_tree steps order numbers i rest e.next h on.0, branches_numbered steps order numbers i rest edges h on.1) refl

-- the trees of the plan's steps are those at their places in the draft
pub trees_numbered : (steps : List Step) (order numbers : List ℕ) (i : ℕ) (rest : List ℕ) (plan : List Step) →
    all_lead_back 0 steps ≡ true → OrderLeadsOn steps order numbers → IsRest order i rest →
    AllNumbered numbers steps rest plan → trees_from (suc i) plan ≡ map (at_place steps) rest
unfolding trees_from
trees_numbered steps order numbers i [] plan back on h all = ap (trees_from (suc i)) all
trees_numbered steps order numbers i (p ∷ rest) [] back on h all = absurd all
trees_numbered steps order numbers i (p ∷ rest) (n ∷ plan) back on h all =
    let s = all.0 in
    let later = trees_numbered steps order numbers (suc i) rest plan back on (rest_after order i p rest h) all.3 in
    let here : slice_get order i ≡ Some p = ap (slice_get order) (let e : i ≡ i + 0 = omega arith in e) ∙ sym (h 0) in
    let same = branches_numbered steps order numbers i rest s.edges.items (rest_after order i p rest h) (on i p s here all.1) in
    let one : step_tree (suc (suc i)) (map (at_place steps) rest) n ≡ at_place steps p =
    numbered_tree (suc (suc i)) (map (at_place steps) rest) numbers s n all.2
    ∙ (ap (λ bs. Does s.by s.order s.set bs) same ∙ sym (ap (λ o. unwrap_or o (Ends Done)) (draft_at steps p s back all.1))) in
    ap (λ ts. step_tree (suc (suc i)) ts n ∷ ts) later ∙ ap (λ t. t ∷ map (at_place steps) rest) one
  where
    numbered_tree : (first : ℕ) (trees : List Tree) (numbers : List ℕ) (s n : Step) → IsNumbered numbers s n →
        step_tree first trees n ≡ Does s.by s.order s.set
        (branches_among first trees (map (edge_numbered numbers) s.edges.items))
    numbered_tree first trees numbers s n r = rw (r.same_by, r.same_order, r.same_set, r.edges) refl

pub length-numbered : (numbers : List ℕ) (steps : List Step) (rest : List ℕ) (plan : List Step) →
    AllNumbered numbers steps rest plan → length plan ≡ length rest
length-numbered numbers steps [] plan all = ap length all
length-numbered numbers steps (p ∷ rest) [] all = absurd all
length-numbered numbers steps (p ∷ rest) (n ∷ plan) all = ap suc (length-numbered numbers steps rest plan all.3)

next_past : (order numbers : List ℕ) (i more : ℕ) (next : Next) → length order ≡ i + suc more →
    LeadsOn order numbers i next → is_past (suc i) more (next_numbered numbers next) ≡ true
next_past order numbers i more (Over end) many on = refl
next_past order numbers i more (Both new old) many on = refl
next_past order numbers i more (To place) many on =
    let low = low_at order (get_or numbers place.0 0 - 1) place.0 on.1 in
    and_from (nat_lt (suc i) (get_or numbers place.0 0)) (nat_lt (get_or numbers place.0 0) (suc (suc i + more)))
    (lt-ltb (suc i) (get_or numbers place.0 0) (omega (arith, on.0)))
    (lt-ltb (get_or numbers place.0 0) (suc (suc i + more)) (omega (arith, low, on.0, many)))

edges_past : (order numbers : List ℕ) (i more : ℕ) (edges : List PlanEdge) → length order ≡ i + suc more →
    AllLeadOn order numbers i edges →
    list_all (λ e. is_past (suc i) more e.next) (map (edge_numbered numbers) edges) ≡ true
edges_past order numbers i more [] many on = refl
edges_past order numbers i more (e ∷ edges) many on =
    and_from (is_past (suc i) more (next_numbered numbers e.next)) _ (next_past order numbers i more e.next many on.0) (edges_past order numbers i more edges many on.1)

pub plan_leads_on : (steps : List Step) (order numbers : List ℕ) (i : ℕ) (rest : List ℕ) (plan : List Step) →
    OrderLeadsOn steps order numbers → IsRest order i rest → length order ≡ i + length rest →
    AllNumbered numbers steps rest plan → all_lead_on (suc i) plan ≡ true
plan_leads_on steps order numbers i [] plan on h many all = ap (all_lead_on (suc i)) all
plan_leads_on steps order numbers i (p ∷ rest) [] on h many all = absurd all
plan_leads_on steps order numbers i (p ∷ rest) (n ∷ plan) on h many all =
    let s = all.0 in
    let here : slice_get order i ≡ Some p = ap (slice_get order) (let e : i ≡ i + 0 = omega arith in e) ∙ sym (h 0) in
    let count = length-numbered numbers steps rest plan all.3 in
    let past = edges_past order numbers i (length plan) s.edges.items (omega (arith, count)) (on i p s here all.1) in
    and_from (list_all (λ e. is_past (suc i) (length plan) e.next) n.edges.items) _
    (subst (λ (es : List PlanEdge). list_all (λ e. is_past (suc i) (length plan) e.next) es ≡ true) (sym all.2.edges) past)
    (plan_leads_on steps order numbers (suc i) rest plan on (rest_after order i p rest h) (omega arith) all.3)
