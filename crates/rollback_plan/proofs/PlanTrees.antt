-- The trees of a plan's steps.
use Rattle.std.proofs.Common.{◌≡◌, ℕ, zero, suc, ◌+◌, ◌-◌, ◌<◌, Bool, true, false, List, [], ◌∷◌, length, refl, ◌∙◌, ap}
use Rattle.std.proofs.Common.{subst, arith, Option, Some, IfSome, option_map, slice_get, unwrap_or, nat_lt, cond}
use Rattle.std.proofs.lemmas.Bool.{ltb-true, lt-ltb, and_parts, and_from}
use Rattle.std.specs.List.{list_all, find}
use Rattle.vocabulary.specs.declared.calls.Reply.{Reply}
use Rattle.vocabulary.specs.declared.calls.Answer.{Answer}
use Rattle.vocabulary.specs.declared.plans.PidNote.{PidNote}
use Rattle.vocabulary.specs.declared.plans.End.TheVariants.{Done}
use Rattle.call_laws.specs.Pieces.{branch, among}
use Rattle.definitions.specs.Run.{Tree, Ends, Does, Branch, reply_of}
use Rattle.rollback_plan.specs.Following.{follow}
use Rattle.plan_steps.specs.declared.step.Step.{Step}
use Rattle.plan_steps.specs.declared.step.PlanEdge.{PlanEdge}
use Rattle.plan_steps.specs.declared.step.Next.{Next}
use Rattle.plan_steps.specs.declared.step.Next.TheVariants.{To, Over, Both}
use Rattle.plan_steps.specs.declared.step.Place.{Place}
use Rattle.plan_steps.specs.Steps.{step_tree, trees_from, all_lead_on, is_past, branches_among, tree_among, edge_for, tree_here, tree_behind, is_within}
use Rattle.plan_steps.proofs.StepTrees.{all_weaker}

-- an edge that leads past n finds its tree one place further on
past_tree : (n more : ℕ) (t : Tree) (trees : List Tree) (next : Next) → is_past n more next ≡ true →
    tree_among (suc n) trees next ≡ tree_among n (t ∷ trees) next
past_tree n more t trees (Over end) h = refl
past_tree n more t trees (Both new old) h = refl
past_tree n more t trees (To place) h =
    let past : n < place.0 = ltb-true n place.0 (and_parts (nat_lt n place.0) _ h).0 in
    ap (λ k. unwrap_or (slice_get (t ∷ trees) k) (Ends Done)) (let e : suc (place.0 - suc n) ≡ place.0 - n = omega arith in e)

past_branches : (n more : ℕ) (t : Tree) (trees : List Tree) (edges : List PlanEdge) →
    list_all (λ e. is_past n more e.next) edges ≡ true →
    branches_among (suc n) trees edges ≡ branches_among n (t ∷ trees) edges
past_branches n more t trees [] h = refl
past_branches n more t trees (e ∷ edges) h =
    let parts = and_parts (is_past n more e.next) _ h in
    ap (λ x. Branch e.replies.now e.note x (branches_among (suc n) trees edges)) (past_tree n more t trees e.next parts.0)
    ∙ ap (Branch e.replies.now e.note (tree_among n (t ∷ trees) e.next)) (past_branches n more t trees edges parts.1)

past_less : (n more : ℕ) (next : Next) → is_past (suc n) more next ≡ true → is_past n (suc more) next ≡ true
past_less n more (Over end) h = refl
past_less n more (Both new old) h = refl
past_less n more (To place) h =
    let parts = and_parts (nat_lt (suc n) place.0) (nat_lt place.0 (suc (suc n + more))) h in
    and_from (nat_lt n place.0) (nat_lt place.0 (suc (n + suc more)))
    (lt-ltb n place.0 (omega (arith, ltb-true (suc n) place.0 parts.0)))
    (lt-ltb place.0 (suc (n + suc more)) (omega (arith, ltb-true place.0 (suc (suc n + more)) parts.1)))

past_more : (n more : ℕ) (next : Next) → is_past n more next ≡ true → is_past n (suc more) next ≡ true
past_more n more (Over end) h = refl
past_more n more (Both new old) h = refl
past_more n more (To place) h =
    let parts = and_parts (nat_lt n place.0) (nat_lt place.0 (suc (n + more))) h in
    and_from (nat_lt n place.0) (nat_lt place.0 (suc (n + suc more)))
    parts.0 (lt-ltb place.0 (suc (n + suc more)) (omega (arith, ltb-true place.0 (suc (n + more)) parts.1)))

-- each step's edges lead past the places before it
leads_on_at : (n : ℕ) (steps : List Step) (k : ℕ) (s : Step) → all_lead_on n steps ≡ true → slice_get steps k ≡ Some s →
    list_all (λ e. is_past n (length steps) e.next) s.edges.items ≡ true
leads_on_at n [] k s h at = cc
leads_on_at n (x ∷ steps) zero s h at =
    let is : x ≡ s = cc in
    all_weaker (λ e. is_past n (length steps) e.next) (λ e. is_past n (suc (length steps)) e.next) (λ e. past_more n (length steps) e.next) s.edges.items
    (subst (λ (y : Step). list_all (λ e. is_past n (length steps) e.next) y.edges.items ≡ true) is (and_parts _ (all_lead_on (suc n) steps) h).0)
leads_on_at n (x ∷ steps) (suc k) s h at =
    all_weaker (λ e. is_past (suc n) (length steps) e.next) (λ e. is_past n (suc (length steps)) e.next) (λ e. past_less n (length steps) e.next) s.edges.items
    (leads_on_at (suc n) steps k s (and_parts _ (all_lead_on (suc n) steps) h).1 at)

-- the tree at a place is that of its step
tree_at : (n : ℕ) (steps : List Step) (k : ℕ) (s : Step) → all_lead_on n steps ≡ true → slice_get steps k ≡ Some s →
    slice_get (trees_from n steps) k ≡ Some (step_tree n (trees_from n steps) s)
unfolding trees_from
tree_at n [] k s h at = cc
tree_at n (x ∷ steps) zero s h at =
    let is : x ≡ s = cc in
    let past = past_branches n (length steps) (step_tree (suc n) (trees_from (suc n) steps) x) (trees_from (suc n) steps) x.edges.items (and_parts _ (all_lead_on (suc n) steps) h).0 in
    ap (λ bs. Some (Does x.by x.order x.set bs)) past ∙ ap (λ y. Some (step_tree n (trees_from n (x ∷ steps)) y)) is
tree_at n (x ∷ steps) (suc k) s h at =
    tree_at (suc n) steps k s (and_parts _ (all_lead_on (suc n) steps) h).1 at
    ∙ ap (λ bs. Some (Does s.by s.order s.set bs)) (past_branches n (suc (length steps)) (step_tree (suc n) (trees_from (suc n) steps) x) (trees_from (suc n) steps) s.edges.items (leads_on_at n (x ∷ steps) (suc k) s h at))

-- the tree behind an edge is that of the step there
pub tree_at_place : (steps : List Step) (place : ℕ) (s : Step) → all_lead_on 1 steps ≡ true →
    slice_get steps (place - 1) ≡ Some s → tree_behind steps (To (record { 0 = place })) ≡ tree_here steps s
tree_at_place steps place s h at = ap (λ o. unwrap_or o (Ends Done)) (tree_at 1 steps (place - 1) s h at)

-- each step's edges lead to places of these steps
pub leads_within_at : (m : ℕ) (steps : List Step) (k : ℕ) (s : Step) → all_lead_on (suc m) steps ≡ true →
    slice_get steps k ≡ Some s → list_all (λ e. is_past m (length steps) e.next) s.edges.items ≡ true
leads_within_at m [] k s h at = cc
leads_within_at m (x ∷ steps) zero s h at =
    let is : x ≡ s = cc in
    all_weaker (λ e. is_past (suc m) (length steps) e.next) (λ e. is_past m (suc (length steps)) e.next) (λ e. past_less m (length steps) e.next) s.edges.items
    (subst (λ (y : Step). list_all (λ e. is_past (suc m) (length steps) e.next) y.edges.items ≡ true) is (and_parts _ (all_lead_on (suc (suc m)) steps) h).0)
leads_within_at m (x ∷ steps) (suc k) s h at =
    all_weaker (λ e. is_past (suc m) (length steps) e.next) (λ e. is_past m (suc (length steps)) e.next) (λ e. past_less m (length steps) e.next) s.edges.items
    (leads_within_at (suc m) steps k s (and_parts _ (all_lead_on (suc (suc m)) steps) h).1 at)

-- one that is found has what all have
pub found_has : {X : Type 0} (p q : X → Bool) (xs : List X) → list_all q xs ≡ true → IfSome (find p xs) (λ x. q x ≡ true)
found_has p q [] h = tt
found_has p q (x ∷ xs) h =
    elim (p x) as (λ b. IfSome (cond b (Some x) (find p xs)) (λ y. q y ≡ true)) [ true ↦ (and_parts (q x) (list_all q xs) h).0 | false ↦ found_has p q xs (and_parts (q x) (list_all q xs) h).1 ]

-- what is behind an edge for a reply
branch-edge_for : (n : ℕ) (trees : List Tree) (edges : List PlanEdge) (r : Reply) →
    branch (branches_among n trees edges) r ≡ option_map (λ e. (e.note, tree_among n trees e.next)) (edge_for edges r)
branch-edge_for n trees [] r = refl
branch-edge_for n trees (e ∷ edges) r =
    elim (among e.replies.now r) as (λ b. elim b as (λ c. Option (Option PidNote × Tree)) [ true ↦ Some (e.note, tree_among n trees e.next) | false ↦ branch (branches_among n trees edges) r ] ≡ option_map (λ x. (x.note, tree_among n trees x.next)) (cond b (Some e) (edge_for edges r))) [
      | true ↦ refl
      | false ↦ branch-edge_for n trees edges r
    ]

-- what follows an answer, by the edges of a step
pub follow_here : (steps : List Step) (s : Step) (answer : Answer) →
    follow (Some (tree_here steps s)) answer
    ≡ option_map (λ e. (e.note, tree_behind steps e.next)) (edge_for s.edges.items (reply_of s.set answer))
follow_here steps s answer = branch-edge_for 1 (trees_from 1 steps) s.edges.items (reply_of s.set answer)

pub within_at : (steps : List Step) (next : Next) (place : Place) → next ≡ To place → is_within steps next ≡ true → place.0 - 1 < length steps
within_at steps next place e h =
    let w : is_within steps (To place) ≡ true = subst (λ (x : Next). is_within steps x ≡ true) e h in
    let parts = and_parts (nat_lt 0 place.0) (nat_lt place.0 (suc (0 + length steps))) w in
    omega (arith, ltb-true 0 place.0 parts.0, ltb-true place.0 (suc (0 + length steps)) parts.1)

pub some_at : {X : Type 0} (xs : List X) (k : ℕ) → k < length xs → (x : X) × (slice_get xs k ≡ Some x)
some_at [] k h = absurd (omega arith)
some_at (x ∷ xs) zero h = (x, refl)
some_at (x ∷ xs) (suc k) h = some_at xs k (omega arith)
