-- Depths of steps.
use Rattle.std.proofs.Common.{◌≡◌, ◌≢◌, ℕ, zero, suc, set, replicate, nat_lt, ◌+◌, ◌-◌, ◌<◌, ◌≤◌, max, true, false}
use Rattle.std.proofs.Common.{List, [], ◌∷◌, ◌++◌, length, length-append, get_or, nat_eq, refl, sym, ◌∙◌, ap, subst}
use Rattle.std.proofs.Common.{arith, ◌⊎◌, inl, inr, Some, slice_get, length-set}
use Rattle.std.proofs.lemmas.Bool.{ltb-true, lt-ltb, cases_eq, cases_lt, and_from, and_parts, or_cases, or_left, or_right, eq-eqb, eqb-true, false≢true}
use Rattle.std.proofs.lemmas.List.{get_or-set_same, get_or-set_other, set_past, length-replicate}
use Rattle.plan_steps.specs.declared.step.Next.{Next}
use Rattle.plan_steps.specs.declared.step.Next.TheVariants.{To, Over, Both}
use Rattle.plan_steps.specs.declared.step.PlanEdge.{PlanEdge}
use Rattle.plan_steps.specs.declared.step.Step.{Step}
use Rattle.plan_steps.specs.Steps.{is_below, all_below, all_lead_back}
use Rattle.listener_set.specs.Numbers.{is_in}
use Rattle.plan_steps.specs.Numbering.{place_behind, places_behind, Leads, IsPath, HasPath, IsDepth, AreDepths}
use Rattle.plan_steps.specs.Numbering.{deepened_at, deepened, is_deeper, all_deeper, all_within}
use Rattle.plan_steps.proofs.StepTrees.{all_weaker, all_below-le, back_at}

max_cases : (a b : ℕ) → (max a b ≡ a) ⊎ (max a b ≡ b)
max_cases a b = elim (cases_lt a b) [ inl h ↦ inr (omega arith) | inr h ↦ inl (omega arith) ]

-- what is behind an edge is behind it and others
behind_front : (next : Next) (ps : List ℕ) (k : ℕ) → is_in (place_behind next []) k ≡ true → is_in (place_behind next ps) k ≡ true
behind_front (Over end) ps k h = absurd (false≢true h)
behind_front (Both new old) ps k h = absurd (false≢true h)
behind_front (To place) ps k h = elim (or_cases (nat_eq place.0 k) false h) [
  | inl same ↦ or_left (nat_eq place.0 k) (is_in ps k) same
  | inr no_more ↦ absurd (false≢true no_more)
]

pub in_behind : (next : Next) (ps : List ℕ) (k : ℕ) → is_in ps k ≡ true → is_in (place_behind next ps) k ≡ true
in_behind (Over end) ps k h = h
in_behind (Both new old) ps k h = h
in_behind (To place) ps k h = or_right (nat_eq place.0 k) (is_in ps k) h

-- what one edge changes
at_cases : (n depth : ℕ) (next : Next) (depths : List ℕ) → is_below n next ≡ true → (k : ℕ) →
    (get_or (deepened_at depth next depths) k 0 ≡ get_or depths k 0) ⊎
    ((k < n) × (get_or (deepened_at depth next depths) k 0 ≡ depth) × (is_in (place_behind next []) k ≡ true))
at_cases n depth (Over end) depths below k = inl refl
at_cases n depth (Both new old) depths below k = inl refl
at_cases n depth (To place) depths below k =
    elim (cases_eq k place.0) [
      | inr other ↦ inl (get_or-set_other depths place.0 k (max (get_or depths place.0 0) depth) 0 other)
      | inl same ↦ elim (cases_lt place.0 (length depths)) [
        | inr past ↦ inl (ap (λ ds. get_or ds k 0) (set_past depths place.0 (max (get_or depths place.0 0) depth) past))
        | inl low ↦ here same (get_or-set_same depths place.0 (max (get_or depths place.0 0) depth) 0 low) (max_cases (get_or depths place.0 0) depth)
      ]
    ]
  where
    here : k ≡ place.0 → get_or (deepened_at depth (To place) depths) place.0 0 ≡ max (get_or depths place.0 0) depth →
        (max (get_or depths place.0 0) depth ≡ get_or depths place.0 0) ⊎
        (max (get_or depths place.0 0) depth ≡ depth) →
        (get_or (deepened_at depth (To place) depths) k 0 ≡ get_or depths k 0) ⊎
        ((k < n) × (get_or (deepened_at depth (To place) depths) k 0 ≡ depth) × (is_in (place.0 ∷ []) k ≡ true))
    here same is (inl stays) = inl (ap (λ j. get_or (deepened_at depth (To place) depths) j 0) same ∙ (is ∙ (stays ∙ ap (λ j. get_or depths j 0) (sym same))))
    here same is (inr moves) = inr (omega (arith, ltb-true place.0 n below), ap (λ j. get_or (deepened_at depth (To place) depths) j 0) same ∙ (is ∙ moves), or_left (nat_eq place.0 k) false (eq-eqb place.0 k (sym same)))

at_ge : (depth : ℕ) (next : Next) (depths : List ℕ) (k : ℕ) → get_or depths k 0 ≤ get_or (deepened_at depth next depths) k 0
at_ge depth (Over end) depths k = omega arith
at_ge depth (Both new old) depths k = omega arith
at_ge depth (To place) depths k =
    elim (cases_eq k place.0) [
      | inr other ↦ omega (arith, get_or-set_other depths place.0 k (max (get_or depths place.0 0) depth) 0 other)
      | inl same ↦ elim (cases_lt place.0 (length depths)) [
        | inr past ↦ omega (arith, ap (λ ds. get_or ds k 0) (set_past depths place.0 (max (get_or depths place.0 0) depth) past))
        | inl low ↦ omega (arith, ap (λ j. get_or (deepened_at depth (To place) depths) j 0) same, ap (λ j. get_or depths j 0) same, get_or-set_same depths place.0 (max (get_or depths place.0 0) depth) 0 low)
      ]
    ]

at_length : (depth : ℕ) (next : Next) (depths : List ℕ) → length (deepened_at depth next depths) ≡ length depths
at_length depth (Over end) depths = refl
at_length depth (Both new old) depths = refl
at_length depth (To place) depths = length-set depths place.0 (max (get_or depths place.0 0) depth)

pub length-deepened : (depth : ℕ) (edges : List PlanEdge) (depths : List ℕ) → length (deepened depth edges depths) ≡ length depths
length-deepened depth [] depths = refl
length-deepened depth (e ∷ edges) depths = length-deepened depth edges (deepened_at depth e.next depths) ∙ at_length depth e.next depths

-- Each depth stays, or its place is behind an edge, below n, and gets the new one.
pub deepened_cases : (n depth : ℕ) (edges : List PlanEdge) (depths : List ℕ) → all_below n edges ≡ true → (k : ℕ) →
    (get_or (deepened depth edges depths) k 0 ≡ get_or depths k 0) ⊎
    ((k < n) × (get_or (deepened depth edges depths) k 0 ≡ depth) × (is_in (places_behind edges) k ≡ true))
deepened_cases n depth [] depths below k = inl refl
deepened_cases n depth (e ∷ edges) depths below k =
    let tests = and_parts (is_below n e.next) (all_below n edges) below in
    elim (deepened_cases n depth edges (deepened_at depth e.next depths) tests.1 k) [
      | inr moved ↦ inr (moved.0, moved.1, in_behind e.next (places_behind edges) k moved.2)
      | inl same ↦ elim (at_cases n depth e.next depths tests.0 k) [
        | inl stays ↦ inl (same ∙ stays)
        | inr moves ↦ inr (moves.0, same ∙ moves.1, behind_front e.next (places_behind edges) k moves.2)
      ]
    ]

pub deepened_ge : (depth : ℕ) (edges : List PlanEdge) (depths : List ℕ) (k : ℕ) → get_or depths k 0 ≤ get_or (deepened depth edges depths) k 0
deepened_ge depth [] depths k = omega arith
deepened_ge depth (e ∷ edges) depths k = omega (arith, at_ge depth e.next depths k, deepened_ge depth edges (deepened_at depth e.next depths) k)

deeper_le : (old new : List ℕ) (d : ℕ) (next : Next) → ((k : ℕ) → get_or old k 0 ≤ get_or new k 0) → is_deeper old d next ≡ true → is_deeper new d next ≡ true
deeper_le old new d (Over end) ge h = refl
deeper_le old new d (Both a b) ge h = refl
deeper_le old new d (To place) ge h = lt-ltb d (get_or new place.0 0) (omega (arith, ge place.0, ltb-true d (get_or old place.0 0) h))

-- what lies deeper stays so where depths grow
pub all_deeper-le : (old new : List ℕ) (d : ℕ) (edges : List PlanEdge) → ((k : ℕ) → get_or old k 0 ≤ get_or new k 0) →
    all_deeper old d edges ≡ true → all_deeper new d edges ≡ true
all_deeper-le old new d edges ge = all_weaker (λ e. is_deeper old d e.next) (λ e. is_deeper new d e.next) (λ e h. deeper_le old new d e.next ge h) edges

one_behind : (d depth : ℕ) (next : Next) (depths : List ℕ) → d < depth → is_below (length depths) next ≡ true →
    is_deeper (deepened_at depth next depths) d next ≡ true
one_behind d depth (Over end) depths h below = refl
one_behind d depth (Both new old) depths h below = refl
one_behind d depth (To place) depths h below =
    lt-ltb d _ (omega (arith, get_or-set_same depths place.0 (max (get_or depths place.0 0) depth) 0 (ltb-true place.0 (length depths) below)))

-- what is behind the edges lies deeper
pub deepened_behind : (d depth : ℕ) (edges : List PlanEdge) (depths : List ℕ) → d < depth →
    all_below (length depths) edges ≡ true → all_deeper (deepened depth edges depths) d edges ≡ true
deepened_behind d depth [] depths h below = refl
deepened_behind d depth (e ∷ edges) depths h below =
    let tests = and_parts (is_below (length depths) e.next) (all_below (length depths) edges) below in
    and_from (is_deeper (deepened depth edges (deepened_at depth e.next depths)) d e.next) _
    (deeper_le (deepened_at depth e.next depths) (deepened depth edges (deepened_at depth e.next depths)) d e.next (deepened_ge depth edges (deepened_at depth e.next depths)) (one_behind d depth e.next depths h tests.0))
    (deepened_behind d depth edges (deepened_at depth e.next depths) h (subst (λ (n : ℕ). all_below n edges ≡ true) (sym (at_length depth e.next depths)) tests.1))

-- ---- the pass from the first step down

-- The steps from a place on have their depths, and have passed them on.
pub record AreDeepened (steps : List Step) (roots : List ℕ) (from : ℕ) (depths : List ℕ) : Type 0 where
  pub count : length depths ≡ length steps
  pub begins : (k : ℕ) → is_in roots k ≡ true → 1 ≤ get_or depths k 0
  pub within : (k : ℕ) → get_or depths k 0 ≤ length steps - k
  pub deeper : (k : ℕ) (s : Step) → from ≤ k → slice_get steps k ≡ Some s → 1 ≤ get_or depths k 0 → all_deeper depths (get_or depths k 0) s.edges.items ≡ true
  pub path : (k : ℕ) → 1 ≤ get_or depths k 0 → HasPath steps roots k (get_or depths k 0)

-- what lies no lower keeps its depth
deepened_above : (place depth : ℕ) (edges : List PlanEdge) (depths : List ℕ) → all_below place edges ≡ true → (k : ℕ) →
    place ≤ k → get_or (deepened depth edges depths) k 0 ≡ get_or depths k 0
deepened_above place depth edges depths back k le = elim (deepened_cases place depth edges depths back k) [ inl same ↦ same | inr moved ↦ absurd (omega (arith, moved.0)) ]

some_one : {x y : Step} → Some x ≡ Some y → x ≡ y
some_one e = cc

-- a path goes on by an edge
path_more : (steps : List Step) (from : ℕ) (places : List ℕ) (k to : ℕ) → IsPath steps from places k →
    Leads steps k to → IsPath steps from (places ++ to ∷ []) to
path_more steps from [] k to path on = (subst (λ (j : ℕ). Leads steps j to) (sym path) on, refl)
path_more steps from (x ∷ places) k to path on = (path.0, path_more steps x places k to path.1 on)

path_on : (steps : List Step) (roots : List ℕ) (k to n : ℕ) → HasPath steps roots k n → Leads steps k to → HasPath steps roots to (n + 1)
path_on steps roots k to n h on =
    record {
      root = h.root;
      is_root = h.is_root;
      places = h.places ++ to ∷ [];
      leads = path_more steps h.root h.places k to h.leads on;
      count = omega (arith, h.count, length-append h.places (to ∷ []));
    }

-- a place passes its depth on
pub deepened_on : (steps : List Step) (roots : List ℕ) (place : ℕ) (s : Step) (depths : List ℕ) →
    AreDeepened steps roots (place + 1) depths → slice_get steps place ≡ Some s → all_below place s.edges.items ≡ true →
    place < length steps → 1 ≤ get_or depths place 0
    → AreDeepened steps roots place (deepened (get_or depths place 0 + 1) s.edges.items depths)
deepened_on steps roots place s depths h at back low has =
    let edges = s.edges.items in
    let depth : ℕ = get_or depths place 0 + 1 in
    let new : List ℕ = deepened depth edges depths in
    record {
      count = length-deepened depth edges depths ∙ h.count;
      begins = λ k root. omega (arith, h.begins k root, deepened_ge depth edges depths k);
      within = λ k. elim (deepened_cases place depth edges depths back k) [
        | inl same ↦ omega (arith, h.within k)
        | inr moved ↦ omega (arith, h.within place, moved.0, moved.1, low)
      ];
      deeper = λ k t from here there. elim (cases_eq k place) [
        | inl same ↦
            let found : slice_get steps place ≡ Some t = ap (slice_get steps) (sym same) ∙ here in
            let kept : get_or new k 0 ≡ get_or depths place 0 = deepened_above place depth edges depths back k from ∙ ap (λ j. get_or depths j 0) same in
            subst (λ (u : Step). all_deeper new (get_or new k 0) u.edges.items ≡ true) (some_one (sym at ∙ found))
            (subst (λ (d : ℕ). all_deeper new d edges ≡ true) (sym kept)
            (deepened_behind (get_or depths place 0) depth edges depths (omega arith) (all_below-le place (length depths) edges (omega (arith, h.count)) back)))
        | inr other ↦
            let kept = deepened_above place depth edges depths back k from in
            subst (λ (d : ℕ). all_deeper new d t.edges.items ≡ true) (sym kept)
            (all_deeper-le depths new (get_or depths k 0) t.edges.items (deepened_ge depth edges depths) (h.deeper k t (omega (arith, other)) here (omega (arith, kept))))
      ];
      path = λ k laid. elim (deepened_cases place depth edges depths back k) [
        | inl same ↦ subst (HasPath steps roots k) (sym same) (h.path k (omega (arith, laid, same)))
        | inr moved ↦
            subst (HasPath steps roots k) (sym moved.1)
            (path_on steps roots place k (get_or depths place 0) (h.path place has) (record { step = s; is = at; behind = moved.2 }))
      ];
    }

-- ---- the depths are greatest

behind_deeper : (depths : List ℕ) (d : ℕ) (next : Next) (ps : List ℕ) (k : ℕ) → is_deeper depths d next ≡ true →
    (is_in ps k ≡ true → d < get_or depths k 0) → is_in (place_behind next ps) k ≡ true → d < get_or depths k 0
behind_deeper depths d (Over end) ps k deep rest h = rest h
behind_deeper depths d (Both new old) ps k deep rest h = rest h
behind_deeper depths d (To place) ps k deep rest h = elim (or_cases (nat_eq place.0 k) (is_in ps k) h) [
  | inl same ↦ omega (arith, ltb-true d (get_or depths place.0 0) deep, ap (λ j. get_or depths j 0) (eqb-true place.0 k same))
  | inr there ↦ rest there
]

-- what is behind edges lies deeper, where that is so of each edge
places_deeper : (depths : List ℕ) (d : ℕ) (edges : List PlanEdge) (k : ℕ) → all_deeper depths d edges ≡ true →
    is_in (places_behind edges) k ≡ true → d < get_or depths k 0
places_deeper depths d [] k deep h = absurd (false≢true h)
places_deeper depths d (e ∷ edges) k deep h =
    let parts = and_parts (is_deeper depths d e.next) (all_deeper depths d edges) deep in
    behind_deeper depths d e.next (places_behind edges) k parts.0 (places_deeper depths d edges k parts.1) h

-- no path is longer than the depths allow
path_most : (steps : List Step) (roots depths : List ℕ) → AreDepths steps roots depths →
    (from : ℕ) (places : List ℕ) (to : ℕ) → 1 ≤ get_or depths from 0 → IsPath steps from places to →
    get_or depths from 0 + length places ≤ get_or depths to 0
path_most steps roots depths h from [] to has path = omega (arith, ap (λ j. get_or depths j 0) path)
path_most steps roots depths h from (k ∷ places) to has path =
    let more = places_deeper depths (get_or depths from 0) path.0.step.edges.items k (h.deeper from path.0.step path.0.is has) path.0.behind in
    omega (arith, more, path_most steps roots depths h k places to (omega (arith, more)) path.1)

pub is_depth : (steps : List Step) (roots depths : List ℕ) (k : ℕ) → AreDepths steps roots depths →
    1 ≤ get_or depths k 0 → IsDepth steps roots k (get_or depths k 0)
is_depth steps roots depths k h has =
    record {
      path = h.path k has;
      greatest = λ root places is leads. omega (arith, h.begins root is, path_most steps roots depths h root places k (h.begins root is) leads);
    }

-- ---- where nothing was passed on yet

-- of all depths these places alone have one, and it is 1
pub record AreLaid (places : ℕ) (roots depths : List ℕ) : Type 0 where
  pub count : length depths ≡ places
  pub begins : (k : ℕ) → is_in roots k ≡ true → get_or depths k 0 ≡ 1
  pub alone : (k : ℕ) → 1 ≤ get_or depths k 0 → (is_in roots k ≡ true) × (get_or depths k 0 ≡ 1)

pub laid_none : (places : ℕ) (depths : List ℕ) → depths ≡ replicate places zero → AreLaid places [] depths
laid_none places depths is = rw (is)
    record {
      count = length-replicate places zero;
      begins = λ k here. absurd (false≢true here);
      alone = λ k has. absurd (omega (arith, has, never places k));
    }
  where
    never : (n k : ℕ) → get_or (replicate n zero) k zero ≡ zero
    never zero k = refl
    never (suc n) zero = refl
    never (suc n) (suc k) = never n k

pub laid_more : (places : ℕ) (roots depths : List ℕ) (p : ℕ) → AreLaid places roots depths → p < places → AreLaid places (roots ++ p ∷ []) (set depths p 1)
laid_more places roots depths p h low =
    record {
      count = length-set depths p 1 ∙ h.count;
      begins = λ k here. elim (cases_eq k p) [
        | inl same ↦ at_root k same
        | inr other ↦ get_or-set_other depths p k 1 0 other ∙ h.begins k (before k other roots here)
      ];
      alone = λ k has. elim (cases_eq k p) [
        | inl same ↦ (last k same roots, at_root k same)
        | inr other ↦
            let stays = get_or-set_other depths p k 1 0 other in
            let was = h.alone k (omega (arith, has, stays)) in
            (longer k roots was.0, stays ∙ was.1)
      ];
    }
  where
    at_root : (k : ℕ) → k ≡ p → get_or (set depths p 1) k 0 ≡ 1
    at_root k same = ap (λ j. get_or (set depths p 1) j 0) same ∙ get_or-set_same depths p 1 0 (omega (arith, h.count, low))

    before : (k : ℕ) → k ≢ p → (ks : List ℕ) → is_in (ks ++ p ∷ []) k ≡ true → is_in ks k ≡ true
    before k other [] here = elim (or_cases (nat_eq p k) false here) [ inl same ↦ absurd (other (sym (eqb-true p k same))) | inr no_more ↦ absurd (false≢true no_more) ]
    before k other (x ∷ ks) here = elim (or_cases (nat_eq x k) (is_in (ks ++ p ∷ []) k) here) [
      | inl same ↦ or_left (nat_eq x k) (is_in ks k) same
      | inr there ↦ or_right (nat_eq x k) (is_in ks k) (before k other ks there)
    ]

    last : (k : ℕ) → k ≡ p → (ks : List ℕ) → is_in (ks ++ p ∷ []) k ≡ true
    last k same [] = or_left (nat_eq p k) false (eq-eqb p k (sym same))
    last k same (x ∷ ks) = or_right (nat_eq x k) (is_in (ks ++ p ∷ []) k) (last k same ks)

    longer : (k : ℕ) (ks : List ℕ) → is_in ks k ≡ true → is_in (ks ++ p ∷ []) k ≡ true
    longer k [] here = absurd (false≢true here)
    longer k (x ∷ ks) here = elim (or_cases (nat_eq x k) (is_in ks k) here) [
      | inl same ↦ or_left (nat_eq x k) (is_in (ks ++ p ∷ []) k) same
      | inr there ↦ or_right (nat_eq x k) (is_in (ks ++ p ∷ []) k) (longer k ks there)
    ]

pub deepened_none : (steps : List Step) (roots depths : List ℕ) → all_within (length steps) roots ≡ true →
    AreLaid (length steps) roots depths → AreDeepened steps roots (length steps) depths
deepened_none steps roots depths low h =
    record {
      count = h.count;
      begins = λ k root. omega (arith, h.begins k root);
      within = λ k. elim (cases_lt 0 (get_or depths k 0)) [
        | inr flat ↦ omega (arith, flat)
        | inl has ↦ let is = h.alone k has in omega (arith, is.1, root_low roots k low is.0)
      ];
      deeper = λ k s from here has. absurd (omega (arith, from, past steps k s here));
      path = λ k has. let is = h.alone k has in record { root = k; is_root = is.0; places = []; leads = refl; count = sym is.1 };
    }
  where
    past : (xs : List Step) (k : ℕ) (s : Step) → slice_get xs k ≡ Some s → k < length xs
    past [] k s at = cc
    past (x ∷ xs) zero s at = omega arith
    past (x ∷ xs) (suc k) s at = let low : k < length xs = past xs k s at in omega arith

    root_low : (ks : List ℕ) (k : ℕ) → all_within (length steps) ks ≡ true → is_in ks k ≡ true → k < length steps
    root_low [] k all here = absurd (false≢true here)
    root_low (x ∷ ks) k all here =
        let parts = and_parts (nat_lt x (length steps)) (all_within (length steps) ks) all in
        elim (or_cases (nat_eq x k) (is_in ks k) here) [
          | inl same ↦ omega (arith, ltb-true x (length steps) parts.0, eqb-true x k same)
          | inr there ↦ root_low ks k parts.1 there
        ]

-- ---- one root

below_in : (n : ℕ) (edges : List PlanEdge) (k : ℕ) → all_below n edges ≡ true → is_in (places_behind edges) k ≡ true → k < n
below_in n [] k below h = absurd (false≢true h)
below_in n (e ∷ edges) k below h =
    let parts = and_parts (is_below n e.next) (all_below n edges) below in
    one e.next (places_behind edges) parts.0 (below_in n edges k parts.1) h
  where
    one : (next : Next) (ps : List ℕ) → is_below n next ≡ true → (is_in ps k ≡ true → k < n) → is_in (place_behind next ps) k ≡ true → k < n
    one (Over end) ps low rest h = rest h
    one (Both new old) ps low rest h = rest h
    one (To place) ps low rest h = elim (or_cases (nat_eq place.0 k) (is_in ps k) h) [
      | inl same ↦ omega (arith, ltb-true place.0 n low, eqb-true place.0 k same)
      | inr there ↦ rest there
    ]

-- a path of a draft goes down
path_falls : (steps : List Step) → all_lead_back 0 steps ≡ true → (from : ℕ) (places : List ℕ) (to : ℕ) →
    IsPath steps from places to → to + length places ≤ from
path_falls steps back from [] to path = omega (arith, path)
path_falls steps back from (k ∷ places) to path =
    let low = below_in (0 + from) path.0.step.edges.items k (back_at 0 steps from path.0.step back path.0.is) path.0.behind in
    omega (arith, low, path_falls steps back k places to path.1)

one_of : (x k : ℕ) → is_in (x ∷ []) k ≡ true → x ≡ k
one_of x k h = elim (or_cases (nat_eq x k) false h) [ inl same ↦ eqb-true x k same | inr no_more ↦ absurd (false≢true no_more) ]

-- the only root lies at depth 1
pub root_depth : (steps : List Step) (first : ℕ) (depths : List ℕ) → all_lead_back 0 steps ≡ true →
    AreDepths steps (first ∷ []) depths → get_or depths first 0 ≡ 1
root_depth steps first depths back h =
    let has = h.begins first (or_left (nat_eq first first) false (eq-eqb first first refl)) in
    let path = h.path first has in
    omega (arith, has, path.count, one_of first path.root path.is_root, path_falls steps back path.root path.places first path.leads)

-- no other place lies there
pub root_alone : (steps : List Step) (first : ℕ) (depths : List ℕ) (k : ℕ) → AreDepths steps (first ∷ []) depths → get_or depths k 0 ≡ 1 → k ≡ first
root_alone steps first depths k h one =
    let path = h.path k (omega (arith, one)) in
    none path.places (omega (arith, path.count, one)) path.leads ∙ sym (one_of first path.root path.is_root)
  where
    none : {root : ℕ} (places : List ℕ) → length places ≡ 0 → IsPath steps root places k → k ≡ root
    none [] e leads = sym leads
    none (x ∷ places) e leads = absurd (omega (arith, e))
