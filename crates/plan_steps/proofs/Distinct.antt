-- No place is met twice.
use Rattle.std.proofs.Common.{◌≡◌, ◌≢◌, ℕ, zero, suc, ◌+◌, ◌<◌, ◌≤◌, Bool, true, false, cond, List, [], ◌∷◌, ◌++◌}
use Rattle.std.proofs.Common.{length, get_or, set, slice_get, take, filter, refl, sym, ◌∙◌, ap, subst, arith, inl, inr}
use Rattle.std.proofs.Common.{Some, nat_eq}
use Rattle.std.proofs.lemmas.Bool.{or_cases, or_left, or_right, eq-eqb, eqb-true, false≢true}
use Rattle.std.proofs.lemmas.List.{take_more}
use Rattle.std.proofs.lemmas.Option.{slice_get-get_or}
use Rattle.std.specs.List.{flat_map, range_with_len, IsDistinct, AllByRecursion}
use Rattle.listener_set.specs.Numbers.{is_in}
use Rattle.plan_steps.specs.declared.step.Step.{Step}
use Rattle.plan_steps.specs.Steps.{all_lead_back}
use Rattle.plan_steps.specs.Numbering.{all_within, Walks, IsByDepth, IsOrder, CanBeOrder, laid_at}
use Rattle.plan_steps.proofs.Walked.{in_left, in_right, in_cases, in_one, in_itself}
use Rattle.plan_steps.proofs.Ordered.{in_filter, layers_rise, rises_in}
use Rattle.plan_steps.proofs.Finished.{found_in, ordered, order_few, order_within}

pub absent : (b : Bool) → (b ≡ true → ⊥) → b ≡ false
absent true h = absurd (h refl)
absent false h = refl

-- a place that is not among others differs from each
differs : (k : ℕ) (places : List ℕ) → is_in places k ≡ false → AllByRecursion (λ y. nat_eq k y ≡ false) places
differs k [] h = tt
differs k (y ∷ places) h = (
  absent (nat_eq k y) (λ same. false≢true (sym h ∙ or_left (nat_eq y k) (is_in places k) (eq-eqb y k (sym (eqb-true k y same))))),
  differs k places (absent (is_in places k) (λ here. false≢true (sym h ∙ or_right (nat_eq y k) (is_in places k) here))),
)

pub not_in : (k : ℕ) (places : List ℕ) → AllByRecursion (λ y. nat_eq k y ≡ false) places → is_in places k ≡ false
not_in k [] h = refl
not_in k (y ∷ places) h =
    absent (is_in (y ∷ places) k)
    (λ here. elim (or_cases (nat_eq y k) (is_in places k) here) [
      | inl same ↦ false≢true (sym h.0 ∙ eq-eqb k y (sym (eqb-true y k same)))
      | inr there ↦ false≢true (sym (not_in k places h.1) ∙ there)
    ])

pub distinct-append : (xs ys : List ℕ) → IsDistinct nat_eq xs → IsDistinct nat_eq ys →
    ((k : ℕ) → is_in xs k ≡ true → is_in ys k ≡ false) → IsDistinct nat_eq (xs ++ ys)
unfolding IsDistinct
distinct-append [] ys h more apart = more
distinct-append (x ∷ xs) ys h more apart = (
  differs x (xs ++ ys)
      (absent (is_in (xs ++ ys) x)
      (λ here. elim (in_cases xs ys x here) [
        | inl front ↦ false≢true (sym (not_in x xs h.0) ∙ front)
        | inr back ↦ false≢true (sym (apart x (or_left (nat_eq x x) (is_in xs x) (eq-eqb x x refl))) ∙ back)
      ])),
  distinct-append xs ys h.1 more (λ k here. apart k (or_right (nat_eq x k) (is_in xs k) here)),
)

-- one place more
distinct_more : (places : List ℕ) (k : ℕ) → IsDistinct nat_eq places → is_in places k ≡ false → IsDistinct nat_eq (places ++ k ∷ [])
unfolding IsDistinct
distinct_more places k h new =
    distinct-append places (k ∷ []) h (tt, tt)
    (λ j here. absent (is_in (k ∷ []) j) (λ last. false≢true (sym new ∙ subst (λ (i : ℕ). is_in places i ≡ true) (sym (in_one k j last)) here)))

-- a walk meets no place twice
walk_distinct : (steps : List Step) → {met places all : List ℕ} → Walks steps met places all → IsDistinct nat_eq met → IsDistinct nat_eq all
walk_distinct steps Walks.over h = h
walk_distinct steps (Walks.passes known rest) h = walk_distinct steps rest h
walk_distinct steps (Walks.meets new at rest) h = walk_distinct steps rest (distinct_more _ _ h new)

-- ---- by depth

pub distinct_filter : (p : ℕ → Bool) (places : List ℕ) → IsDistinct nat_eq places → IsDistinct nat_eq (filter p places)
unfolding IsDistinct
distinct_filter p [] h = tt
distinct_filter p (x ∷ places) h = one (p x) (distinct_filter p places h.1)
  where
    one : (b : Bool) → IsDistinct nat_eq (filter p places) → IsDistinct nat_eq (cond b (x ∷ filter p places) (filter p places))
    one true rest = (differs x (filter p places) (absent (is_in (filter p places) x) (λ here. false≢true (sym (not_in x places h.0) ∙ in_filter p places x here))), rest)
    one false rest = rest

filter_holds : (p : ℕ → Bool) (places : List ℕ) (k : ℕ) → is_in (filter p places) k ≡ true → p k ≡ true
filter_holds p [] k h = absurd (false≢true h)
filter_holds p (x ∷ places) k h = one (p x) refl (filter_holds p places k) h
  where
    one : (b : Bool) → p x ≡ b → (is_in (filter p places) k ≡ true → p k ≡ true) → is_in (cond b (x ∷ filter p places) (filter p places)) k ≡ true → p k ≡ true
    one true holds more here = elim (or_cases (nat_eq x k) (is_in (filter p places) k) here) [
      | inl same ↦ subst (λ (j : ℕ). p j ≡ true) (eqb-true x k same) holds
      | inr there ↦ more there
    ]
    one false fails more here = more here

distinct_layers : (depths places : List ℕ) (from n : ℕ) → IsDistinct nat_eq places →
    IsDistinct nat_eq (flat_map (λ d. laid_at depths places (suc d)) (range_with_len from n))
unfolding IsDistinct
distinct_layers depths places from zero h = tt
distinct_layers depths places from (suc n) h =
    let rest = flat_map (λ d. laid_at depths places (suc d)) (range_with_len (from + 1) n) in
    distinct-append (laid_at depths places (suc from)) rest (distinct_filter (λ k. nat_eq (get_or depths k 0) (suc from)) places h) (distinct_layers depths places (from + 1) n h)
    (λ k here. absent (is_in rest k)
    (λ there.
    let at : get_or depths k 0 ≡ suc from = eqb-true (get_or depths k 0) (suc from) (filter_holds (λ j. nat_eq (get_or depths j 0) (suc from)) places k here) in
    let deep : suc (from + 1) ≤ get_or depths k 0 = rises_in depths (suc (from + 1)) rest k (layers_rise depths places (from + 1) n) there in
    absurd (omega (arith, at, deep))))

-- the order of a walk's places has none twice
pub order_distinct : (steps : List Step) (roots depths met order : List ℕ) → Walks steps [] roots met → IsByDepth depths met order → IsDistinct nat_eq order
unfolding IsDistinct
order_distinct steps roots depths met order walk sorted = subst (IsDistinct nat_eq) (sym sorted.is) (distinct_layers depths met 0 sorted.deepest (walk_distinct steps walk tt))

-- places that were found in order can be numbered
pub can_be_order : (steps lent : List Step) (roots order order_lent : List ℕ) → lent ≡ steps →
    all_lead_back 0 steps ≡ true → all_within (length steps) roots ≡ true → length steps ≤ 65536 →
    IsOrder lent roots order
    → order_lent ≡ order → CanBeOrder (length steps) order_lent
can_be_order steps lent roots order order_lent same back low few found again =
    let o = ordered steps lent roots order same back low found in
    subst (CanBeOrder (length steps)) (sym again)
    (record {
      few = omega (arith, order_few steps roots found.depths found.met order o, few);
      within = order_within steps roots found.depths found.met order o;
      distinct = order_distinct steps roots found.depths found.met order o.walk.in_turn o.sorted;
    })

-- ---- a place that is not taken yet

pub next_new : (places : List ℕ) (i : ℕ) → IsDistinct nat_eq places → i < length places → is_in (take i places) (get_or places i 0) ≡ false
unfolding IsDistinct
next_new [] i h low = absurd (omega arith)
next_new (x ∷ places) zero h low = refl
next_new (x ∷ places) (suc i) h low =
    absent (is_in (take (suc i) (x ∷ places)) (get_or places i 0))
    (λ here. elim (or_cases (nat_eq x (get_or places i 0)) (is_in (take i places) (get_or places i 0)) here) [
      | inl same ↦ false≢true (sym (not_in x places h.0) ∙ found_in places i x (slice_get-get_or places i 0 (omega arith) ∙ ap Some (sym (eqb-true x (get_or places i 0) same))))
      | inr there ↦ false≢true (sym (next_new places i h.1 (omega arith)) ∙ there)
    ])

slice_get-set_other : (steps : List Step) (i k : ℕ) (y : Step) → k ≢ i → slice_get (set steps i y) k ≡ slice_get steps k
slice_get-set_other [] i k y other = refl
slice_get-set_other (x ∷ steps) zero zero y other = absurd (other refl)
slice_get-set_other (x ∷ steps) zero (suc k) y other = refl
slice_get-set_other (x ∷ steps) (suc i) zero y other = refl
slice_get-set_other (x ∷ steps) (suc i) (suc k) y other = slice_get-set_other steps i k y (λ same. other (ap suc same))

-- the next place is taken, and the others stay
pub left_more : (old steps : List Step) (order : List ℕ) (i : ℕ) (y : Step) → i < length order →
    ((k : ℕ) → is_in (take i order) k ≡ false → slice_get steps k ≡ slice_get old k)
    → (k : ℕ) → is_in (take (i + 1) order) k ≡ false → slice_get (set steps (get_or order i 0) y) k ≡ slice_get old k
left_more old steps order i y low left k free =
    let longer = take_more order i 0 low in
    let none : is_in (take i order ++ get_or order i 0 ∷ []) k ≡ false = subst (λ (ks : List ℕ). is_in ks k ≡ false) longer free in
    slice_get-set_other steps (get_or order i 0) k y (λ same. false≢true (sym none ∙ in_right (take i order) (get_or order i 0 ∷ []) k (subst (λ (j : ℕ). is_in (j ∷ []) k ≡ true) same (in_itself k))))
    ∙ left k (absent (is_in (take i order) k) (λ here. false≢true (sym none ∙ in_left (take i order) (get_or order i 0 ∷ []) k here)))
