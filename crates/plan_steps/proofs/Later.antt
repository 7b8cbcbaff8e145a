-- An order in which each place leads to later ones.
use Rattle.std.proofs.Common.{◌≡◌, ℕ, zero, suc, ◌+◌, ◌-◌, ◌<◌, ◌≤◌, Bool, true, false, cond, List, [], ◌∷◌, ◌++◌}
use Rattle.std.proofs.Common.{length, get_or, filter, refl, sym, ◌∙◌, ap, subst, arith, ◌⊎◌, inl, inr, Some, slice_get}
use Rattle.std.proofs.Common.{nat_eq}
use Rattle.std.proofs.lemmas.Bool.{cases_lt, and_parts, ltb-true, eqb-true, or_cases, or_left, or_right, false≢true}
use Rattle.std.specs.List.{IsDistinct}
use Rattle.listener_set.specs.Numbers.{is_in}
use Rattle.plan_steps.specs.declared.step.Next.{Next}
use Rattle.plan_steps.specs.declared.step.Next.TheVariants.{To, Over, Both}
use Rattle.plan_steps.specs.declared.step.PlanEdge.{PlanEdge}
use Rattle.plan_steps.specs.declared.step.Step.{Step}
use Rattle.plan_steps.specs.Numbering.{AreNumbers, holds_of_edges, holds_behind, is_deeper, all_deeper}
use Rattle.plan_steps.specs.Stretches.{StandsAfter, IsLater, AllLater, OrderRuns}
use Rattle.plan_steps.proofs.Trees.{slice_get-append}
use Rattle.plan_steps.proofs.Ordered.{Rises, rises_less, rises_in, rises_to, filter_in}
use Rattle.plan_steps.proofs.Unfolded.{LeadsOn, AllLeadOn, OrderLeadsOn}
use Rattle.plan_steps.proofs.Finished.{AreOrdered, order_rises, order_in, in_order, found_in}
use Rattle.plan_steps.proofs.Distinct.{not_in}

all_later : (order more : List ℕ) (i j : ℕ) (edges : List PlanEdge) →
    ((k : ℕ) → StandsAfter order i k → StandsAfter more j k) → AllLater order i edges → AllLater more j edges
all_later order more i j [] f h = tt
all_later order more i j (e ∷ edges) f h = (one e.next h.0, all_later order more i j edges f h.1)
  where
    one : (next : Next) → IsLater order i next → IsLater more j next
    one (Over end) h = tt
    one (Both new old) h = tt
    one (To place) h = f place.0 h

-- ---- places by where they stand

low_at : (xs : List ℕ) (i k : ℕ) → slice_get xs i ≡ Some k → i < length xs
low_at [] i k e = cc
low_at (y ∷ ys) zero k e = omega arith
low_at (y ∷ ys) (suc i) k e = let h : i < length ys = low_at ys i k e in omega arith

slice_get-behind : (xs ys : List ℕ) (i : ℕ) → length xs ≤ i → slice_get (xs ++ ys) i ≡ slice_get ys (i - length xs)
slice_get-behind [] ys i h = ap (slice_get ys) (let e : i ≡ i - 0 = omega arith in e)
slice_get-behind (x ∷ xs) ys zero h = absurd (omega (arith, h))
slice_get-behind (x ∷ xs) ys (suc i) h = slice_get-behind xs ys i (omega (arith, h)) ∙ ap (slice_get ys) (let e : i - length xs ≡ suc i - suc (length xs) = omega arith in e)

pub found_at : (ks : List ℕ) (k : ℕ) → is_in ks k ≡ true → (i : ℕ) × (slice_get ks i ≡ Some k)
found_at [] k here = absurd (false≢true here)
found_at (x ∷ ks) k here = elim (or_cases (nat_eq x k) (is_in ks k) here) [
  | inl same ↦ (zero, ap Some (eqb-true x k same))
  | inr there ↦ let rest = found_at ks k there in (suc rest.0, rest.1)
]

some_one : {x y : ℕ} → Some x ≡ Some y → x ≡ y
some_one e = cc

-- no place stands twice
pub index_unique : (xs : List ℕ) (i j k : ℕ) → IsDistinct nat_eq xs → slice_get xs i ≡ Some k → slice_get xs j ≡ Some k → i ≡ j
unfolding IsDistinct
index_unique [] i j k h at there = cc
index_unique (x ∷ xs) zero zero k h at there = refl
index_unique (x ∷ xs) zero (suc j) k h at there = absurd (false≢true (sym (not_in x xs h.0) ∙ found_in xs j x (there ∙ sym at)))
index_unique (x ∷ xs) (suc i) zero k h at there = absurd (false≢true (sym (not_in x xs h.0) ∙ found_in xs i x (at ∙ sym there)))
index_unique (x ∷ xs) (suc i) (suc j) k h at there = ap suc (index_unique xs i j k h.1 at there)

-- later places have greater numbers
pub later_leads : (steps : List Step) (order numbers : List ℕ) → IsDistinct nat_eq order →
    AreNumbers order (length steps) numbers → OrderRuns steps order → OrderLeadsOn steps order numbers
later_leads steps order numbers once ns runs i p s at step = all s.edges.items (runs i p s at step)
  where
    one : (next : Next) → IsLater order i next → LeadsOn order numbers i next
    one (Over end) h = tt
    one (Both new old) h = tt
    one (To place) h =
        let stands = ns.stands place.0 (found_in order h.at place.0 h.is) in
        let same = index_unique order (get_or numbers place.0 0 - 1) h.at place.0 once stands.1 h.is in
        (omega (arith, same, h.after), stands.1)

    all : (edges : List PlanEdge) → AllLater order i edges → AllLeadOn order numbers i edges
    all [] h = tt
    all (e ∷ edges) h = (one e.next h.0, all edges h.1)

-- ---- a stretch

-- a stretch leads to later places of itself
pub runs_of : (steps : List Step) (roots depths met order : List ℕ) → AreOrdered steps roots depths met order → OrderRuns steps order
runs_of steps roots depths met order h i p s at step =
    let here = order_in steps roots depths met order h p (found_in order i p at) in
    let has : 1 ≤ get_or depths p 0 = rises_in depths 1 order p (order_rises steps roots depths met order h) (found_in order i p at) in
    all s.edges.items (h.walk.closed p s here step) (h.laid.deeper p s step has)
  where
    one : (next : Next) → holds_behind (is_in met) next ≡ true → is_deeper depths (get_or depths p 0) next ≡ true → IsLater order i next
    one (Over end) known deep = tt
    one (Both new old) known deep = tt
    one (To place) known deep =
        let stands = found_at order place.0 (in_order steps roots depths met order h place.0 known) in
        elim (cases_lt i stands.0) [
          | inl later ↦ record { at = stands.0; after = later; is = stands.1 }
          | inr sooner ↦
              absurd
              (let le : get_or depths place.0 0 ≤ get_or depths p 0 = rises_to depths 1 order stands.0 i place.0 p (order_rises steps roots depths met order h) sooner stands.1 at in
              omega (arith, le, ltb-true (get_or depths p 0) (get_or depths place.0 0) deep))
        ]

    all : (edges : List PlanEdge) → holds_of_edges (is_in met) edges ≡ true → all_deeper depths (get_or depths p 0) edges ≡ true → AllLater order i edges
    all [] known deep = tt
    all (e ∷ edges) known deep =
        let knowns = and_parts (holds_behind (is_in met) e.next) (holds_of_edges (is_in met) edges) known in
        let deeps = and_parts (is_deeper depths (get_or depths p 0) e.next) (all_deeper depths (get_or depths p 0) edges) deep in
        (one e.next knowns.0 deeps.0, all edges knowns.1 deeps.1)

after_front : (xs ys : List ℕ) (i k : ℕ) → StandsAfter xs i k → StandsAfter (xs ++ ys) i k
after_front xs ys i k h = record { at = h.at; after = h.after; is = slice_get-append xs ys h.at (low_at xs h.at k h.is) ∙ h.is }

after_back : (xs ys : List ℕ) (i k : ℕ) → length xs ≤ i → StandsAfter ys (i - length xs) k → StandsAfter (xs ++ ys) i k
after_back xs ys i k past h =
    record {
      at = length xs + h.at;
      after = omega (arith, h.after, past);
      is = slice_get-behind xs ys (length xs + h.at) (omega arith) ∙ (ap (slice_get ys) (let e : length xs + h.at - length xs ≡ h.at = omega arith in e) ∙ h.is);
    }

-- in front of a stretch that leads to itself stands one that leads to itself and to it
abbrev pub RunsInto : List Step → List ℕ → List ℕ → Type 0
RunsInto steps xs ys = (i p : ℕ) (s : Step) → slice_get xs i ≡ Some p → slice_get steps p ≡ Some s → AllLater (xs ++ ys) i s.edges.items

pub runs_before : (steps : List Step) (xs ys : List ℕ) → RunsInto steps xs ys → OrderRuns steps ys → OrderRuns steps (xs ++ ys)
runs_before steps xs ys front back i p s at step = elim (cases_lt i (length xs)) [
  | inl low ↦ front i p s (sym (slice_get-append xs ys i low) ∙ at) step
  | inr past ↦
      all_later ys (xs ++ ys) (i - length xs) i s.edges.items (λ k. after_back xs ys i k past)
      (back (i - length xs) p s (sym (slice_get-behind xs ys i past) ∙ at) step)
]

pub runs_append : (steps : List Step) (xs ys : List ℕ) → OrderRuns steps xs → OrderRuns steps ys → OrderRuns steps (xs ++ ys)
runs_append steps xs ys front back =
    runs_before steps xs ys (λ i p s at step. all_later xs (xs ++ ys) i i s.edges.items (λ k. after_front xs ys i k) (front i p s at step)) back

-- ---- a part of a stretch

rises_filter : (depths : List ℕ) (test : ℕ → Bool) (least : ℕ) (ks : List ℕ) → Rises depths least ks → Rises depths least (filter test ks)
rises_filter depths test least [] h = tt
rises_filter depths test least (k ∷ ks) h = one (test k) (rises_filter depths test (get_or depths k 0) ks h.1)
  where
    one : (b : Bool) → Rises depths (get_or depths k 0) (filter test ks) → Rises depths least (cond b (k ∷ filter test ks) (filter test ks))
    one true rest = (h.0, rest)
    one false rest = rises_less depths least (get_or depths k 0) (filter test ks) h.0 rest

pub filter_holds : (test : ℕ → Bool) (ks : List ℕ) (k : ℕ) → is_in (filter test ks) k ≡ true → (is_in ks k ≡ true) × (test k ≡ true)
filter_holds test [] k h = absurd (false≢true h)
filter_holds test (x ∷ ks) k h = one (test x) refl (filter_holds test ks k) h
  where
    one : (b : Bool) → test x ≡ b → (is_in (filter test ks) k ≡ true → (is_in ks k ≡ true) × (test k ≡ true)) →
        is_in (cond b (x ∷ filter test ks) (filter test ks)) k ≡ true → (is_in (x ∷ ks) k ≡ true) × (test k ≡ true)
    one true holds more here = elim (or_cases (nat_eq x k) (is_in (filter test ks) k) here) [
      | inl same ↦ (or_left (nat_eq x k) (is_in ks k) same, subst (λ (j : ℕ). test j ≡ true) (eqb-true x k same) holds)
      | inr there ↦ (or_right (nat_eq x k) (is_in ks k) (more there).0, (more there).1)
    ]
    one false fails more here = (or_right (nat_eq x k) (is_in ks k) (more here).0, (more here).1)

-- The part of a stretch for which a test holds leads to itself, and else to where what fails the test stands.
pub runs_filter : (steps : List Step) (roots depths met order ys : List ℕ) (test : ℕ → Bool) → AreOrdered steps roots depths met order
    → ((k : ℕ) → is_in order k ≡ true → (test k ≡ true) ⊎ (is_in ys k ≡ true)) → RunsInto steps (filter test order) ys
runs_filter steps roots depths met order ys test h else i p s at step =
    let own = (filter_holds test order p (found_in (filter test order) i p at)).0 in
    let here = order_in steps roots depths met order h p own in
    let has : 1 ≤ get_or depths p 0 = rises_in depths 1 order p (order_rises steps roots depths met order h) own in
    all s.edges.items (h.walk.closed p s here step) (h.laid.deeper p s step has)
  where
    rise : Rises depths 1 (filter test order)
    rise = rises_filter depths test 1 order (order_rises steps roots depths met order h)

    one : (next : Next) → holds_behind (is_in met) next ≡ true → is_deeper depths (get_or depths p 0) next ≡ true → IsLater (filter test order ++ ys) i next
    one (Over end) known deep = tt
    one (Both new old) known deep = tt
    one (To place) known deep =
        let there = in_order steps roots depths met order h place.0 known in
        elim (else place.0 there) [
          | inl holds ↦
              let stands = found_at (filter test order) place.0 (filter_in test order place.0 there holds) in
              elim (cases_lt i stands.0) [
                | inl later ↦ after_front (filter test order) ys i place.0 (record { at = stands.0; after = later; is = stands.1 })
                | inr sooner ↦
                    absurd
                    (let le : get_or depths place.0 0 ≤ get_or depths p 0 = rises_to depths 1 (filter test order) stands.0 i place.0 p rise sooner stands.1 at in
                    omega (arith, le, ltb-true (get_or depths p 0) (get_or depths place.0 0) deep))
              ]
          | inr behind ↦
              let stands = found_at ys place.0 behind in
              record {
                at = length (filter test order) + stands.0;
                after = omega (arith, low_at (filter test order) i p at);
                is = slice_get-behind (filter test order) ys (length (filter test order) + stands.0) (omega arith) ∙ (ap (slice_get ys) (let e : length (filter test order) + stands.0 - length (filter test order) ≡ stands.0 = omega arith in e) ∙ stands.1);
              }
        ]

    all : (edges : List PlanEdge) → holds_of_edges (is_in met) edges ≡ true →
        all_deeper depths (get_or depths p 0) edges ≡ true → AllLater (filter test order ++ ys) i edges
    all [] known deep = tt
    all (e ∷ edges) known deep =
        let knowns = and_parts (holds_behind (is_in met) e.next) (holds_of_edges (is_in met) edges) known in
        let deeps = and_parts (is_deeper depths (get_or depths p 0) e.next) (all_deeper depths (get_or depths p 0) edges) deep in
        (one e.next knowns.0 deeps.0, all edges knowns.1 deeps.1)
