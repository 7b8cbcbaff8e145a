-- Sets of numbers, as plans use them.
use Rattle.std.proofs.Common.{◌≡◌, ℕ, zero, suc, ◌+◌, ◌<◌, ◌≤◌, ◌||◌, ◌&&◌, inl, inr, Bool, true, false, not, cond}
use Rattle.std.proofs.Common.{filter, nat_eq, List, [], ◌∷◌, ◌++◌, length, length-append, reverse, refl, sym, ◌∙◌, ap}
use Rattle.std.proofs.Common.{subst, arith, nat_lt}
use Rattle.std.proofs.lemmas.Bool.{lt-ltb, le-ltb, eq-eqb, ne_eqb, cases_order, cases_eq, cond_both, or_cases, eqb-true}
use Rattle.std.proofs.lemmas.List.Folds.{list_any-append}
use Rattle.std.specs.List.{AllByRecursion}
use Rattle.listener_set.specs.Numbers.{numbers_below, is_in, lacks, RisesFrom, AreBelow, AreNumbers}
use Rattle.definitions.specs.Master.{Crew}
use Rattle.definitions.specs.Plans.{workers_tree, mend_tree}
use Rattle.reload_planner.specs.Changes.{change_tree, repair_tree}

---- Numbers below n

below_is : (n k : ℕ) → is_in (numbers_below n) k ≡ nat_lt k n
below_is zero k = sym (le-ltb k 0 (omega arith))
below_is (suc n) k =
    list_any-append (λ x. nat_eq x k) (numbers_below n) (n ∷ [])
    ∙ (ap (λ b. b || (nat_eq n k || false)) (below_is n k)
    ∙ elim (cases_order k n) [
      | inl same ↦ rw (le-ltb k n (omega (arith, same)), eq-eqb n k (sym same), lt-ltb k (suc n) (omega (arith, same))) refl
      | inr off ↦ elim off [
        | inl low ↦ rw (lt-ltb k n low, lt-ltb k (suc n) (omega (arith, low))) refl
        | inr high ↦ rw (le-ltb k n (omega (arith, high)), ne_eqb n k (λ e. omega (arith, e, high)), le-ltb k (suc n) (omega (arith, high))) refl
      ]
    ])

pub length-below : (n : ℕ) → length (numbers_below n) ≡ n
length-below zero = refl
length-below (suc n) = omega (arith, length-append (numbers_below n) (n ∷ []), length-below n)

---- Tests

filter_same : (p q : ℕ → Bool) (ks : List ℕ) → ((k : ℕ) → is_in ks k ≡ true → p k ≡ q k) → filter p ks ≡ filter q ks
filter_same p q [] h = refl
filter_same p q (k ∷ ks) h =
    ap (λ b. cond b (k ∷ filter p ks) (filter p ks)) (h k (ap (λ b. b || is_in ks k) (eq-eqb k k refl)))
    ∙ ap (λ xs. cond (q k) (k ∷ xs) xs) (filter_same p q ks (λ j here. h j (ap (λ b. nat_eq k j || b) here ∙ or_true (nat_eq k j))))
  where
    or_true : (b : Bool) → (b || true) ≡ true
    or_true true = refl
    or_true false = refl

and_false : (b : Bool) → (b && false) ≡ false
and_false true = refl
and_false false = refl

is_in-filter : (p : ℕ → Bool) (ks : List ℕ) (k : ℕ) → is_in (filter p ks) k ≡ (is_in ks k && p k)
is_in-filter p [] k = refl
is_in-filter p (x ∷ ks) k = one (p x) refl (is_in-filter p ks k)
  where
    one : (b : Bool) → p x ≡ b → is_in (filter p ks) k ≡ (is_in ks k && p k) →
        is_in (cond b (x ∷ filter p ks) (filter p ks)) k ≡ ((nat_eq x k || is_in ks k) && p k)
    one true e rest = elim (cases_eq x k) [
      | inl same ↦ rw (eq-eqb x k same) (sym (ap p (sym same) ∙ e))
      | inr other ↦ rw (ne_eqb x k other) rest
    ]
    one false e rest = elim (cases_eq x k) [
      | inl same ↦
          let lost : p k ≡ false = ap p (sym same) ∙ e in
          rest ∙ (ap (λ d. is_in ks k && d) lost ∙ (and_false (is_in ks k) ∙ sym (ap (λ d. (nat_eq x k || is_in ks k) && d) lost ∙ and_false (nat_eq x k || is_in ks k))))
      | inr other ↦ rw (ne_eqb x k other) rest
    ]

pub filter_few : {X : Type 0} (p : X → Bool) (xs : List X) → length (filter p xs) ≤ length xs
filter_few p [] = omega arith
filter_few p (x ∷ xs) = cond_both (p x) (x ∷ filter p xs) (filter p xs) (λ ys. length ys ≤ suc (length xs)) (λ _. omega (arith, filter_few p xs)) (λ _. omega (arith, filter_few p xs))

---- How many

rising_few : (bound n : ℕ) (ks : List ℕ) → RisesFrom bound ks → AreBelow n ks → bound ≤ n → length ks + bound ≤ n
rising_few bound n [] rises below le = omega (arith, le)
rising_few bound n (k ∷ ks) rises below le = let more : length ks + (k + 1) ≤ n = rising_few (k + 1) n ks rises.1 below.1 (omega (arith, below.0)) in omega (arith, more, rises.0)

low_in : (n : ℕ) (ready : List ℕ) (k : ℕ) → AllByRecursion (λ j. j < n) ready → is_in ready k ≡ true → k < n
low_in n [] k all here = cc
low_in n (x ∷ ready) k all here = elim (or_cases (nat_eq x k) (is_in ready k) here) [
  | inl same ↦ omega (arith, all.0, eqb-true x k same)
  | inr there ↦ low_in n ready k all.1 there
]

all_low : (n : ℕ) (p : ℕ → Bool) (ks : List ℕ) → ((k : ℕ) → p k ≡ true → k < n) → AreBelow n (filter p ks)
all_low n p [] h = tt
all_low n p (k ∷ ks) h = cond_both (p k) (k ∷ filter p ks) (filter p ks) (AreBelow n) (λ e. (h k e, all_low n p ks h)) (λ _. all_low n p ks h)

---- A change of workers

-- the numbers of a set that are not below n
lacks_below : (n : ℕ) (ks : List ℕ) → lacks ks (numbers_below n) ≡ filter (λ k. not (nat_lt k n)) ks
lacks_below n ks = filter_same (λ k. not (is_in (numbers_below n) k)) (λ k. not (nat_lt k n)) ks (λ k _. ap not (below_is n k))

-- the change that brings n workers
pub change_is : (by : ℕ) (crew : Crew) (ready : List ℕ) (rounds n : ℕ) (all fresh surplus : List ℕ) →
    all ≡ numbers_below n → fresh ≡ lacks (numbers_below n) ready → surplus ≡ lacks ready (numbers_below n) →
    change_tree by crew ready rounds all fresh (reverse surplus) ≡ workers_tree by crew ready rounds n
change_is by crew ready rounds n all fresh surplus a f s = rw (a, f, s, lacks_below n ready) refl

---- A mending

kept_in : (ready overdue : List ℕ) → lacks overdue (lacks overdue ready) ≡ filter (is_in ready) overdue
kept_in ready overdue =
    filter_same (λ k. not (is_in (lacks overdue ready) k)) (is_in ready) overdue
    (λ k here. ap not (is_in-filter (λ j. not (is_in ready j)) overdue k ∙ ap (λ b. b && not (is_in ready k)) here) ∙ twice (is_in ready k))
  where
    twice : (b : Bool) → not (not b) ≡ b
    twice true = refl
    twice false = refl

lost_in : (n : ℕ) (ready overdue : List ℕ) →
    lacks (numbers_below n) (lacks ready overdue)
    ≡ filter (λ k. not (is_in ready k) || is_in overdue k) (numbers_below n)
lost_in n ready overdue =
    filter_same (λ k. not (is_in (lacks ready overdue) k)) (λ k. not (is_in ready k) || is_in overdue k) (numbers_below n)
    (λ k _. ap not (is_in-filter (λ j. not (is_in overdue j)) ready k) ∙ apart (is_in ready k) (is_in overdue k))
  where
    apart : (a b : Bool) → not (a && not b) ≡ (not a || b)
    apart true true = refl
    apart true false = refl
    apart false b = refl

-- the repair that mends
pub repair_is : (by : ℕ) (crew : Crew) (ready : List ℕ) (rounds : ℕ) (overdue : List ℕ) (n : ℕ)
    (all late fresh : List ℕ) → all ≡ numbers_below n → late ≡ lacks overdue (lacks overdue ready) →
    fresh ≡ lacks (numbers_below n) (lacks ready overdue)
    → repair_tree by crew rounds all late fresh ≡ mend_tree by crew ready rounds overdue n
repair_is by crew ready rounds overdue n all late fresh a l f = rw (a, l, f, kept_in ready overdue, lost_in n ready overdue) refl

-- there are no more of them than wanted numbers
pub late_few : (n : ℕ) (ready overdue late : List ℕ) → AllByRecursion (λ k. k < n) ready → AreNumbers 1024 late →
    late ≡ lacks overdue (lacks overdue ready) → length late ≤ n
late_few n ready overdue late all numbers is =
    omega (arith, rising_few 0 n late numbers.rising (subst (AreBelow n) (sym (is ∙ kept_in ready overdue)) (all_low n (is_in ready) overdue (λ k here. low_in n ready k all here))) (omega arith))

---- Running masters

each_append : (m : ℕ) (ks : List ℕ) (k : ℕ) → AllByRecursion (λ j. j < m) ks → k < m → AllByRecursion (λ j. j < m) (ks ++ k ∷ [])
each_append m [] k all low = (low, tt)
each_append m (x ∷ ks) k all low = (all.0, each_append m ks k all.1 low)

-- the numbers below n are below each number from n on
pub low_below : (n m : ℕ) → n ≤ m → AllByRecursion (λ k. k < m) (numbers_below n)
low_below zero m le = tt
low_below (suc n) m le = each_append m (numbers_below n) n (low_below n m (omega (arith, le))) (omega (arith, le))
