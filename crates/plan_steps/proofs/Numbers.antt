-- Places get numbers.
use Rattle.std.proofs.Common.{◌≡◌, ◌≢◌, inl, inr, ℕ, zero, suc, ◌+◌, ◌-◌, ◌<◌, ◌≤◌, true, List, [], ◌∷◌, ◌++◌, length}
use Rattle.std.proofs.Common.{get_or, set, take, refl, sym, ◌∙◌, ap, subst, arith, Some, slice_get, nat_lt, Bool}
use Rattle.std.proofs.lemmas.Bool.{cases_eq, ltb-true, and_parts}
use Rattle.std.proofs.lemmas.List.{take_more, length-set, get_or-set_same, get_or-set_other}
use Rattle.std.specs.List.{list_all}
use Rattle.listener_set.specs.Numbers.{is_in}
use Rattle.plan_steps.specs.declared.step.Step.{Step}
use Rattle.plan_steps.specs.Numbering.{IsNumbered, AllNumbered, all_within, are_laid}
use Rattle.plan_steps.proofs.Walked.{in_cases, in_one}

-- the first n places in the order have their numbers
pub record AreNumbered (order : List ℕ) (places n : ℕ) (numbers : List ℕ) : Type 0 where
  pub count : length numbers ≡ places
  pub stands : (k : ℕ) → is_in (take n order) k ≡ true → (1 ≤ get_or numbers k 0) × (slice_get order (get_or numbers k 0 - 1) ≡ Some k)

slice_get_at : (xs : List ℕ) (i : ℕ) → i < length xs → slice_get xs i ≡ Some (get_or xs i 0)
slice_get_at [] i h = absurd (omega arith)
slice_get_at (x ∷ xs) zero h = refl
slice_get_at (x ∷ xs) (suc i) h = slice_get_at xs i (omega arith)

pub within_at : (n : ℕ) (places : List ℕ) (i : ℕ) → all_within n places ≡ true → i < length places → get_or places i 0 < n
within_at n [] i h low = absurd (omega arith)
within_at n (x ∷ places) zero h low = ltb-true x n (and_parts (nat_lt x n) (all_within n places) h).0
within_at n (x ∷ places) (suc i) h low = within_at n places i (and_parts (nat_lt x n) (all_within n places) h).1 (omega arith)

-- a test of all steps holds of each
pub all_at : {X : Type 0} (test : X → Bool) (xs : List X) (i : ℕ) (x : X) → list_all test xs ≡ true → slice_get xs i ≡ Some x → test x ≡ true
all_at test [] i x h at = cc
all_at test (y ∷ xs) zero x h at = let is : y ≡ x = cc in subst (λ z. test z ≡ true) is (and_parts (test y) (list_all test xs) h).0
all_at test (y ∷ xs) (suc i) x h at = all_at test xs i x (and_parts (test y) (list_all test xs) h).1 at

pub laid_depth : (depths places : List ℕ) (i : ℕ) → are_laid depths places ≡ true → i < length places → 1 ≤ get_or depths (get_or places i 0) 0
laid_depth depths [] i h low = absurd (omega arith)
laid_depth depths (x ∷ places) zero h low = let positive = ltb-true 0 (get_or depths x 0) (and_parts (nat_lt 0 (get_or depths x 0)) (are_laid depths places) h).0 in omega (arith, positive)
laid_depth depths (x ∷ places) (suc i) h low = laid_depth depths places i (and_parts (nat_lt 0 (get_or depths x 0)) (are_laid depths places) h).1 (omega arith)

-- one number more
pub numbered_more : (order : List ℕ) (places n : ℕ) (numbers : List ℕ) → AreNumbered order places n numbers →
    n < length order → get_or order n 0 < places →
    AreNumbered order places (n + 1) (set numbers (get_or order n 0) (n + 1))
numbered_more order places n numbers h low within =
    record {
      count = length-set numbers (get_or order n 0) (n + 1) ∙ h.count;
      stands = λ k here. elim (cases_eq k (get_or order n 0)) [
        | inl same ↦
            let is : get_or (set numbers (get_or order n 0) (n + 1)) k 0 ≡ n + 1 = ap (λ j. get_or (set numbers (get_or order n 0) (n + 1)) j 0) same ∙ get_or-set_same numbers (get_or order n 0) (n + 1) 0 (omega (arith, h.count)) in
            (omega (arith, is), ap (slice_get order) (let e : get_or (set numbers (get_or order n 0) (n + 1)) k 0 - 1 ≡ n = omega (arith, is) in e) ∙ (slice_get_at order n low ∙ ap Some (sym same)))
        | inr other ↦
            let stays = get_or-set_other numbers (get_or order n 0) k (n + 1) 0 other in
            subst (λ (m : ℕ). (1 ≤ m) × (slice_get order (m - 1) ≡ Some k)) (sym stays) (h.stands k (before k here other))
      ];
    }
  where
    before : (k : ℕ) → is_in (take (n + 1) order) k ≡ true → k ≢ get_or order n 0 → is_in (take n order) k ≡ true
    before k here other = elim (in_cases (take n order) (get_or order n 0 ∷ []) k (subst (λ (xs : List ℕ). is_in xs k ≡ true) (take_more order n 0 low) here)) [
      | inl front ↦ front
      | inr last ↦ absurd (other (sym (in_one (get_or order n 0) k last)))
    ]

-- one step more
pub all_numbered-push : (numbers : List ℕ) (steps : List Step) (order : List ℕ) (plan : List Step) (k : ℕ)
    (s n : Step) → AllNumbered numbers steps order plan → slice_get steps k ≡ Some s → IsNumbered numbers s n →
    AllNumbered numbers steps (order ++ k ∷ []) (plan ++ n ∷ [])
all_numbered-push numbers steps [] plan k s n h at one = subst (λ (ns : List Step). AllNumbered numbers steps (k ∷ []) (ns ++ n ∷ [])) (sym h) (s, at, one, refl)
all_numbered-push numbers steps (x ∷ order) [] k s n h at one = absurd h
all_numbered-push numbers steps (x ∷ order) (m ∷ plan) k s n h at one = (h.0, h.1, h.2, all_numbered-push numbers steps order plan k s n h.3 at one)
