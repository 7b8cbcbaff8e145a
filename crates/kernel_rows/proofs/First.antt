-- The first that passes a test changes.
use Rattle.std.proofs.Common.{◌≡◌, ℕ, suc, zero, ◌<◌, ◌≤◌, Bool, true, false, cond, nat_lt, List, [], ◌∷◌, map, length}
use Rattle.std.proofs.Common.{get_or, set, Some, None, refl, ap, arith}
use Rattle.std.specs.Prelude.{position}
use Rattle.std.specs.List.{position_or_len}
use Rattle.std.proofs.lemmas.Bool.Decides.{nat_tests}
use Rattle.std.proofs.lemmas.List.Quantifiers.{position-Some}
use Rattle.std.proofs.lemmas.List.Sums.{fails_before_first}
use Rattle.definitions.specs.Table.{Process}
use Rattle.definitions.specs.Calls.{first_changed}

pub past : (i n : ℕ) → cond (nat_lt i n) (Some i) None ≡ None → n ≤ i
past i n e = let no : nat_lt i n ≡ false = passed (nat_lt i n) e in grind (arith, nat_tests)
  where
    passed : (b : Bool) → cond b (Some i) None ≡ None → b ≡ false
    passed true e = cc
    passed false e = refl

module _ {X : Type 0} (v : X → Process) (test : Process → Bool) (f : Process → Process) where
  changed-at : (xs : List X) (i : ℕ) (d y : X) → i < length xs → ((k : ℕ) → k < i → test (v (get_or xs k d)) ≡ false) →
      test (v (get_or xs i d)) ≡ true → v y ≡ f (v (get_or xs i d)) →
      map v (set xs i y) ≡ first_changed test f (map v xs)
  changed-at [] i d y lt before here e = absurd (omega arith)
  changed-at (x ∷ xs) zero d y lt before here e = rw here (ap (λ p. p ∷ map v xs) e)
  changed-at (x ∷ xs) (suc i) d y lt before here e =
      let passed = before zero (omega arith) in
      rw passed (ap (λ ps. v x ∷ ps) (changed-at xs i d y (omega arith) (λ k less. before (suc k) (omega arith)) here e))

  unchanged : (xs : List X) (d : X) → ((k : ℕ) → k < length xs → test (v (get_or xs k d)) ≡ false) → map v xs ≡ first_changed test f (map v xs)
  unchanged [] d none = refl
  unchanged (x ∷ xs) d none =
      let passed = none zero (omega arith) in
      rw passed (ap (λ ps. v x ∷ ps) (unchanged xs d (λ k less. none (suc k) (omega arith))))

  pub first_changed-Some : (xs : List X) (i : ℕ) (d y : X) → position (λ x. test (v x)) xs ≡ Some i →
      v y ≡ f (v (get_or xs i d)) → map v (set xs i y) ≡ first_changed test f (map v xs)
  first_changed-Some xs i d y at e = let found = position-Some (λ x. test (v x)) xs i d at in changed-at xs i d y found.0 found.2 found.1 e

  pub first_changed-None : (xs : List X) (d : X) → position (λ x. test (v x)) xs ≡ None → map v xs ≡ first_changed test f (map v xs)
  first_changed-None xs d none =
      let all = past (position_or_len (λ x. test (v x)) xs) (length xs) none in
      unchanged xs d (λ k less. fails_before_first (λ x. test (v x)) xs k d (omega arith))
