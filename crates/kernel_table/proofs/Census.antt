-- The numbers of the Ready workers, row by row.
use Rattle.std.proofs.Common.{◌≡◌, ℕ, suc, zero, ◌+◌, ◌<◌, ◌≤◌, Bool, true, false, cond, ◌&&◌, ◌||◌, nat_eq, nat_lt}
use Rattle.std.proofs.Common.{List, [], ◌∷◌, ◌++◌, filter, Option, Some, None, refl, sym, ap, subst, ◌∙◌, arith}
use Rattle.std.specs.Prelude.{IfSome}
use Rattle.std.specs.List.{list_any}
use Rattle.std.proofs.lemmas.Bool.{false≢true}
use Rattle.std.proofs.lemmas.Bool.Decides.{nat_tests}
use Rattle.listener_set.specs.Numbers.{numbers_below, is_in, with_number, RisesFrom, IsRising, AreBelow}
use Rattle.listener_set.specs.NumberWordsLemmas.{is_in-filter_below}
use Rattle.listener_set.proofs.Rising.{same_rising, is_in-with_number, RisesFrom-push}
use Rattle.definitions.specs.Table.{Address, Generation, Process, is_worker}
use Rattle.call_laws.specs.Pieces.{is_ready}
use Rattle.definitions.specs.Calls.{census_of}
use Rattle.kernel_rows.specs.declared.process.Holder.{Holder}
use Rattle.kernel_rows.specs.Seen.{is_number, seen_holder, seen_rows}
use Rattle.kernel_rows.proofs.Passing.{any-more}

-- ---- one row more
module _ (addresses : List Address) (q : ℕ) (g : Generation) (k : ℕ) (rows : List Holder) (h : Holder) where
  ready-more : list_any (is_worker is_ready q g k) (seen_rows addresses (rows ++ h ∷ []))
      ≡ (list_any (is_worker is_ready q g k) (seen_rows addresses rows)
      || is_worker is_ready q g k (seen_holder addresses h))
  ready-more = any-more (is_worker is_ready q g k) addresses rows h

  module _ (numbers : List ℕ) (before : is_in numbers k ≡ (list_any (is_worker is_ready q g k) (seen_rows addresses rows) && nat_lt k 1024)) where
    pub one-more : (nr : ℕ) → nr < 1024 → is_worker is_ready q g k (seen_holder addresses h) ≡ nat_eq nr k →
        is_in (with_number numbers nr) k
        ≡ (list_any (is_worker is_ready q g k) (seen_rows addresses (rows ++ h ∷ [])) && nat_lt k 1024)
    one-more nr small here =
        is_in-with_number numbers nr k ∙ ap (λ b. nat_eq nr k || b) before
        ∙ at (list_any (is_worker is_ready q g k) (seen_rows addresses rows)) (nat_eq nr k) (nat_lt k 1024) (λ e. grind (arith, nat_tests))
        ∙ sym (ap (λ b. b && nat_lt k 1024) (ready-more ∙ ap (λ b. list_any (is_worker is_ready q g k) (seen_rows addresses rows) || b) here))
      where
        at : (any same low : Bool) → (same ≡ true → low ≡ true) → (same || (any && low)) ≡ ((any || same) && low)
        at true true low h = sym (h refl)
        at true false low h = refl
        at false true low h = sym (h refl)
        at false false low h = refl

    pub none-more : (nr : Option ℕ) → is_worker is_ready q g k (seen_holder addresses h) ≡ is_number nr k →
        IfSome nr (λ n. 1024 ≤ n) →
        is_in numbers k ≡ (list_any (is_worker is_ready q g k) (seen_rows addresses (rows ++ h ∷ [])) && nat_lt k 1024)
    none-more nr here high =
        before ∙ at (list_any (is_worker is_ready q g k) (seen_rows addresses rows)) (is_number nr k) (nat_lt k 1024) (apart nr high)
        ∙ sym (ap (λ b. b && nat_lt k 1024) (ready-more ∙ ap (λ b. list_any (is_worker is_ready q g k) (seen_rows addresses rows) || b) here))
      where
        apart : (n : Option ℕ) → IfSome n (λ m. 1024 ≤ m) → is_number n k ≡ true → nat_lt k 1024 ≡ false
        apart None h e = absurd (false≢true e)
        apart (Some m) h e = grind (arith, nat_tests)

        at : (any same low : Bool) → (same ≡ true → low ≡ false) → (any && low) ≡ ((any || same) && low)
        at true same low h = refl
        at false true low h = sym (h refl)
        at false false low h = refl

-- ---- all rows
AreBelow-push : (xs : List ℕ) (n : ℕ) → AreBelow n xs → AreBelow (n + 1) (xs ++ n ∷ [])
AreBelow-push [] n h = (omega arith, tt)
AreBelow-push (x ∷ xs) n h = (omega (arith, h.0), lift xs h.1)
  where
    lift : (ys : List ℕ) → AreBelow n ys → AreBelow (n + 1) (ys ++ n ∷ [])
    lift [] b = (omega arith, tt)
    lift (y ∷ ys) b = (omega (arith, b.0), lift ys b.1)

below-below : (n : ℕ) → AreBelow n (numbers_below n)
below-below zero = tt
below-below (suc n) = let e : n + 1 ≡ suc n = omega arith in subst (λ m. AreBelow m (numbers_below n ++ n ∷ [])) e (AreBelow-push (numbers_below n) n (below-below n))

rising-below : (n : ℕ) → RisesFrom 0 (numbers_below n)
rising-below zero = tt
rising-below (suc n) = RisesFrom-push (numbers_below n) n 0 (omega arith) (below-below n) (rising-below n)

rising-lower : (xs : List ℕ) (a b : ℕ) → a ≤ b → RisesFrom b xs → RisesFrom a xs
rising-lower [] a b le h = tt
rising-lower (x ∷ xs) a b le h = (omega (arith, h.0), h.1)

pub RisesFrom-filter : (p : ℕ → Bool) (xs : List ℕ) (b : ℕ) → RisesFrom b xs → RisesFrom b (filter p xs)
RisesFrom-filter p [] b h = tt
RisesFrom-filter p (x ∷ xs) b h = at (p x) (RisesFrom-filter p xs (x + 1) h.1)
  where
    at : (c : Bool) → RisesFrom (x + 1) (filter p xs) → RisesFrom b (cond c (x ∷ filter p xs) (filter p xs))
    at true ih = (h.0, ih)
    at false ih = rising-lower (filter p xs) b (x + 1) (omega (arith, h.0)) ih

-- the numbers below n that a Ready worker of the caller bears in the generation
abbrev census_below : ℕ → ℕ → Generation → List Process → List ℕ
census_below n caller g rows = filter (λ k. list_any (is_worker is_ready caller g k) rows) (numbers_below n)

rising-census : (n q : ℕ) (g : Generation) (rows : List Process) → RisesFrom 0 (census_below n q g rows)
rising-census n q g rows = RisesFrom-filter (λ k. list_any (is_worker is_ready q g k) rows) (numbers_below n) 0 (rising-below n)

below-is : (n q : ℕ) (g : Generation) (rows : List Process) (numbers : List ℕ) → IsRising numbers →
    ((k : ℕ) → is_in numbers k ≡ (list_any (is_worker is_ready q g k) rows && nat_lt k n)) →
    numbers ≡ census_below n q g rows
below-is n q g rows numbers rising same =
    same_rising numbers (census_below n q g rows) 0 rising (rising-census n q g rows)
    (λ k. same k ∙ sym (is_in-filter_below (λ j. list_any (is_worker is_ready q g j) rows) n k))

-- the numbers of all rows are the census
pub census-is : (q : ℕ) (g : Generation) (rows : List Process) (numbers : List ℕ) → IsRising numbers →
    ((k : ℕ) → is_in numbers k ≡ (list_any (is_worker is_ready q g k) rows && nat_lt k 1024)) →
    numbers ≡ census_of q g rows
unfolding census_of
census-is q g rows numbers rising same = below-is 1024 q g rows numbers rising same
