-- Lists of numbers: filters, counts and ranges.
use Rattle.std.proofs.Common.{◌≡◌, ℕ, zero, suc, ◌+◌, ◌≤◌, ◌&&◌, Bool, true, false, cond, filter, List, [], ◌∷◌, ◌++◌}
use Rattle.std.proofs.Common.{length, take, drop, reverse, refl, sym, ◌∙◌, ap, arith, length-append}
use Rattle.std.specs.List.{count_by, range_with_len}
use Rattle.std.proofs.lemmas.List.{reverse-append}
use Rattle.std.proofs.lemmas.List.Elements.{filter-append}
use Rattle.std.proofs.lemmas.List.Sums.{length-filter}
use Rattle.listener_set.specs.Numbers.{numbers_below}
use Rattle.listener_set.proofs.NumberSets.{filter-filter}

---- Filters

and-turned : (a b : Bool) → (a && b) ≡ (b && a)
and-turned true true = refl
and-turned true false = refl
and-turned false true = refl
and-turned false false = refl

pub filters-turned : (p q : ℕ → Bool) (xs : List ℕ) → filter p (filter q xs) ≡ filter q (filter p xs)
filters-turned p q xs =
    filter-filter p q xs ∙ ((λ i. filter (λ x. and-turned (q x) (p x) i) xs) ∙ sym (filter-filter q p xs))

pub filter-reverse : (p : ℕ → Bool) (xs : List ℕ) → filter p (reverse xs) ≡ reverse (filter p xs)
filter-reverse p [] = refl
filter-reverse p (x ∷ xs) =
    ap (filter p) (reverse-append (x ∷ []) xs)
    ∙ (filter-append p (reverse xs) (x ∷ [])
    ∙ (ap (λ ys. ys ++ filter p (x ∷ [])) (filter-reverse p xs)
    ∙ one (p x)))
  where
    one : (b : Bool) → reverse (filter p xs) ++ cond b (x ∷ []) [] ≡ reverse (cond b (x ∷ filter p xs) (filter p xs))
    one true = sym (reverse-append (x ∷ []) (filter p xs))
    one false = no_more (reverse (filter p xs))
      where
        no_more : (ys : List ℕ) → ys ++ [] ≡ ys
        no_more [] = refl
        no_more (y ∷ ys) = ap (λ zs. y ∷ zs) (no_more ys)

pub filter-few : (p : ℕ → Bool) (xs : List ℕ) → length (filter p xs) ≤ length xs
filter-few p [] = omega arith
filter-few p (x ∷ xs) = one (p x) (filter-few p xs)
  where
    one : (b : Bool) → length (filter p xs) ≤ length xs →
        length (cond b (x ∷ filter p xs) (filter p xs)) ≤ suc (length xs)
    one true h = omega arith
    one false h = omega arith

---- Counts

pub count-append : (p : ℕ → Bool) (xs ys : List ℕ) → count_by p (xs ++ ys) ≡ count_by p xs + count_by p ys
count-append p xs ys =
    omega (
      arith,
      length-filter p (xs ++ ys),
      ap length (filter-append p xs ys),
      length-append (filter p xs) (filter p ys),
      length-filter p xs,
      length-filter p ys,
    )

pub count-one : (p : ℕ → Bool) (x : ℕ) → count_by p (x ∷ []) ≡ cond (p x) 1 0
count-one p x = sym (length-filter p (x ∷ [])) ∙ one (p x)
  where
    one : (b : Bool) → length (cond b (x ∷ []) []) ≡ cond b 1 0
    one true = refl
    one false = refl

pub count-reverse : (p : ℕ → Bool) (xs : List ℕ) → count_by p (reverse xs) ≡ count_by p xs
count-reverse p [] = refl
count-reverse p (x ∷ xs) =
    omega (
      arith,
      ap (count_by p) (reverse-append (x ∷ []) xs),
      count-append p (reverse xs) (x ∷ []),
      count-reverse p xs,
      count-append p (x ∷ []) xs,
    )

-- fewer of fewer
pub count-fewer : (p q : ℕ → Bool) (xs : List ℕ) → count_by p (filter q xs) ≤ count_by p xs
count-fewer p q xs =
    omega (
      arith,
      length-filter p (filter q xs),
      ap length (filters-turned p q xs),
      filter-few q (filter p xs),
      length-filter p xs,
    )

---- Ranges

range-more : (a n j : ℕ) → a + n ≡ j → range_with_len a (suc n) ≡ range_with_len a n ++ j ∷ []
range-more a zero j e = ap (λ k. k ∷ []) (let same : a ≡ j = omega (arith, e) in same)
range-more a (suc n) j e = ap (λ ks. a ∷ ks) (range-more (a + 1) n j (omega (arith, e)))

pub below-range : (n : ℕ) → numbers_below n ≡ range_with_len 0 n
below-range zero = refl
below-range (suc n) = ap (λ ks. ks ++ n ∷ []) (below-range n) ∙ sym (range-more 0 n n (omega arith))

pub take-range : (a n c : ℕ) → n ≤ c → take n (range_with_len a c) ≡ range_with_len a n
take-range a zero c le = refl
take-range a (suc n) zero le = absurd (omega (arith, le))
take-range a (suc n) (suc c) le = ap (λ ks. a ∷ ks) (take-range (a + 1) n c (omega (arith, le)))

pub drop-range : (a n c d j : ℕ) → c ≡ n + d → j ≡ a + n → drop n (range_with_len a c) ≡ range_with_len j d
drop-range a zero c d j e f =
    ap (range_with_len a) (let k : c ≡ d = omega (arith, e) in k) ∙
    ap (λ x. range_with_len x d) (let k : a ≡ j = omega (arith, f) in k)
drop-range a (suc n) zero d j e f = absurd (omega (arith, e))
drop-range a (suc n) (suc c) d j e f = drop-range (a + 1) n c d j (omega (arith, e)) (omega (arith, f))

pub range-append : (a n m j c : ℕ) → j ≡ a + n → c ≡ n + m → range_with_len a n ++ range_with_len j m ≡
    range_with_len a c
range-append a zero m j c e f =
    ap (λ x. range_with_len x m) (let k : j ≡ a = omega (arith, e) in k) ∙
    ap (range_with_len a) (let k : m ≡ c = omega (arith, f) in k)
range-append a (suc n) m j zero e f = absurd (omega (arith, f))
range-append a (suc n) m j (suc c) e f = ap (λ ks. a ∷ ks)
    (range-append (a + 1) n m j c (omega (arith, e)) (omega (arith, f)))
