-- The words of a set are given back by its numbers.
use Rattle.std.proofs.Common.{◌≡◌, ◌≢◌, ℕ, zero, suc, ◌+◌, ◌*◌, ◌/◌, ◌%◌, ◌^◌, ◌<◌, ◌≤◌, ◌==◌, ◌&&◌, ◌||◌, Bool, true, false, cond, List, [], ◌∷◌, ◌++◌, length, refl, sym, ◌∙◌, ap, subst, inl, inr, arith, get_or, nat_eq, nat_lt, filter, slice_set, bit_or, w64}
use Rattle.std.specs.Prelude.{replicate}
use Rattle.std.proofs.lemmas.Bool.Decides.{nat_tests, eqb_tells}
use Rattle.std.proofs.lemmas.List.Folds.{list_any-append}
use Rattle.std.proofs.lemmas.List.Elements.{filter-append, All-set, All-get_or}
use Rattle.std.proofs.lemmas.List.{length-set, get_or-set_same, get_or-set_other, get_or-replicate, ext_get_or}
use Rattle.std.proofs.lemmas.Nat.{or_lt}
use Rattle.std.proofs.lemmas.Nat.Bits.{bit_at_set_same, bit_at_set_other, bit_at-zero, bit_at-lt, same_from_bits_below}
use Rattle.std.specs.Int.{bit_at}
use Rattle.listener_set.specs.Numbers.{numbers_below, is_in, AreBelow}
use Rattle.listener_set.specs.NumberWords.{has_bit, numbers_of, with_bit, words_of, AreWords}

-- ---- the numbers below n that pass a test
one_more : (a b : Bool) (n q : ℕ) → (n ≡ q → b ≡ a) → ((a && nat_lt q n) || is_in (cond b (n ∷ []) []) q) ≡ (a && nat_lt q (suc n))
one_more a true n q h = grind (arith, nat_tests)
one_more a false n q h = grind (arith, nat_tests)

pub is_in-filter_below : (p : ℕ → Bool) (n q : ℕ) → is_in (filter p (numbers_below n)) q ≡ (p q && nat_lt q n)
is_in-filter_below p zero q = grind (arith, nat_tests)
is_in-filter_below p (suc n) q =
    ap (λ ns. is_in ns q) (filter-append p (numbers_below n) (n ∷ []))
    ∙ list_any-append (λ y. nat_eq y q) (filter p (numbers_below n)) (filter p (n ∷ []))
    ∙ ap (λ b. b || is_in (filter p (n ∷ [])) q) (is_in-filter_below p n q)
    ∙ one_more (p q) (p n) n q (λ e. ap p e)

pub AreBelow-append : (limit : ℕ) (xs ys : List ℕ) → AreBelow limit xs → AreBelow limit ys → AreBelow limit (xs ++ ys)
AreBelow-append limit [] ys a b = b
AreBelow-append limit (x ∷ xs) ys a b = (a.0, AreBelow-append limit xs ys a.1 b)

pub AreBelow-filter_below : (p : ℕ → Bool) (limit n : ℕ) → n ≤ limit → AreBelow limit (filter p (numbers_below n))
AreBelow-filter_below p limit zero le = tt
AreBelow-filter_below p limit (suc n) le =
    subst (AreBelow limit) (sym (filter-append p (numbers_below n) (n ∷ []))) (AreBelow-append limit _ _ (AreBelow-filter_below p limit n (omega (arith, le))) (at (p n)))
  where
    at : (b : Bool) → AreBelow limit (cond b (n ∷ []) [])
    at true = (omega (arith, le), tt)
    at false = tt

-- ---- one word written
pub has_bit-set : (words : List ℕ) (i w q : ℕ) → i < length words → has_bit (slice_set words i w) q ≡ cond (nat_eq (q / 64) i) (bit_at w (q % 64) == 1) (has_bit words q)
has_bit-set words i w q within =
    elim (eqb_tells (q / 64) i) [
      | inl e ↦ rw (e.0, e.1, get_or-set_same words i w 0 within) refl
      | inr e ↦ rw (e.0, get_or-set_other words i (q / 64) w 0 e.1) refl
    ]

bit_set : (w n q : ℕ) (old : Bool) → q / 64 ≡ n / 64 → old ≡ (bit_at w (q % 64) == 1) → (bit_at (bit_or w (1 * 2 ^ (n % 64) % 2 ^ 64)) (q % 64) == 1) ≡ (nat_eq q n || old)
bit_set w n q old e h =
    elim (eqb_tells (q % 64) (n % 64)) [
      | inl s ↦ rw (s.1, bit_at_set_same w64 w (n % 64) (omega arith)) (let same : q ≡ n = omega (arith, s.1) in grind (arith, nat_tests))
      | inr s ↦ rw (bit_at_set_other w64 w (n % 64) (omega arith) (q % 64) s.1) (let other : q ≢ n = (λ same. s.1 (ap (λ x. x % 64) same)) in grind (arith, nat_tests))
    ]

pub has_bit-with_bit : (words : List ℕ) (n q : ℕ) → n / 64 < length words → has_bit (with_bit words n) q ≡ (nat_eq q n || has_bit words q)
has_bit-with_bit words n q within =
    has_bit-set words (n / 64) _ q within
    ∙ elim (eqb_tells (q / 64) (n / 64)) [
      | inl e ↦ rw e.0 (bit_set (get_or words (n / 64) 0) n q (has_bit words q) e.1 (ap (λ i. bit_at (get_or words i 0) (q % 64) == 1) e.1))
      | inr e ↦ rw e.0 (let other : q ≢ n = (λ same. e.1 (ap (λ x. x / 64) same)) in grind (arith, nat_tests))
    ]

pub AreWords-set : (words : List ℕ) (i w : ℕ) → AreWords words → w < 2 ^ 64 → AreWords (slice_set words i w)
AreWords-set words i w h lt = record { count = length-set words i w ∙ h.count; fit = All-set (λ v. v < 2 ^ 64) words i w lt h.fit }

pub word_fits : (words : List ℕ) (i : ℕ) → AreWords words → i < 16 → get_or words i 0 < 2 ^ 64
word_fits words i h lt = All-get_or (λ w. w < 2 ^ 64) words i 0 (omega (arith, h.count)) h.fit

pub AreWords-with_bit : (words : List ℕ) (n : ℕ) → n < 1024 → AreWords words → AreWords (with_bit words n)
AreWords-with_bit words n lt h =
    let small : 1 * 2 ^ (n % 64) % 2 ^ 64 < 2 ^ 64 = omega arith in
    AreWords-set words (n / 64) _ h (or_lt 64 (get_or words (n / 64) 0) (1 * 2 ^ (n % 64) % 2 ^ 64) (word_fits words (n / 64) h (omega arith)) small)

-- ---- no bit set
get_or-zeros : (n i z : ℕ) → z ≡ 0 → get_or (replicate n z) i z ≡ z
get_or-zeros zero i z e = refl
get_or-zeros (suc n) zero z e = refl
get_or-zeros (suc n) (suc i) z e = get_or-zeros n i z e

pub has_bit-zeros : (q : ℕ) → has_bit (replicate 16 0) q ≡ false
has_bit-zeros q = ap (λ w. bit_at w (q % 64) == 1) (get_or-zeros 16 (q / 64) 0 refl) ∙ ap (λ b. b == 1) (bit_at-zero (q % 64))

pub AreWords-zeros : (z : ℕ) → z ≡ 0 → AreWords (replicate 16 z)
AreWords-zeros z e = record { count = refl; fit = λ k d lt. let at : get_or (replicate 16 z) k d ≡ z = get_or-replicate 16 k z d lt in omega (arith, at) }

-- ---- from the numbers back to the words
AreWords-words_of : (ns : List ℕ) → AreBelow 1024 ns → AreWords (words_of ns)
unfolding words_of
AreWords-words_of [] below = AreWords-zeros 0 refl
AreWords-words_of (n ∷ ns) below = AreWords-with_bit (words_of ns) n below.0 (AreWords-words_of ns below.1)

turned : (a b : ℕ) → nat_eq a b ≡ nat_eq b a
turned a b = grind (arith, nat_tests)

has_bit-words_of : (ns : List ℕ) → AreBelow 1024 ns → (q : ℕ) → has_bit (words_of ns) q ≡ is_in ns q
unfolding words_of
has_bit-words_of [] below q = has_bit-zeros q
has_bit-words_of (n ∷ ns) below q =
    let sixteen = (AreWords-words_of ns below.1).count in
    has_bit-with_bit (words_of ns) n q (omega (arith, sixteen, below.0))
    ∙ ap (λ b. b || has_bit (words_of ns) q) (turned q n)
    ∙ ap (λ b. nat_eq n q || b) (has_bit-words_of ns below.1 q)

within_limit : (b : Bool) (q : ℕ) → q < 1024 → (b && nat_lt q 1024) ≡ b
within_limit true q h = grind (arith, nat_tests)
within_limit false q h = refl

pub AreBelow-numbers_of : (words : List ℕ) → AreBelow 1024 (numbers_of words)
unfolding numbers_of
AreBelow-numbers_of words = AreBelow-filter_below (has_bit words) 1024 1024 (omega arith)

pub is_in-numbers_of : (words : List ℕ) (q : ℕ) → q < 1024 → is_in (numbers_of words) q ≡ has_bit words q
unfolding numbers_of
is_in-numbers_of words q lt = is_in-filter_below (has_bit words) 1024 q ∙ within_limit (has_bit words q) q lt

same_bit : (a b : ℕ) → a < 2 → b < 2 → (a == 1) ≡ (b == 1) → a ≡ b
same_bit a b h k e = grind (arith, nat_tests)

pub words_again : (words : List ℕ) → AreWords words → words_of (numbers_of words) ≡ words
words_again words h =
    let again = words_of (numbers_of words) in
    let are = AreWords-words_of (numbers_of words) (AreBelow-numbers_of words) in
    ext_get_or 0 again words (are.count ∙ sym h.count) (λ i lt.
    let small : i < 16 = omega (arith, lt, are.count) in
    same_from_bits_below 64 (get_or again i 0) (get_or words i 0) (word_fits again i are small) (word_fits words i h small) (λ j within.
    let q : ℕ = 64 * i + j in
    let word : q / 64 ≡ i = omega (arith, within) in
    let bit : q % 64 ≡ j = omega (arith, within) in
    let same : has_bit again q ≡ has_bit words q =
    has_bit-words_of (numbers_of words) (AreBelow-numbers_of words) q ∙ is_in-numbers_of words q (omega (arith, small, within)) in
    let there : (us : List ℕ) → has_bit us q ≡ (bit_at (get_or us i 0) j == 1) =
    λ us. ap (λ x. bit_at (get_or us x 0) (q % 64) == 1) word ∙ ap (λ x. bit_at (get_or us i 0) x == 1) bit in
    same_bit _ _ (bit_at-lt (get_or again i 0) j) (bit_at-lt (get_or words i 0) j) (sym (there again) ∙ same ∙ there words)))
