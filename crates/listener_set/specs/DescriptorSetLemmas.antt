-- The word of a set is given back by its descriptors.
use Rattle.std.proofs.Common.{◌≡◌, ◌≢◌, ℕ, zero, suc, ◌+◌, ◌-◌, ◌*◌, ◌%◌, ◌^◌, ◌<◌, ◌≤◌, ◌==◌, ◌&&◌, ◌||◌, Bool, true, false, cond, List, [], ◌∷◌, ◌++◌, refl, sym, ◌∙◌, ap, subst, inl, inr, arith, nat_eq, nat_le, nat_lt, filter, w64}
use Rattle.std.proofs.lemmas.Bool.{cases_lt, true≢false}
use Rattle.std.proofs.lemmas.Bool.Decides.{nat_tests, eqb_tells}
use Rattle.std.proofs.lemmas.List.Elements.{filter-append}
use Rattle.std.proofs.lemmas.Nat.{or_lt}
use Rattle.std.proofs.lemmas.Nat.Bits.{bit_at_set_same, bit_at_set_other, bit_at-zero, bit_at-lt, same_from_bits_below}
use Rattle.std.specs.Int.{bit_at}
use Rattle.listener_set.specs.Numbers.{numbers_below, is_in}
use Rattle.listener_set.specs.NumberWordsLemmas.{is_in-filter_below}
use Rattle.listener_set.specs.Descriptors.{IsDescriptor}
use Rattle.listener_set.specs.DescriptorSets.{is_bit, descriptors_in, with_descriptor, word_of}

-- ---- one bit
low_bit : (word q : ℕ) → q < 3 → is_bit word q ≡ false
low_bit word q lt = let low : nat_le 3 q ≡ false = grind (arith, nat_tests) in rw low refl

pub high_bit : (word q : ℕ) → 3 ≤ q → is_bit word q ≡ (bit_at word (q - 3) == 1)
high_bit word q from = let high : nat_le 3 q ≡ true = grind (arith, nat_tests) in rw high refl

pub is_bit-with_descriptor : (word fd q : ℕ) → 3 ≤ fd → fd < 67 → is_bit (with_descriptor word fd) q ≡ (nat_eq fd q || is_bit word q)
is_bit-with_descriptor word fd q from below = elim (cases_lt q 3) [
  | inl low ↦ (let other : nat_eq fd q ≡ false = grind (arith, nat_tests) in low_bit _ q low ∙ rw other (sym (low_bit word q low)))
  | inr high ↦ elim (eqb_tells (q - 3) (fd - 3)) [
    | inl e ↦
        let same : nat_eq fd q ≡ true = (let is : q - 3 ≡ fd - 3 = e.1 in grind (arith, nat_tests)) in
        high_bit _ q high ∙ rw (e.1, bit_at_set_same w64 word (fd - 3) (omega arith), same) refl
    | inr e ↦
        let apart : q ≢ fd = (λ is. e.1 (ap (λ x. x - 3) is)) in
        let other : nat_eq fd q ≡ false = grind (arith, nat_tests) in
        high_bit _ q high ∙ rw (bit_at_set_other w64 word (fd - 3) (omega arith) (q - 3) e.1, other) (sym (high_bit word q high))
  ]
]

pub with_descriptor-fits : (word fd : ℕ) → word < 2 ^ 64 → with_descriptor word fd < 2 ^ 64
with_descriptor-fits word fd fits = or_lt 64 word (1 * 2 ^ (fd - 3) % 2 ^ 64) fits (omega arith)

-- ---- from the descriptors back to the word
word_of-fits : (fds : List ℕ) → word_of fds < 2 ^ 64
unfolding word_of
word_of-fits [] = omega arith
word_of-fits (fd ∷ fds) = with_descriptor-fits (word_of fds) fd (word_of-fits fds)

pub is_bit-zero : (q : ℕ) → is_bit 0 q ≡ false
is_bit-zero q = elim (cases_lt q 3) [
  | inl low ↦ low_bit 0 q low
  | inr high ↦ high_bit 0 q high ∙ ap (λ b. b == 1) (bit_at-zero (q - 3))
]

-- each is a descriptor
abbrev pub AreAllDescriptors : List ℕ → Type 0
AreAllDescriptors [] = Unit {0}
AreAllDescriptors (fd ∷ fds) = IsDescriptor fd × AreAllDescriptors fds

is_bit-word_of : (fds : List ℕ) → AreAllDescriptors fds → (q : ℕ) → is_bit (word_of fds) q ≡ is_in fds q
unfolding word_of
is_bit-word_of [] all q = is_bit-zero q
is_bit-word_of (fd ∷ fds) all q =
    is_bit-with_descriptor (word_of fds) fd q all.0.0 all.0.1 ∙ ap (λ b. nat_eq fd q || b) (is_bit-word_of fds all.1 q)

-- ---- what is in the set of a word
within_limit : (b : Bool) (q : ℕ) → q < 67 → (b && nat_lt q 67) ≡ b
within_limit true q h = grind (arith, nat_tests)
within_limit false q h = refl

pub is_in-descriptors_in : (word q : ℕ) → q < 67 → is_in (descriptors_in word) q ≡ is_bit word q
unfolding descriptors_in
is_in-descriptors_in word q lt = is_in-filter_below (is_bit word) 67 q ∙ within_limit (is_bit word q) q lt

pub all-append : (xs ys : List ℕ) → AreAllDescriptors xs → AreAllDescriptors ys → AreAllDescriptors (xs ++ ys)
all-append [] ys a b = b
all-append (x ∷ xs) ys a b = (a.0, all-append xs ys a.1 b)

all_below : (word n : ℕ) → n ≤ 67 → AreAllDescriptors (filter (is_bit word) (numbers_below n))
all_below word zero le = tt
all_below word (suc n) le =
    subst AreAllDescriptors (sym (filter-append (is_bit word) (numbers_below n) (n ∷ [])))
    (all-append _ _ (all_below word n (omega (arith, le))) (at (is_bit word n) refl))
  where
    at : (b : Bool) → is_bit word n ≡ b → AreAllDescriptors (cond b (n ∷ []) [])
    at true e = elim (cases_lt n 3) [
      | inl low ↦ absurd (true≢false (sym e ∙ low_bit word n low))
      | inr high ↦ ((high, omega (arith, le)), tt)
    ]
    at false e = tt

pub all_descriptors : (word : ℕ) → AreAllDescriptors (descriptors_in word)
unfolding descriptors_in
all_descriptors word = all_below word 67 (omega arith)

same_bit : (a b : ℕ) → a < 2 → b < 2 → (a == 1) ≡ (b == 1) → a ≡ b
same_bit a b h k e = grind (arith, nat_tests)

pub word_again : (word : ℕ) → word < 2 ^ 64 → word_of (descriptors_in word) ≡ word
word_again word fits =
    let again = word_of (descriptors_in word) in
    same_from_bits_below 64 again word (word_of-fits (descriptors_in word)) fits (λ j within.
    let q : ℕ = 3 + j in
    let bit : q - 3 ≡ j = omega arith in
    let same : is_bit again q ≡ is_bit word q =
    is_bit-word_of (descriptors_in word) (all_descriptors word) q ∙ is_in-descriptors_in word q (omega (arith, within)) in
    let there : (w : ℕ) → is_bit w q ≡ (bit_at w j == 1) = λ w. high_bit w q (omega arith) ∙ ap (λ i. bit_at w i == 1) bit in
    same_bit _ _ (bit_at-lt again j) (bit_at-lt word j) (sym (there again) ∙ same ∙ there word))
