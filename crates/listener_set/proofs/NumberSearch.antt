-- The lowest and the highest number of a set, and how many there are, by the words.
use Rattle.std.proofs.Common.{◌≡◌, ℕ, zero, suc, ◌+◌, ◌-◌, ◌*◌, ◌/◌, ◌%◌, ◌^◌, ◌<◌, ◌≤◌, ◌==◌, Bool, true, false, cond, ◌&&◌, nat_le, List, [], ◌∷◌, ◌++◌, length, filter, Some, None, refl, sym, ◌∙◌, ap, inl, inr, arith, append-nil, get_or}
use Rattle.std.specs.Prelude.{find, count_ones}
use Rattle.std.specs.Option.{option_or}
use Rattle.std.specs.Int.{bit_at}
use lib.Arith.{mod-mul}
use lib.Count.{count_leading_zeros}
use Rattle.std.proofs.Math.Nat.{pow-suc, mul_comm, mod-lt}
use Rattle.std.proofs.lemmas.Bool.{cases_lt}
use Rattle.std.proofs.lemmas.Bool.Decides.{nat_tests}
use Rattle.std.proofs.lemmas.List.{length-append}
use Rattle.std.proofs.lemmas.List.Elements.{filter-append}
use Rattle.std.proofs.lemmas.List.Folds.{find-append}
use Rattle.std.proofs.lemmas.Nat.{leading_top, ones_cat, ones_le_self, pow_pos, zero_from_ones}
use Rattle.std.proofs.lemmas.Nat.Bits.{bit_at-lt, bit_at_above, bit_at_cat_high}
use Rattle.listener_set.specs.Numbers.{numbers_below, first, last, first_from}
use Rattle.listener_set.specs.NumberWords.{has_bit, numbers_of}

-- ---- a bit of a word
pub has_bit-in_word : (words : List ℕ) (place i : ℕ) → i < 64 → has_bit words (64 * place + i) ≡ (bit_at (get_or words place 0) i == 1)
has_bit-in_word words place i lt =
    let word : (64 * place + i) / 64 ≡ place = omega arith in
    let bit : (64 * place + i) % 64 ≡ i = omega arith in
    rw (word, bit) refl

pub bit_set : (words : List ℕ) (place i : ℕ) → i < 64 → bit_at (get_or words place 0) i ≡ 1 → has_bit words (64 * place + i) ≡ true
bit_set words place i lt e = has_bit-in_word words place i lt ∙ ap (λ b. b == 1) e

pub bit_clear : (words : List ℕ) (place k : ℕ) → 64 * place ≤ k → k < 64 * place + 64 → bit_at (get_or words place 0) (k - 64 * place) ≡ 0 → has_bit words k ≡ false
bit_clear words place k low high e =
    let at : 64 * place + (k - 64 * place) ≡ k = omega arith in
    ap (has_bit words) (sym at) ∙ has_bit-in_word words place (k - 64 * place) (omega arith) ∙ ap (λ b. b == 1) e

-- ---- the first number that passes
find-filter : (p q : ℕ → Bool) (xs : List ℕ) → find p (filter q xs) ≡ find (λ x. q x && p x) xs
find-filter p q [] = refl
find-filter p q (x ∷ xs) = at (q x) (find-filter p q xs)
  where
    at : (a : Bool) → find p (filter q xs) ≡ find (λ x. q x && p x) xs → find p (cond a (x ∷ filter q xs) (filter q xs)) ≡ cond (a && p x) (Some x) (find (λ x. q x && p x) xs)
    at true ih = ap (cond (p x) (Some x)) ih
    at false ih = ih

find_below-none : (p : ℕ → Bool) (n : ℕ) → ((k : ℕ) → k < n → p k ≡ false) → find p (numbers_below n) ≡ None
find_below-none p zero h = refl
find_below-none p (suc n) h =
    find-append p (numbers_below n) (n ∷ [])
    ∙ ap (λ o. option_or o (find p (n ∷ []))) (find_below-none p n (λ k lt. h k (omega arith)))
    ∙ ap (λ b. cond b (Some n) None) (h n (omega arith))

find_below-some : (p : ℕ → Bool) (n m : ℕ) → m < n → p m ≡ true → ((k : ℕ) → k < m → p k ≡ false) → find p (numbers_below n) ≡ Some m
find_below-some p zero m lt on off = absurd (omega arith)
find_below-some p (suc n) m lt on off =
    find-append p (numbers_below n) (n ∷ [])
    ∙ elim (cases_lt m n) [
      | inl below ↦ ap (λ o. option_or o (find p (n ∷ []))) (find_below-some p n m below on off)
      | inr over ↦
          let e : n ≡ m = omega arith in
          ap (λ o. option_or o (find p (n ∷ []))) (find_below-none p n (λ k less. off k (omega arith)))
          ∙ ap (λ b. cond b (Some n) None) (ap p e ∙ on)
          ∙ ap Some e
    ]

no_and : (a b : Bool) → (b ≡ true → a ≡ false) → (a && b) ≡ false
no_and true true h = h refl
no_and true false h = refl
no_and false b h = refl

pub first_from-some : (words : List ℕ) (bound m : ℕ) → m < 1024 → bound ≤ m → has_bit words m ≡ true → ((k : ℕ) → bound ≤ k → k < m → has_bit words k ≡ false) → first_from bound (numbers_of words) ≡ Some m
unfolding numbers_of
first_from-some words bound m lt from on off =
    find-filter (λ k. nat_le bound k) (has_bit words) (numbers_below 1024)
    ∙ find_below-some (λ k. has_bit words k && nat_le bound k) 1024 m lt
    (let le : nat_le bound m ≡ true = grind (arith, nat_tests) in rw (on, le) refl)
    (λ k less. no_and (has_bit words k) (nat_le bound k) (λ is. off k (grind (arith, nat_tests)) less))

pub first_from-none : (words : List ℕ) (bound : ℕ) → ((k : ℕ) → bound ≤ k → k < 1024 → has_bit words k ≡ false) → first_from bound (numbers_of words) ≡ None
unfolding numbers_of
first_from-none words bound off =
    find-filter (λ k. nat_le bound k) (has_bit words) (numbers_below 1024)
    ∙ find_below-none (λ k. has_bit words k && nat_le bound k) 1024 (λ k less. no_and (has_bit words k) (nat_le bound k) (λ is. off k (grind (arith, nat_tests)) less))

pub first_from-zero : (ns : List ℕ) → first_from 0 ns ≡ first ns
first_from-zero [] = refl
first_from-zero (n ∷ ns) = let le : nat_le 0 n ≡ true = grind (arith, nat_tests) in rw le refl

-- ---- the last number that passes
last-push : (xs : List ℕ) (n : ℕ) → last (xs ++ n ∷ []) ≡ Some n
last-push [] n = refl
last-push (x ∷ []) n = refl
last-push (x ∷ y ∷ ys) n = last-push (y ∷ ys) n

last_below : (p : ℕ → Bool) (n m : ℕ) → m < n → p m ≡ true → ((k : ℕ) → m < k → k < n → p k ≡ false) → last (filter p (numbers_below n)) ≡ Some m
last_below p zero m lt on off = absurd (omega arith)
last_below p (suc n) m lt on off =
    ap last (filter-append p (numbers_below n) (n ∷ []))
    ∙ elim (cases_lt m n) [
      | inl below ↦
          ap (λ b. last (filter p (numbers_below n) ++ cond b (n ∷ []) [])) (off n below (omega arith))
          ∙ ap last (append-nil (filter p (numbers_below n)))
          ∙ last_below p n m below on (λ k more less. off k more (omega arith))
      | inr over ↦
          let e : n ≡ m = omega arith in
          ap (λ b. last (filter p (numbers_below n) ++ cond b (n ∷ []) [])) (ap p e ∙ on) ∙ last-push (filter p (numbers_below n)) n ∙ ap Some e
    ]

-- the highest bit of a word
pub top_bit : (w : ℕ) → 0 < w → w < 2 ^ 64 → (j : ℕ) × (count_leading_zeros 64 w + suc j ≡ 64) × (bit_at w j ≡ 1) × ((i : ℕ) → j < i → bit_at w i ≡ 0)
top_bit w some fits =
    let top = leading_top 64 w some fits in
    let j = top.0 in
    let low : 2 ^ j ≤ w = top.2 in
    let high : w < 2 ^ suc j = top.3 in
    let rest : w - 2 ^ j < 2 ^ j = omega (arith, pow-suc 2 j) in
    let is : w ≡ 1 * 2 ^ j + (w - 2 ^ j) = omega arith in
    let none : j - j ≡ 0 = omega arith in
    (j, top.1, ap (λ v. bit_at v j) is ∙ bit_at_cat_high 1 j (w - 2 ^ j) j rest (omega arith) ∙ ap (bit_at 1) none, λ i above. bit_at_above w (suc j) i high (omega arith))

pub last-some : (words : List ℕ) (m : ℕ) → m < 1024 → has_bit words m ≡ true → ((k : ℕ) → m < k → k < 1024 → has_bit words k ≡ false) → last (numbers_of words) ≡ Some m
unfolding numbers_of
last-some words m lt on off = last_below (has_bit words) 1024 m lt on off

-- ---- how many bits are set
unfoldable pub bits_below : List ℕ → ℕ → ℕ
bits_below words n = length (filter (has_bit words) (numbers_below n))

pub bits_below-none : (words : List ℕ) → bits_below words 0 ≡ 0
unfolding bits_below
bits_below-none words = refl

bits_below_limit : (words : List ℕ) → bits_below words 1024 ≡ length (numbers_of words)
unfolding bits_below numbers_of
bits_below_limit words = refl

pub bits_below-all : (words : List ℕ) (i : ℕ) → i ≡ 16 → bits_below words (64 * i) ≡ length (numbers_of words)
bits_below-all words i e = ap (λ k. bits_below words (64 * k)) e ∙ bits_below_limit words

bits_below-suc : (words : List ℕ) (n : ℕ) → bits_below words (suc n) ≡ bits_below words n + cond (has_bit words n) 1 0
unfolding bits_below
bits_below-suc words n =
    ap length (filter-append (has_bit words) (numbers_below n) (n ∷ []))
    ∙ length-append (filter (has_bit words) (numbers_below n)) (cond (has_bit words n) (n ∷ []) [])
    ∙ ap (λ k. length (filter (has_bit words) (numbers_below n)) + k) (at (has_bit words n))
  where
    at : (b : Bool) → length (cond b (n ∷ []) []) ≡ cond b 1 0
    at true = refl
    at false = refl

count_ones-bit : (d : ℕ) → d < 2 → count_ones d ≡ cond (d == 1) 1 0
count_ones-bit zero lt = omega (arith, ones_le_self 0)
count_ones-bit (suc zero) lt = elim (cases_lt 0 (count_ones 1)) [
  | inl some ↦ omega (arith, ones_le_self 1)
  | inr none ↦ absurd (let no : 1 ≡ 0 = zero_from_ones 1 (omega arith) in omega arith)
]
count_ones-bit (suc (suc d)) lt = absurd (omega arith)

count_ones-more : (w n : ℕ) → count_ones (w % 2 ^ suc n) ≡ count_ones (bit_at w n) + count_ones (w % 2 ^ n)
count_ones-more w n =
    let positive : 0 < 2 ^ n = pow_pos n in
    ap (λ m. count_ones (w % m)) (pow-suc 2 n ∙ mul_comm (2 ^ n) 2)
    ∙ ap count_ones (mod-mul w (omega arith) positive)
    ∙ ones_cat n (bit_at w n) (w % 2 ^ n) (mod-lt w positive)

-- the bits of the words before a place, and the low bits of its word
bits_below-front : (words : List ℕ) (place n : ℕ) → n ≤ 64 → bits_below words (64 * place + n) ≡ bits_below words (64 * place) + count_ones (get_or words place 0 % 2 ^ n)
bits_below-front words place zero le =
    let none : get_or words place 0 % 2 ^ 0 ≡ 0 = omega arith in
    let e : 64 * place + 0 ≡ 64 * place = omega arith in
    rw (none, e) (omega (arith, ones_le_self 0))
bits_below-front words place (suc n) le =
    let w = get_or words place 0 in
    let here : bits_below words (64 * place + n) ≡ bits_below words (64 * place) + count_ones (w % 2 ^ n) = bits_below-front words place n (omega arith) in
    let bit : cond (has_bit words (64 * place + n)) 1 0 ≡ count_ones (bit_at w n) =
    ap (λ b. cond b 1 0) (has_bit-in_word words place n (omega arith)) ∙ sym (count_ones-bit (bit_at w n) (bit_at-lt w n)) in
    let next : bits_below words (suc (64 * place + n)) ≡ bits_below words (64 * place + n) + cond (has_bit words (64 * place + n)) 1 0 = bits_below-suc words (64 * place + n) in
    let more : count_ones (w % 2 ^ suc n) ≡ count_ones (bit_at w n) + count_ones (w % 2 ^ n) = count_ones-more w n in
    let e : 64 * place + suc n ≡ suc (64 * place + n) = omega arith in
    ap (bits_below words) e ∙ omega (arith, here, bit, next, more)

pub bits_below-more : (words : List ℕ) (place w : ℕ) → w < 2 ^ 64 → get_or words place 0 ≡ w → bits_below words (64 * (place + 1)) ≡ bits_below words (64 * place) + count_ones w
bits_below-more words place w fits e =
    let whole : w % 2 ^ 64 ≡ w = omega arith in
    let next : 64 * (place + 1) ≡ 64 * place + 64 = omega arith in
    ap (bits_below words) next ∙ bits_below-front words place 64 (omega arith) ∙ ap (λ v. bits_below words (64 * place) + count_ones (v % 2 ^ 64)) e ∙ ap (λ v. bits_below words (64 * place) + count_ones v) whole
