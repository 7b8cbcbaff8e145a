-- The bits of words that are cleared.
use Rattle.std.proofs.Common.{◌≡◌, ◌≢◌, ℕ, zero, suc, ◌+◌, ◌-◌, ◌*◌, ◌/◌, ◌%◌, ◌^◌, ◌<◌, ◌≤◌, ◌==◌, Bool, true, false, not, ◌&&◌, nat_eq, List, length, refl, sym, ◌∙◌, ap, inl, inr, arith, get_or, slice_set, bit_and, w64, min}
use Rattle.std.specs.Int.{bit_at}
use Rattle.std.proofs.lemmas.Bool.{cases_eq}
use Rattle.std.proofs.lemmas.Bool.Decides.{nat_tests, eqb_tells}
use Rattle.std.proofs.lemmas.List.{get_or-set_same, get_or-set_other}
use Rattle.std.proofs.lemmas.Nat.{and_le_l}
use Rattle.std.proofs.lemmas.Nat.Bits.{bit_at_clear_same, bit_at_clear_other, bit_at-lt, bit_at_and, bit_at_not}
use Rattle.listener_set.specs.NumberWords.{has_bit, AreWords}
use Rattle.listener_set.specs.NumberWordsLemmas.{has_bit-set, AreWords-set, word_fits}

pub and_true : (b : Bool) → (b && true) ≡ b
and_true true = refl
and_true false = refl

pub and_false : (b : Bool) → (b && false) ≡ false
and_false true = refl
and_false false = refl

-- ---- one bit
abbrev pub without_bit : List ℕ → ℕ → List ℕ
without_bit words n = slice_set words (n / 64) (bit_and (get_or words (n / 64) 0) (2 ^ 64 - 1 - 1 * 2 ^ (n % 64) % 2 ^ 64))

bit_cleared : (w n q : ℕ) (old : Bool) → q / 64 ≡ n / 64 → old ≡ (bit_at w (q % 64) == 1) → (bit_at (bit_and w (2 ^ 64 - 1 - 1 * 2 ^ (n % 64) % 2 ^ 64)) (q % 64) == 1) ≡ (old && not (nat_eq q n))
bit_cleared w n q old e h =
    elim (eqb_tells (q % 64) (n % 64)) [
      | inl s ↦ rw (s.1, bit_at_clear_same w64 w (n % 64) (omega arith)) (let same : nat_eq q n ≡ true = grind (arith, nat_tests) in rw same (sym (and_false old)))
      | inr s ↦
          rw (bit_at_clear_other w64 w (n % 64) (omega arith) (q % 64) (omega arith) s.1)
          (let other : nat_eq q n ≡ false = (let ne : q ≢ n = (λ same. s.1 (ap (λ x. x % 64) same)) in grind (arith, nat_tests)) in rw other (sym h ∙ sym (and_true old)))
    ]

pub has_bit-without_bit : (words : List ℕ) (n q : ℕ) → n / 64 < length words → has_bit (without_bit words n) q ≡ (has_bit words q && not (nat_eq q n))
has_bit-without_bit words n q within =
    has_bit-set words (n / 64) _ q within
    ∙ elim (eqb_tells (q / 64) (n / 64)) [
      | inl e ↦ rw e.0 (bit_cleared (get_or words (n / 64) 0) n q (has_bit words q) e.1 (ap (λ i. bit_at (get_or words i 0) (q % 64) == 1) e.1))
      | inr e ↦ rw e.0 (let other : nat_eq q n ≡ false = (let ne : q ≢ n = (λ same. e.1 (ap (λ x. x / 64) same)) in grind (arith, nat_tests)) in rw other (sym (and_true (has_bit words q))))
    ]

-- ---- the bits of another set
abbrev pub word_without : ℕ → ℕ → ℕ
word_without a b = bit_and a (2 ^ 64 - 1 - b)

bit_without : (a b i : ℕ) → b < 2 ^ 64 → i < 64 → (bit_at (word_without a b) i == 1) ≡ ((bit_at a i == 1) && not (bit_at b i == 1))
bit_without a b i fits lt =
    rw (bit_at_and, bit_at_not w64 b i fits lt) (at (bit_at a i) (bit_at b i) (bit_at-lt a i) (bit_at-lt b i))
  where
    at : (x y : ℕ) → x < 2 → y < 2 → (min x (1 - y) == 1) ≡ ((x == 1) && not (y == 1))
    at zero y p q = ap (λ m. m == 1) (let none : min 0 (1 - y) ≡ 0 = omega arith in none)
    at (suc zero) zero p q = refl
    at (suc zero) (suc zero) p q = refl
    at (suc zero) (suc (suc y)) p q = absurd (omega arith)
    at (suc (suc x)) y p q = absurd (omega arith)

-- the words after the places before i are done
pub record AreCleared (words others now : List ℕ) (i : ℕ) : Type 0 where
  pub are : AreWords now
  pub done : (k : ℕ) → k < i → get_or now k 0 ≡ word_without (get_or words k 0) (get_or others k 0)
  pub ahead : (k : ℕ) → i ≤ k → get_or now k 0 ≡ get_or words k 0

pub AreCleared-more : (words others now : List ℕ) (i : ℕ) → i < 16 → AreCleared words others now i → AreCleared words others (slice_set now i (word_without (get_or now i 0) (get_or others i 0))) (i + 1)
AreCleared-more words others now i lt h = record {
  are = AreWords-set now i _ h.are (omega (arith, and_le_l (get_or now i 0) (2 ^ 64 - 1 - get_or others i 0), word_fits now i h.are lt));
  done = λ k less. elim (cases_eq k i) [
    | inl e ↦ rw (e, get_or-set_same now i _ 0 within, h.ahead i (omega arith)) refl
    | inr ne ↦ get_or-set_other now i k _ 0 ne ∙ h.done k (omega arith)
  ];
  ahead = λ k from. get_or-set_other now i k _ 0 (λ e. omega arith) ∙ h.ahead k (omega arith);
}
  where
    within : i < length now
    within = omega (arith, h.are.count)

pub has_bit-cleared : (words others now : List ℕ) → AreWords others → AreCleared words others now 16 → (q : ℕ) → q < 1024 → has_bit now q ≡ (has_bit words q && not (has_bit others q))
has_bit-cleared words others now are h q lt =
    ap (λ w. bit_at w (q % 64) == 1) (h.done (q / 64) (omega arith))
    ∙ bit_without (get_or words (q / 64) 0) (get_or others (q / 64) 0) (q % 64) (word_fits others (q / 64) are (omega arith)) (omega arith)
