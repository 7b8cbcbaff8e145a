-- The first place of a byte, as a search finds it.
use Rattle.std.proofs.Common.{◌≡◌, ◌==◌, ℕ, nat_lt, cond, List, Option, None, Some, length, ap, sym, ◌∙◌, arith, position}
use Rattle.std.proofs.lemmas.Bool.{false_from_ne_true, lt-ltb, le-ltb}
use Rattle.std.proofs.lemmas.List.Sums.{position_or_len_is}
use Rattle.memchr.specs.Find.{IsFirstByte, is_byte}

-- the place by the number of bytes before the first
abbrev shown : List ℕ → ℕ → Option ℕ
shown text n = cond (nat_lt n (length text)) (Some n) None

pub first_byte : (byte : ℕ) (text : List ℕ) (found : Option ℕ) → IsFirstByte (is_byte byte) text found → found ≡ position (λ c. c == byte) text
first_byte byte text None none =
    let all = position_or_len_is (λ c. c == byte) text (length text) 0 (omega arith) (λ k below. false_from_ne_true _ (none k (omega arith) below)) (λ below. absurd (omega (arith, below))) in
    sym (ap (shown text) all ∙ ap (λ b. cond b (Some (length text)) None) (le-ltb (length text) (length text) (omega arith)))
first_byte byte text (Some place) first =
    let here = position_or_len_is (λ c. c == byte) text place 0 (omega (arith, first.0.high)) (λ k below. false_from_ne_true _ (first.0.before k (omega arith) below)) (λ below. first.1) in
    sym (ap (shown text) here ∙ ap (λ b. cond b (Some place) None) (lt-ltb place (length text) first.0.high))
