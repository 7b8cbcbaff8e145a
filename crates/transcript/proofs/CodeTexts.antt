-- What the bytes of a code are.
use Rattle.std.proofs.Common.{◌≡◌, ℕ, zero, suc, ◌-◌, ◌<◌, ltb, Bool, true, false, ◌&&◌, ◌||◌, not, ◌==◌, List, [], ◌∷◌}
use Rattle.std.proofs.Common.{◌++◌, Option, Some, None, IsUtf8, IsAscii, refl, ap, ◌∙◌, arith}
use Rattle.std.specs.Prelude.{codes, bytes_eq, nat_lt}
use Rattle.std.specs.List.{list_all}
use Rattle.std.specs.Char.{is_ascii_digit, is_ascii_uppercase}
use Rattle.std.proofs.lemmas.Bool.Decides.{nat_tests}
use Rattle.std.proofs.lemmas.List.Folds.{list_all-append}
use Rattle.std.proofs.lemmas.Str.{IsUtf8-from_ascii}
use Rattle.std.proofs.lemmas.Str.Ascii.{IsAscii-cons}
use Rattle.plain_text.specs.Cuts.{cut}
use Rattle.plain_text.proofs.NumberTextLemmas.{both}
use Rattle.plain_text.proofs.CutTexts.{lacks, lacks-all, cut_found}
use Rattle.call_text.proofs.Readers.{same_bytes}
use Rattle.transcript.specs.Codes.{is_numeral, is_lettered, is_key, is_detail, details_from, are_details, code_from, is_code}

-- an ASCII byte that is no newline
abbrev is_plain : ℕ → Bool
is_plain c = nat_lt c 128 && not (c == 10)

digit_plain : (c : ℕ) → is_ascii_digit c ≡ true → is_plain c ≡ true
digit_plain c h = grind (arith, nat_tests)

capital_plain : (c : ℕ) → is_ascii_uppercase c ≡ true → is_plain c ≡ true
capital_plain c h = grind (arith, nat_tests)

digits_plain : (text : List ℕ) → list_all is_ascii_digit text ≡ true → list_all is_plain text ≡ true
digits_plain [] h = refl
digits_plain (c ∷ cs) h =
    let parts = both (is_ascii_digit c) (list_all is_ascii_digit cs) h in
    rw (digit_plain c parts.0, digits_plain cs parts.1) refl

append_plain : (xs ys : List ℕ) → list_all is_plain xs ≡ true → list_all is_plain ys ≡ true → list_all is_plain (xs ++ ys) ≡ true
append_plain xs ys h k = list_all-append is_plain xs ys ∙ (λ i. h i && k i)

numeral_plain : (text : List ℕ) → is_numeral text ≡ true → list_all is_plain text ≡ true
numeral_plain [] h = cc
numeral_plain (c ∷ []) h = rw (digit_plain c h) refl
numeral_plain (c ∷ d ∷ cs) h = digits_plain (c ∷ d ∷ cs) (both (not (c == 48)) (list_all is_ascii_digit (c ∷ d ∷ cs)) h).1

lettered_plain : (text : List ℕ) → is_lettered text ≡ true → list_all is_plain text ≡ true
lettered_plain [] h = cc
lettered_plain (c ∷ cs) h =
    let parts = both (is_ascii_uppercase c) (is_numeral cs) h in
    rw (capital_plain c parts.0, numeral_plain cs parts.1) refl

-- a text that is another one
same_plain : (text key : List ℕ) → list_all is_plain key ≡ true → bytes_eq text key ≡ true → list_all is_plain text ≡ true
same_plain text key plain h = ap (list_all is_plain) (same_bytes text key h) ∙ plain

key_plain : (text : List ℕ) → is_key text ≡ true → list_all is_plain text ≡ true
key_plain text h = one (bytes_eq text (codes "command")) refl (bytes_eq text (codes "groups")) refl (bytes_eq text (codes "listeners")) refl (bytes_eq text (codes "pid")) refl (bytes_eq text (codes "retries")) refl (bytes_eq text (codes "surge")) refl (bytes_eq text (codes "timeout")) refl (bytes_eq text (codes "workers")) refl h
  where
    one : (a : Bool) → bytes_eq text (codes "command") ≡ a → (b : Bool) → bytes_eq text (codes "groups") ≡ b → (c : Bool) → bytes_eq text (codes "listeners") ≡ c → (d : Bool) → bytes_eq text (codes "pid") ≡ d → (e : Bool) → bytes_eq text (codes "retries") ≡ e → (f : Bool) → bytes_eq text (codes "surge") ≡ f → (g : Bool) → bytes_eq text (codes "timeout") ≡ g → (p : Bool) → bytes_eq text (codes "workers") ≡ p → (a || b || c || d || e || f || g || p) ≡ true → list_all is_plain text ≡ true
    one true i b j c k d l e m f n g o p q h = same_plain text (codes "command") refl i
    one false i true j c k d l e m f n g o p q h = same_plain text (codes "groups") refl j
    one false i false j true k d l e m f n g o p q h = same_plain text (codes "listeners") refl k
    one false i false j false k true l e m f n g o p q h = same_plain text (codes "pid") refl l
    one false i false j false k false l true m f n g o p q h = same_plain text (codes "retries") refl m
    one false i false j false k false l false m true n g o p q h = same_plain text (codes "surge") refl n
    one false i false j false k false l false m false n true o p q h = same_plain text (codes "timeout") refl o
    one false i false j false k false l false m false n false o true q h = same_plain text (codes "workers") refl q
    one false i false j false k false l false m false n false o false q h = cc

detail_plain : (text : List ℕ) → is_detail text ≡ true → list_all is_plain text ≡ true
detail_plain text h = one (is_lettered text) refl (is_numeral text) refl (is_key text) refl h
  where
    one : (a : Bool) → is_lettered text ≡ a → (b : Bool) → is_numeral text ≡ b → (c : Bool) → is_key text ≡ c →
        (a || b || c) ≡ true → list_all is_plain text ≡ true
    one true i b j c k h = lettered_plain text i
    one false i true j c k h = numeral_plain text j
    one false i false j true k h = key_plain text k
    one false i false j false k h = cc

cut_plain : (text : List ℕ) (p : List ℕ × List ℕ) → cut 32 text ≡ Some p → list_all is_plain p.0 ≡ true →
    list_all is_plain p.1 ≡ true → list_all is_plain text ≡ true
cut_plain text p e h k = ap (list_all is_plain) (cut_found 32 text p e) ∙ append_plain p.0 (32 ∷ p.1) h k

details_plain : (n : ℕ) (text : List ℕ) → are_details n text ≡ true → list_all is_plain text ≡ true
details_plain zero text h = cc
details_plain (suc n) text h = at (cut 32 text) refl h (details_plain n)
  where
    at : (o : Option (List ℕ × List ℕ)) → cut 32 text ≡ o → details_from (are_details n) text o ≡ true →
        ((rest : List ℕ) → are_details n rest ≡ true → list_all is_plain rest ≡ true) → list_all is_plain text ≡ true
    at None e h others = detail_plain text h
    at (Some p) e h others =
        let parts = both (is_detail p.0) (are_details n p.1) h in
        cut_plain text p e (detail_plain p.0 parts.0) (others p.1 parts.1)

code_plain : (text : List ℕ) → is_code text ≡ true → list_all is_plain text ≡ true
code_plain text h = at (cut 32 text) refl h
  where
    at : (o : Option (List ℕ × List ℕ)) → cut 32 text ≡ o → code_from text o ≡ true → list_all is_plain text ≡ true
    at None e h = lettered_plain text h
    at (Some p) e h =
        let parts = both (is_lettered p.0) (are_details 5 p.1) h in
        cut_plain text p e (lettered_plain p.0 parts.0) (details_plain 5 p.1 parts.1)

pub code_lacks : (text : List ℕ) → is_code text ≡ true → lacks 10 text ≡ true
code_lacks text h = lacks-all is_plain 10 refl text (code_plain text h)

plain_small : (c : ℕ) → is_plain c ≡ true → c < 128
plain_small c h = let less : ltb c 128 ≡ true = (both (nat_lt c 128) (not (c == 10)) h).0 in grind (arith, nat_tests)

plain_ascii : (text : List ℕ) → list_all is_plain text ≡ true → IsAscii text
plain_ascii [] h = λ i. omega arith
plain_ascii (c ∷ cs) h =
    let parts = both (is_plain c) (list_all is_plain cs) h in
    IsAscii-cons c cs (plain_small c parts.0) (plain_ascii cs parts.1)

pub IsUtf8_code : (text : List ℕ) → is_code text ≡ true → IsUtf8 text
IsUtf8_code text h = IsUtf8-from_ascii text (plain_ascii text (code_plain text h))

-- a word with others behind it
pub details_both : (n : ℕ) (text word rest : List ℕ) → 0 < n → cut 32 text ≡ Some (word, rest) → is_detail word ≡ true →
    are_details n text ≡ are_details (n - 1) rest
details_both zero text word rest lt e h = absurd (let none : 0 < 0 = lt in omega arith)
details_both (suc n) text word rest lt e h =
    let less : n ≡ suc n - 1 = omega arith in
    ap (details_from (are_details n) text) e ∙ ap (λ b. b && are_details n rest) h ∙ ap (λ k. are_details k rest) less
