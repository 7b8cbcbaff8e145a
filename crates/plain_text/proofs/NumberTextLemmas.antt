-- The text of a number is what is printed of it.
use Rattle.std.proofs.Common.{◌≡◌, ℕ, ◌+◌, ◌-◌, ◌*◌, ◌^◌, ◌≤◌, ◌<◌, Bool, true, false, cond, leb, eqb, ◌&&◌, List, [], ◌∷◌, length, get_or, Option, Some, None, is_some, refl, sym, ap, ◌∙◌, arith, rules, inl, inr}
use Rattle.std.proofs.lemmas.Bool.{cases_lt}
use Rattle.std.specs.Char.{is_ascii_digit}
use Rattle.std.specs.Str.{all_ascii_digits}
use Rattle.std.specs.Fmt.{decimal}
use Rattle.std.proofs.lemmas.Bool.Decides.{nat_tests}
use Rattle.std.proofs.lemmas.Str.Parse.{IsNumeralModel, numerals_by_fold}
use Rattle.std.proofs.lemmas.Fmt.{decimal-digits_value, digits_decimal, digits_value-decimal, decimal_nonempty, first_decimal, length-decimal-le}
use Rattle.plain_text.specs.NumberText.{number_after, number64_of, number_in, at_most, number_if_within, number_within, is_within}

-- what digits write, after n
abbrev pub read_on : ℕ → List ℕ → ℕ
read_on n [] = n
read_on n (c ∷ cs) = read_on (10 * n + (c - 48)) cs

numerals : IsNumeralModel (λ ds. all_ascii_digits ds ≡ true) (read_on 0)
numerals = numerals_by_fold _ (search rules) read_on (search rules)

chosen : {A : Type 0} (b : Bool) (x : Option A) (m : A) → cond b x None ≡ Some m → (b ≡ true) × (x ≡ Some m)
chosen true x m e = (refl, e)
chosen false x m e = cc

other : {A : Type 0} (b : Bool) (x : Option A) (m : A) → cond b None x ≡ Some m → (b ≡ false) × (x ≡ Some m)
other true x m e = cc
other false x m e = (refl, e)

pub both : (a b : Bool) → (a && b) ≡ true → (a ≡ true) × (b ≡ true)
both true b e = (refl, e)
both false b e = cc

both_true : (a b : Bool) → a ≡ true → b ≡ true → (a && b) ≡ true
both_true a b x y = rw (x, y) refl

number_after_gives : (n : ℕ) (cs : List ℕ) (m : ℕ) → n < 2 ^ 64 → number_after n cs ≡ Some m → (all_ascii_digits cs ≡ true) × (m ≡ read_on n cs) × (m < 2 ^ 64)
number_after_gives n [] m lt e = let same : n ≡ m = cc in (refl, sym same, omega arith)
number_after_gives n (c ∷ cs) m lt e =
    let went = chosen (is_ascii_digit c && leb (10 * n + (c - 48)) 18446744073709551615) (number_after (10 * n + (c - 48)) cs) m e in
    let tests = both (is_ascii_digit c) (leb (10 * n + (c - 48)) 18446744073709551615) went.0 in
    let small : 10 * n + (c - 48) < 2 ^ 64 = (let le : leb (10 * n + (c - 48)) 18446744073709551615 ≡ true = tests.1 in grind (arith, nat_tests)) in
    let rest = number_after_gives (10 * n + (c - 48)) cs m small went.1 in
    (both_true _ _ tests.0 rest.0, rest.1, rest.2)

read_on-ge : (n : ℕ) (cs : List ℕ) → n ≤ read_on n cs
read_on-ge n [] = omega arith
read_on-ge n (c ∷ cs) = let le : 10 * n + (c - 48) ≤ read_on (10 * n + (c - 48)) cs = read_on-ge (10 * n + (c - 48)) cs in omega (arith, le)

number_after_digits : (n : ℕ) (cs : List ℕ) → all_ascii_digits cs ≡ true → read_on n cs < 2 ^ 64 → number_after n cs ≡ Some (read_on n cs)
number_after_digits n [] all lt = refl
number_after_digits n (c ∷ cs) all lt =
    let tests = both (is_ascii_digit c) (all_ascii_digits cs) all in
    let le : 10 * n + (c - 48) ≤ read_on (10 * n + (c - 48)) cs = read_on-ge (10 * n + (c - 48)) cs in
    let fits : leb (10 * n + (c - 48)) 18446744073709551615 ≡ true = grind (arith, nat_tests) in
    rw (tests.0, fits) (number_after_digits (10 * n + (c - 48)) cs tests.1 lt)

-- what is read is what is printed
printed : (text : List ℕ) (n : ℕ) → 0 < length text → (get_or text 0 0 ≡ 48 → length text ≡ 1) → number_after 0 text ≡ Some n → (text ≡ decimal n) × (n < 2 ^ 64)
printed text n some first e =
    let got = number_after_gives 0 text n (omega arith) e in
    let fits : read_on 0 text < 2 ^ 64 = omega (arith, got.1, got.2) in
    (sym (ap decimal got.1 ∙ decimal-digits_value numerals text got.0 some first fits), got.2)

pub decimal-number64_of : (text : List ℕ) (n : ℕ) → number64_of text ≡ Some n → (text ≡ decimal n) × (n < 2 ^ 64)
decimal-number64_of [] n e = cc
decimal-number64_of (c ∷ []) n e = printed (c ∷ []) n (omega arith) (λ _. refl) e
decimal-number64_of (c ∷ d ∷ cs) n e =
    let went = other (eqb c 48) (number_after 0 (c ∷ d ∷ cs)) n e in
    let not_zero : eqb c 48 ≡ false = went.0 in
    printed (c ∷ d ∷ cs) n (omega arith) (λ (zero : c ≡ 48). absurd (let no : ⊥ = grind (arith, nat_tests) in no)) went.1

-- what is printed is read
pub number64_of-decimal : (n : ℕ) → n < 2 ^ 64 → number64_of (decimal n) ≡ Some n
number64_of-decimal n lt =
    at (decimal n) (digits_decimal numerals n lt) (digits_value-decimal numerals n lt) (decimal_nonempty n lt) (λ p. first_decimal n p lt) (λ z. length-decimal-le 1 n (omega arith) (omega arith) lt)
  where
    later : (c : ℕ) → 48 < c → eqb c 48 ≡ false
    later c h = grind (arith, nat_tests)

    at : (text : List ℕ) → all_ascii_digits text ≡ true → read_on 0 text ≡ n → 0 < length text → (0 < n → 48 < get_or text 0 0) → (n ≡ 0 → length text ≤ 1) → number64_of text ≡ Some n
    at [] all is some first short = absurd (omega arith)
    at (c ∷ []) all is some first short = number_after_digits 0 (c ∷ []) all (omega arith) ∙ ap Some is
    at (c ∷ d ∷ cs) all is some first short =
        let positive : 0 < n = elim (cases_lt 0 n) [ inl h ↦ h | inr h ↦ absurd (let le : length (c ∷ d ∷ cs) ≤ 1 = short (omega arith) in omega arith) ] in
        rw (later c (first positive)) (number_after_digits 0 (c ∷ d ∷ cs) all (omega arith) ∙ ap Some is)

pub digits-decimal : (n : ℕ) → n < 2 ^ 64 → all_ascii_digits (decimal n) ≡ true
digits-decimal n lt = digits_decimal numerals n lt

-- the same of 32 bits
small_of : (o : Option ℕ) (n : ℕ) → at_most 4294967295 o ≡ Some n → (o ≡ Some n) × (n < 2 ^ 32)
small_of None n e = cc
small_of (Some m) n e =
    let went = chosen (leb m 4294967295) (Some m) n e in
    let le : leb m 4294967295 ≡ true = went.0 in
    let same : m ≡ n = cc in
    (went.1, grind (arith, nat_tests))

pub decimal-number_in : (text : List ℕ) (n : ℕ) → number_in text ≡ Some n → (text ≡ decimal n) × (n < 2 ^ 32)
decimal-number_in text n e = let small = small_of (number64_of text) n e in ((decimal-number64_of text n small.0).0, small.1)

pub number_in-decimal : (n : ℕ) → n < 2 ^ 32 → number_in (decimal n) ≡ Some n
number_in-decimal n lt =
    let le : leb n 4294967295 ≡ true = grind (arith, nat_tests) in
    ap (at_most 4294967295) (number64_of-decimal n (omega arith)) ∙ rw le refl

-- the same within bounds
within_is : (least most : ℕ) (o : Option ℕ) (n : ℕ) → number_if_within least most o ≡ Some n → (o ≡ Some n) × (least ≤ n) × (n ≤ most)
within_is least most None n e = cc
within_is least most (Some m) n e =
    let went = chosen (leb least m && leb m most) (Some m) n e in
    let tests = both (leb least m) (leb m most) went.0 in
    let low : leb least m ≡ true = tests.0 in
    let high : leb m most ≡ true = tests.1 in
    let same : m ≡ n = cc in
    (went.1, grind (arith, nat_tests), grind (arith, nat_tests))

pub decimal-number_within : (least most : ℕ) (text : List ℕ) (n : ℕ) → number_within least most text ≡ Some n → (text ≡ decimal n) × (least ≤ n) × (n ≤ most)
decimal-number_within least most text n e =
    let is = within_is least most (number_in text) n e in
    ((decimal-number_in text n is.0).0, is.1, is.2)

pub number_within-decimal : (least most n : ℕ) → least ≤ n → n ≤ most → n < 2 ^ 32 → number_within least most (decimal n) ≡ Some n
number_within-decimal least most n low high lt =
    let one : leb least n ≡ true = grind (arith, nat_tests) in
    let two : leb n most ≡ true = grind (arith, nat_tests) in
    ap (number_if_within least most) (number_in-decimal n lt) ∙ rw (one, two) refl

pub decimal-is_within : (least most : ℕ) (text : List ℕ) → is_within least most text ≡ true → (n : ℕ) × (text ≡ decimal n) × (least ≤ n) × (n ≤ most)
decimal-is_within least most text h = at (number_within least most text) refl h
  where
    at : (o : Option ℕ) → number_within least most text ≡ o → is_some o ≡ true → (n : ℕ) × (text ≡ decimal n) × (least ≤ n) × (n ≤ most)
    at None e h = cc
    at (Some n) e h = let is = decimal-number_within least most text n e in (n, is.0, is.1, is.2)

pub is_within-decimal : (least most n : ℕ) → least ≤ n → n ≤ most → most < 2 ^ 32 → is_within least most (decimal n) ≡ true
is_within-decimal least most n low high fits = ap is_some (number_within-decimal least most n low high (omega arith))

-- a number up to a bound has few digits
pub length-within : (k least most : ℕ) (text : List ℕ) → 0 < k → most < 10 ^ k → is_within least most text ≡ true → length text ≤ k
length-within k least most text pos bound within = at (number_within least most text) refl within
  where
    at : (o : Option ℕ) → number_within least most text ≡ o → is_some o ≡ true → length text ≤ k
    at None e h = cc
    at (Some n) e h =
        let is = within_is least most (number_in text) n e in
        let found = decimal-number_in text n is.0 in
        let small : n ≤ most = is.2 in
        let lt : n < 2 ^ 32 = found.1 in
        rw found.0 (length-decimal-le k n pos (omega arith) (omega arith))
