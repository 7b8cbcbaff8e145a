-- What is kept of a text that is put behind what was kept before.
use Rattle.std.proofs.Common.{◌≡◌, ℕ, Bool, true, zero, suc, List, [], ◌∷◌, ap, ◌++◌, take, Option, Some, None, refl, arith, append_assoc, ◌+◌, ◌-◌, ◌≤◌, ◌<◌, ◌^◌, lit<, min, length, length-take-le, sym, ◌∙◌}
use Rattle.std.proofs.lemmas.List.{take_min}
use Rattle.std.specs.Prelude.{IsTrue, ◌↔◌, if◌then◌else◌}
use Rattle.std.specs.Fmt.{decimal}
use Rattle.std.proofs.lemmas.Fmt.{length-decimal-le}
use Rattle.std.proofs.Math.Seq.{take-append-add}
use Rattle.plain_text.specs.Kept.{kept}

pub take_on : (most : ℕ) (before text : List ℕ) → take most (take most before ++ text) ≡ take most (before ++ text)
take_on zero before text = refl
take_on (suc most) [] text = refl
take_on (suc most) (x ∷ xs) text = ap (λ l. x ∷ l) (take_on most xs text)

pub kept_on : (most : Option ℕ) (before text : List ℕ) → kept most (kept most before ++ text) ≡ kept most (before ++ text)
kept_on None before text = refl
kept_on (Some most) before text = take_on most before text

-- a text that is put in two pieces, and in three
pub two_on : (most : Option ℕ) (before first second : List ℕ) → kept most (kept most (before ++ first) ++ second) ≡ kept most (before ++ (first ++ second))
two_on most before first second = kept_on most (before ++ first) second ∙ ap (kept most) (append_assoc before first second)

pub three_on : (most : Option ℕ) (before first second third : List ℕ) → kept most (kept most (kept most (before ++ first) ++ second) ++ third) ≡ kept most (before ++ (first ++ (second ++ third)))
three_on most before first second third = ap (λ text. kept most (text ++ third)) (two_on most before first second) ∙ two_on most before (first ++ second) third ∙ ap (λ text. kept most (before ++ text)) (append_assoc first second third)

-- as much of a text as there is room for
take_onto : (most len : ℕ) (before text : List ℕ) → length before ≡ len → len ≤ most → before ++ take (min (most - len) (length text)) text ≡ take most (before ++ text)
take_onto most len before text size fits =
    let all : length before + (most - len) ≡ most = omega arith in
    rw take_min (sym (take-append-add before text (most - len)) ∙ ap (λ n. take n (before ++ text)) all)

-- as much of a text as there is room for, put behind the first ones of so many places
pub put_cut : (most len taken : ℕ) (places before text new : List ℕ) (fits : Bool) → length places ≡ most → len ≤ most → take len places ≡ before → taken ≡ min (most - len) (length text)
    → (IsTrue fits ↔ (length before + length (take taken text) ≤ most)) → new ≡ (if fits then before ++ take taken text else before) → new ≡ take most (before ++ text)
put_cut most len taken places before text new fits size within kept_is taken_is room new_is =
    let filled : length before ≡ len = rw (← kept_is) (length-take-le len places (omega arith)) in
    let sized : length (take taken text) ≡ taken = length-take-le taken text (omega arith) in
    let yes : fits ≡ true = room.1 (omega arith) in
    new_is ∙ ap (λ b. if b then before ++ take taken text else before) yes ∙ ap (λ n. before ++ take n text) taken_is ∙ take_onto most len before text filled within

pub short_decimal : (n : ℕ) → n < 2 ^ 64 → length (decimal n) ≤ 20
short_decimal n small = length-decimal-le 20 n (lit< tt) (omega (arith, small)) small
