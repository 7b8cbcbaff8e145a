-- Places of a list.
use Rattle.std.proofs.Common.{◌≡◌, refl, sym, ap, ◌∙◌, ℕ, ◌+◌, ◌<◌, ◌≤◌, List, [], ◌∷◌, ◌++◌, suc, length, get_or, take, drop, zero, arith, add-one, drop-cons}
use Rattle.std.proofs.lemmas.List.{take_more}
use Rattle.std.specs.List.{remove}

-- the elements from a place on
pub at_place : {A : Type 0} (xs : List A) (i : ℕ) (d : A) → i < length xs → drop i xs ≡ get_or xs i d ∷ drop (i + 1) xs
at_place xs i d within = rw add-one (drop-cons xs i d within)

pub from_place : {A : Type 0} (xs : List A) (i : ℕ) (x : A) → i < length xs → x ≡ get_or xs i x → drop i xs ≡ x ∷ drop (i + 1) xs
from_place xs i x within is = at_place xs i x within ∙ ap (λ y. y ∷ drop (i + 1) xs) (sym is)

pub up_to_place : {A : Type 0} (xs : List A) (i : ℕ) (x : A) → i < length xs → x ≡ get_or xs i x → take (i + 1) xs ≡ take i xs ++ x ∷ []
up_to_place xs i x within is = take_more xs i x within ∙ ap (λ y. take i xs ++ y ∷ []) (sym is)

take-front : {A : Type 0} (i : ℕ) (xs ys : List A) → i ≤ length xs → take i (take i xs ++ ys) ≡ take i xs
take-front zero xs ys h = refl
take-front (suc i) [] ys h = absurd (omega (arith, h))
take-front (suc i) (x ∷ xs) ys h = ap (λ l. x ∷ l) (take-front i xs ys (omega (arith, h)))

drop-front : {A : Type 0} (i : ℕ) (xs ys : List A) → i ≤ length xs → drop i (take i xs ++ ys) ≡ ys
drop-front zero xs ys h = refl
drop-front (suc i) [] ys h = absurd (omega (arith, h))
drop-front (suc i) (x ∷ xs) ys h = drop-front i xs ys (omega (arith, h))

pub take-removed : {A : Type 0} (xs : List A) (i : ℕ) → i < length xs → take i (remove xs i) ≡ take i xs
take-removed xs i within = take-front i xs (drop (suc i) xs) (omega (arith, within))

pub drop-removed : {A : Type 0} (xs : List A) (i : ℕ) → i < length xs → drop i (remove xs i) ≡ drop (i + 1) xs
drop-removed xs i within = drop-front i xs (drop (suc i) xs) (omega (arith, within)) ∙ ap (λ n. drop n xs) (sym (add-one i))
