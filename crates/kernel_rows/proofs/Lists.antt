-- Lists of what others stand for.
use Rattle.std.proofs.Common.{◌≡◌, Bool, true, false, cond, ◌||◌, List, [], ◌∷◌, ◌++◌, Option, map, refl, ap, subst, ◌∙◌}
use Rattle.std.specs.List.{list_any, filter_map, cons_option}
use Rattle.std.specs.List.Retain.{RetainsInTurn}
use Rattle.std.specs.Bool.{then_some}

pub list_any-map : {X Y : Type 0} (test : Y → Bool) (f : X → Y) (xs : List X) → list_any test (map f xs) ≡ list_any (λ x. test (f x)) xs
list_any-map test f [] = refl
list_any-map test f (x ∷ xs) = ap (λ b. test (f x) || b) (list_any-map test f xs)

pub map-push : {X Y : Type 0} (f : X → Y) (xs : List X) (x : X) → map f (xs ++ x ∷ []) ≡ map f xs ++ f x ∷ []
map-push f [] x = refl
map-push f (y ∷ xs) x = ap (λ ys. f y ∷ ys) (map-push f xs x)

module _ {S X Y : Type 0} (R : S → X → Bool → S → X → Type 0) (v : X → Y) (h : Y → Option Y) (s : S)
    (says : (x : X) (b : Bool) (t : S) (y : X) → R s x b t y → (then_some b (v y) ≡ h (v x)) × (t ≡ s)) where
  kept : (b : Bool) (y : X) (zs : List X) (rest : List Y) → map v zs ≡ rest → map v (cond b (y ∷ zs) zs) ≡ cons_option (then_some b (v y)) rest
  kept true y zs rest e = ap (λ ys. v y ∷ ys) e
  kept false y zs rest e = e

  -- what `retain_mut` leaves of a list, where the closure says what becomes of each element and stays as it is
  pub retained : (xs ys : List X) → RetainsInTurn R s xs ys → map v ys ≡ filter_map h (map v xs)
  retained [] ys r = ap (map v) r
  retained (x ∷ xs) ys r =
      let said = says x r.0 r.1 r.2 r.3 in
      let rest = subst (λ t. RetainsInTurn R t xs r.4) said.1 r.5 in
      ap (map v) r.6 ∙ kept r.0 r.2 r.4 (filter_map h (map v xs)) (retained xs r.4 rest)
      ∙ ap (λ o. cons_option o (filter_map h (map v xs))) said.0
