-- A gap in a list widens where a neighbour leaves.
use Rattle.std.proofs.Common.{◌≡◌, ℕ, suc, zero, ◌<◌, ◌≤◌, List, [], ◌∷◌, ◌++◌, length, take, drop, refl, ap, arith}
use Rattle.std.specs.List.{remove}

module _ {X : Type 0} where
  -- who was just before the gap
  pub left-before : (xs rest : List X) (place : ℕ) → place < length xs → take place xs ++ rest ≡ remove (take (suc place) xs ++ rest) place
  left-before [] rest place lt = absurd (omega arith)
  left-before (x ∷ xs) rest zero lt = refl
  left-before (x ∷ xs) rest (suc place) lt = ap (λ ys. x ∷ ys) (left-before xs rest place (omega arith))

  -- who was just behind it
  pub left-behind : (xs rest : List X) (place : ℕ) → place ≤ length xs → take place xs ++ drop 1 rest ≡ remove (take place xs ++ rest) place
  left-behind xs rest zero le = refl
  left-behind [] rest (suc place) le = absurd (omega arith)
  left-behind (x ∷ xs) rest (suc place) le = ap (λ ys. x ∷ ys) (left-behind xs rest place (omega arith))
