-- Turns that are added one after another.
use Rattle.std.proofs.Common.{◌≡◌, ℕ, zero, suc, ◌+◌, List, [], ◌∷◌, ◌++◌, refl, ap, ◌∙◌, append_assoc, arith}
use Rattle.definitions.specs.Plans.{Turn, New, Old}
use Rattle.master_on_children.specs.TakingTurns.{in_turn}

-- one turn more of each, behind the others
pub once-more : (n : ℕ) (turns : List Turn) → turns ≡ in_turn n → (turns ++ New ∷ []) ++ Old ∷ [] ≡ in_turn (n + 1)
once-more n turns are =
    append_assoc turns (New ∷ []) (Old ∷ []) ∙ ap (λ ts. ts ++ New ∷ Old ∷ []) are ∙ behind n
    ∙ ap in_turn (let next : suc n ≡ n + 1 = omega arith in next)
  where
    behind : (n : ℕ) → in_turn n ++ New ∷ Old ∷ [] ≡ in_turn (suc n)
    behind zero = refl
    behind (suc n) = ap (λ ts. New ∷ Old ∷ ts) (behind n)
