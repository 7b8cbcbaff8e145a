-- Lines one after another.
use Rattle.std.proofs.Common.{List, [], ◌∷◌, ◌++◌, Option, refl, subst}
use Rattle.std.specs.Prelude.{ℕ, Some, None}
use Rattle.child_programs.specs.Response.{Response}
use Rattle.child_programs.specs.Served.{IsNextLine, AreNextLines, IsObeyed, AreObeyed}

-- one line more
pub next-push : (unread : Option (List ℕ)) (lines : List (List ℕ)) (mid : Option (List ℕ)) (text : List ℕ) (left : Option (List ℕ)) →
    AreNextLines unread lines mid → IsNextLine mid (Some text) left → AreNextLines unread (lines ++ text ∷ []) left
next-push unread [] mid text left h next = (left, subst (λ (u : Option (List ℕ)). IsNextLine u (Some text) left) h next, refl)
next-push unread (first ∷ lines) mid text left h next = (h.0, h.1, next-push h.0 lines mid text left h.2 next)

module _ {H : Type 0} (hears : H → List ℕ → H → Response → Type 0) where
  pub obeyed-push : (old : H) (before : Option (List ℕ)) (lines : List (List ℕ)) (mid : H) (between : Option (List ℕ))
      (text : List ℕ) (new : H) (after : Option (List ℕ)) →
      AreObeyed hears old before lines mid between → IsObeyed hears mid between text None new after → AreObeyed hears old before (lines ++ text ∷ []) new after
  obeyed-push old before [] mid between text new after h one =
      let there : IsObeyed hears mid before text None new after = subst (λ (said : Option (List ℕ)). IsObeyed hears mid said text None new after) h.1 one in
      (new, after, subst (λ (p : H). IsObeyed hears p before text None new after) h.0 there, (refl, refl))
  obeyed-push old before (first ∷ lines) mid between text new after h one =
      (h.0, h.1, h.2, obeyed-push h.0 h.1 lines mid between text new after h.3 one)
