-- A word that is written in pieces: its name, and each of its numbers after a space.
use Rattle.std.proofs.Common.{◌≡◌, ℕ, List, ◌∷◌, ◌++◌, Option, codes, sym, ap, ◌∙◌}
use Rattle.std.specs.Fmt.{decimal}
use Rattle.plain_text.specs.Kept.{kept}
use Rattle.plain_text.proofs.KeptTexts.{two_on, three_on}
use Rattle.control_words.specs.declared.words.Word.{Word}
use Rattle.control_words.specs.declared.words.Word.TheVariants.{Beat, Tick}
use Rattle.control_words.specs.Words.{word_name, word_text}

module _ (most : Option ℕ) (old named name : List ℕ) (word : Word) (name_is : name ≡ word_name word) (named_is : named ≡ kept most (old ++ name)) where
  pub tick_on : (now : ℕ) → word ≡ Tick now → kept most (named ++ 32 ∷ decimal now) ≡ kept most (old ++ word_text word)
  tick_on now is =
      ap (λ t. kept most (t ++ 32 ∷ decimal now)) (named_is ∙ ap (λ t. kept most (old ++ t)) (name_is ∙ ap word_name is))
      ∙ two_on most old (codes "tick") (32 ∷ decimal now)
      ∙ ap (λ w. kept most (old ++ word_text w)) (sym is)

  pub beat_on : (numbered : List ℕ) (nr now written : ℕ) → word ≡ Beat nr now → written ≡ nr →
      numbered ≡ kept most (named ++ 32 ∷ decimal written) →
      kept most (numbered ++ 32 ∷ decimal now) ≡ kept most (old ++ word_text word)
  beat_on numbered nr now written is same numbered_is =
      ap (λ t. kept most (t ++ 32 ∷ decimal now)) (numbered_is ∙ ap (λ n. kept most (named ++ 32 ∷ decimal n)) same ∙ ap (λ t. kept most (t ++ 32 ∷ decimal nr)) (named_is ∙ ap (λ t. kept most (old ++ t)) (name_is ∙ ap word_name is)))
      ∙ three_on most old (codes "beat") (32 ∷ decimal nr) (32 ∷ decimal now)
      ∙ ap (λ w. kept most (old ++ word_text w)) (sym is)
