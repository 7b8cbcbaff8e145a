-- Lines that a text begins with, taken in one after another.
use Rattle.std.proofs.Common.{◌≡◌, ℕ, ◌+◌, true, List, ◌∷◌, ◌++◌, Result, Ok, ap, ◌∙◌}
use Rattle.plain_text.specs.Lines.{lines_of}
use Rattle.plain_text.proofs.CutTexts.{lacks}
use Rattle.plain_text.proofs.TextLines.{lines_line}
use Rattle.lines_text.specs.declared.refusal.TextRefusal.{TextRefusal}
use Rattle.lines_text.specs.Reading.{unless_refused, reading_of}

module _ {R A : Type 0} (taken : ℕ → R → List ℕ → Result R TextRefusal) (finished : ℕ → R → Result A TextRefusal) where
  -- what is read of a text from there on, whatever the number of its first line
  abbrev pub Gives : R → List ℕ → A → Type 0
  Gives r text value = (number : ℕ) → reading_of taken finished number r (lines_of text) ≡ Ok value

  -- a line that is taken in, and what the rest gives
  pub gives_line : (r next : R) (line rest : List ℕ) (value : A) → lacks 10 line ≡ true → ((number : ℕ) → taken number r line ≡ Ok next) → Gives next rest value → Gives r (line ++ 10 ∷ rest) value
  gives_line r next line rest value one takes more number =
      ap (λ lines. reading_of taken finished number r lines) (lines_line line rest one)
      ∙ ap (λ step. unless_refused step (λ known. reading_of taken finished (number + 1) known (lines_of rest))) (takes number)
      ∙ more (number + 1)
