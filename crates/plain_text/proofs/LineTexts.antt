-- The first line of a text, and the lines behind it.
use Rattle.std.proofs.Common.{◌≡◌, ℕ, ◌+◌, ◌<◌, ◌==◌, false, List, [], ◌∷◌, Option, Some, None, length, refl, sym, ◌∙◌, inl, inr, arith}
use Rattle.std.specs.List.{position_or_len, before_first, after_first}
use Rattle.std.proofs.lemmas.List.{length-drop}
use Rattle.std.proofs.lemmas.Bool.{cases_Bool}
use Rattle.plain_text.specs.Cuts.{cut}
use Rattle.plain_text.proofs.CutTexts.{with_first, cut-cons, cut_parts, cut_missing}
use Rattle.plain_text.specs.Lines.{lines_of}

-- what a cut at a newline says of the lines
abbrev AreLines : List ℕ → Option (List ℕ × List ℕ) → Type 0
AreLines text None = lines_of text ≡ text ∷ []
AreLines text (Some p) = lines_of text ≡ p.0 ∷ lines_of p.1

-- a byte that is no newline before some lines
longer : (c d : ℕ) (ds : List ℕ) (o : Option (List ℕ × List ℕ)) → c == 10 ≡ false → AreLines (d ∷ ds) o → AreLines (c ∷ d ∷ ds) (with_first c o)
longer c d ds None e h = rw e (rw h refl)
longer c d ds (Some p) e h = rw e (rw h refl)

are_lines : (c : ℕ) (cs : List ℕ) → AreLines (c ∷ cs) (cut 10 (c ∷ cs))
are_lines c [] =
    elim (cases_Bool (c == 10)) [
      | inl e ↦ rw (cut-cons 10 c [], e) (rw e refl)
      | inr e ↦ rw (cut-cons 10 c [], e) (rw e refl)
    ]
are_lines c (d ∷ ds) =
    elim (cases_Bool (c == 10)) [
      | inl e ↦ rw (cut-cons 10 c (d ∷ ds), e) (rw e refl)
      | inr e ↦ rw (cut-cons 10 c (d ∷ ds), e) (longer c d ds (cut 10 (d ∷ ds)) e (are_lines d ds))
    ]

AreLines-cut : (text : List ℕ) → 0 < length text → AreLines text (cut 10 text)
AreLines-cut [] h = absurd (let none : 0 < 0 = h in omega arith)
AreLines-cut (c ∷ cs) h = are_lines c cs

-- the first line ends at the first newline, and the others stand behind it
pub lines_around : (text : List ℕ) → 0 < length text → lines_of text ≡ before_first (λ c. c == 10) text ∷ lines_of (after_first (λ c. c == 10) text)
lines_around text h = at (cut 10 text) refl (AreLines-cut text h)
  where
    at : (o : Option (List ℕ × List ℕ)) → cut 10 text ≡ o → AreLines text o → lines_of text ≡ before_first (λ c. c == 10) text ∷ lines_of (after_first (λ c. c == 10) text)
    at None e are =
        let none = cut_missing 10 text e in
        are ∙ (λ i. sym none.1 i ∷ lines_of (sym none.2 i))
    at (Some p) e are =
        let parts = cut_parts 10 text p e in
        are ∙ (λ i. parts.1 i ∷ lines_of (parts.2 i))

pub behind_shorter : (text : List ℕ) → 0 < length text → length (after_first (λ c. c == 10) text) < length text
behind_shorter text h = omega (arith, h, length-drop (position_or_len (λ c. c == 10) text + 1) text)
