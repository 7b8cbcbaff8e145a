-- Texts and their lines.
use Rattle.std.proofs.Common.{◌≡◌, ℕ, ◌==◌, eqb, ◌⊎◌, Bool, true, false, cond, not, List, [], ◌∷◌, ◌++◌, refl, sym, ap, ◌∙◌, inl, inr, arith}
use Rattle.std.proofs.lemmas.Bool.Decides.{nat_tests}
use Rattle.plain_text.proofs.NumberTextLemmas.{both}
use Rattle.plain_text.proofs.CutTexts.{lacks}
use Rattle.plain_text.specs.Lines.{onto_first, lines_of}

-- lines, each with its newline
abbrev pub ended_lines : List (List ℕ) → List ℕ
ended_lines [] = []
ended_lines (line ∷ lines) = (line ++ 10 ∷ []) ++ ended_lines lines

-- ---- the text of the lines of a text: it has the newline that the text may lack
abbrev IsEnded : List ℕ → Type 0
IsEnded text = (text ≡ ended_lines (lines_of text)) ⊎ (text ++ 10 ∷ [] ≡ ended_lines (lines_of text))

longer : (c d : ℕ) (ds : List ℕ) → ended_lines (onto_first c (lines_of (d ∷ ds))) ≡ c ∷ ended_lines (lines_of (d ∷ ds))
longer c d ds = at (d == 10) (lines_of ds)
  where
    at : (b : Bool) (lines : List (List ℕ)) → ended_lines (onto_first c (cond b ([] ∷ lines) (onto_first d lines))) ≡ c ∷ ended_lines (cond b ([] ∷ lines) (onto_first d lines))
    at true lines = refl
    at false [] = refl
    at false (line ∷ lines) = refl

byte_is : (c : ℕ) → (c == 10) ≡ true → c ≡ 10
byte_is c h = let test : eqb c 10 ≡ true = h in grind (arith, nat_tests)

pub lines_ended : (text : List ℕ) → (text ≡ ended_lines (lines_of text)) ⊎ (text ++ 10 ∷ [] ≡ ended_lines (lines_of text))
lines_ended [] = inl refl
lines_ended (c ∷ []) = at (c == 10) refl
  where
    at : (b : Bool) → (c == 10) ≡ b → (c ∷ [] ≡ ended_lines (cond b ([] ∷ []) ((c ∷ []) ∷ []))) ⊎ (c ∷ 10 ∷ [] ≡ ended_lines (cond b ([] ∷ []) ((c ∷ []) ∷ [])))
    at true e = inl (ap (λ x. x ∷ []) (byte_is c e))
    at false e = inr refl
lines_ended (c ∷ d ∷ ds) = at (c == 10) refl (lines_ended (d ∷ ds))
  where
    rest : List (List ℕ)
    rest = lines_of (d ∷ ds)

    at : (b : Bool) → (c == 10) ≡ b → IsEnded (d ∷ ds) → (c ∷ d ∷ ds ≡ ended_lines (cond b ([] ∷ rest) (onto_first c rest))) ⊎ ((c ∷ d ∷ ds) ++ 10 ∷ [] ≡ ended_lines (cond b ([] ∷ rest) (onto_first c rest)))
    at true e (inl h) = inl (λ i. byte_is c e i ∷ h i)
    at true e (inr h) = inr (λ i. byte_is c e i ∷ h i)
    at false e (inl h) = inl (ap (λ t. c ∷ t) h ∙ sym (longer c d ds))
    at false e (inr h) = inr (ap (λ t. c ∷ t) h ∙ sym (longer c d ds))

-- ---- the lines of a text that was written
other : (c : ℕ) (cs : List ℕ) → lacks 10 (c ∷ cs) ≡ true → ((c == 10) ≡ false) × (lacks 10 cs ≡ true)
other c cs h = at (c == 10) refl (both (not (c == 10)) (lacks 10 cs) h)
  where
    at : (t : Bool) → (c == 10) ≡ t → (not (c == 10) ≡ true) × (lacks 10 cs ≡ true) → ((c == 10) ≡ false) × (lacks 10 cs ≡ true)
    at true e k = let no : not true ≡ true = ap not (sym e) ∙ k.0 in cc
    at false e k = (e, k.1)

pub lines_line : (line rest : List ℕ) → lacks 10 line ≡ true → lines_of (line ++ 10 ∷ rest) ≡ line ∷ lines_of rest
lines_line [] rest h = refl
lines_line (c ∷ cs) rest h =
    let apart = other c cs h in
    ap (λ b. cond b ([] ∷ lines_of (cs ++ 10 ∷ rest)) (onto_first c (lines_of (cs ++ 10 ∷ rest)))) apart.0
    ∙ ap (onto_first c) (lines_line cs rest apart.1)

-- a last line without its newline
last_line : (c : ℕ) (cs : List ℕ) → lacks 10 (c ∷ cs) ≡ true → lines_of (c ∷ cs) ≡ (c ∷ cs) ∷ []
last_line c [] h = ap (λ b. cond b ([] ∷ []) ((c ∷ []) ∷ [])) (other c [] h).0
last_line c (d ∷ ds) h =
    let apart = other c (d ∷ ds) h in
    ap (λ b. cond b ([] ∷ lines_of (d ∷ ds)) (onto_first c (lines_of (d ∷ ds)))) apart.0
    ∙ ap (onto_first c) (last_line d ds apart.1)

pub lines_lack : (front : List ℕ) (c : ℕ) (cs : List ℕ) → lacks 10 (c ∷ cs) ≡ true → lines_of (front ++ (c ∷ cs)) ≡ lines_of (front ++ ((c ∷ cs) ++ 10 ∷ []))
lines_lack [] c cs h = last_line c cs h ∙ sym (lines_line (c ∷ cs) [] h)
lines_lack (x ∷ xs) c cs h = ap (λ lines. cond (x == 10) ([] ∷ lines) (onto_first x lines)) (lines_lack xs c cs h)
