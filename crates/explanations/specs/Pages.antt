-- What is printed of an explanation.
use Rattle.std.specs.Prelude.{ℕ, List, [], ◌∷◌, ◌++◌, codes}
use Rattle.code_explanations.specs.declared.explanation.Explanation.{Explanation}

-- its code, and what that means
abbrev pub meaning_line : Explanation → List ℕ
meaning_line explanation = explanation.code.now ++ codes ": " ++ explanation.meaning.now ++ 10 ∷ []

-- what to do, after an empty line, where there is something
abbrev pub remedy_lines : List ℕ → List ℕ
remedy_lines [] = []
remedy_lines remedy = 10 ∷ (remedy ++ 10 ∷ [])

abbrev pub page_text : Explanation → List ℕ
page_text explanation = meaning_line explanation ++ remedy_lines explanation.remedy.now
