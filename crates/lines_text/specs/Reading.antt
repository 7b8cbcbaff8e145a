-- What a text says that is read line by line.
use Rattle.std.specs.Prelude.{ℕ, ◌+◌, List, [], ◌∷◌, Result, Ok, Err}
use Rattle.lines_text.specs.declared.refusal.TextRefusal.{TextRefusal}

-- how reading goes on, unless it ends with a refusal
abbrev pub unless_refused : {R A : Type 0} → Result R TextRefusal → (R → Result A TextRefusal) → Result A TextRefusal
unless_refused (Err e) rest = Err e
unless_refused (Ok r) rest = rest r

-- what the lines say, the first of which has this number: each adds to what is known, up to the first that is refused
abbrev pub reading_of : {R A : Type 0} → (ℕ → R → List ℕ → Result R TextRefusal) → (ℕ → R → Result A TextRefusal) → ℕ → R → List (List ℕ) → Result A TextRefusal
reading_of taken finished number r [] = finished number r
reading_of taken finished number r (line ∷ lines) = unless_refused (taken number r line) (λ next. reading_of taken finished (number + 1) next lines)
