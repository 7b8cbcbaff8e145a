-- Texts of sets of numbers.
use Rattle.std.specs.Prelude.{ℕ, ◌+◌, ◌==◌, List, [], ◌∷◌, ◌++◌, codes, if◌then◌else◌}
use Rattle.std.specs.Fmt.{decimal}

-- a run of one number, or of several
abbrev pub run_text : ℕ → ℕ → List ℕ
run_text first last = if first == last then decimal first else decimal first ++ 45 ∷ decimal last

-- the runs of ascending numbers, where one from `first` to `last` has begun
abbrev pub runs_text : ℕ → ℕ → List ℕ → List ℕ
runs_text first last [] = run_text first last
runs_text first last (n ∷ ns) =
    if n == last + 1 then runs_text first n ns else run_text first last ++ 44 ∷ runs_text n n ns

-- the maximal runs of a set in ascending order, joined by commas
abbrev pub set_text : List ℕ → List ℕ
set_text [] = codes "none"
set_text (n ∷ ns) = runs_text n n ns
