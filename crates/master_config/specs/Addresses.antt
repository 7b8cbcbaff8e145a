-- Which addresses are paths.
use Rattle.std.specs.Prelude.{ℕ, ◌==◌, Bool, false, List, [], ◌∷◌}

-- it begins with a slash
abbrev pub is_path : List ℕ → Bool
is_path [] = false
is_path (c ∷ cs) = c == 47
