-- Files, one of which is written.
use Rattle.std.specs.Prelude.{ℕ, List, [], ◌∷◌, if◌then◌else◌, bytes_eq}
use Rattle.definitions.specs.Table.{FilePath, File}

-- A file's number in its place, where it is there.
abbrev pub rewritten : FilePath → ℕ → List File → List File
rewritten path owner [] = []
rewritten path owner (f ∷ files) = if bytes_eq f.path path then record { path = path; owner = owner } ∷ files else f ∷ rewritten path owner files
