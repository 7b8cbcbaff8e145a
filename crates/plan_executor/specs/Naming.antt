-- Whose exit is asked about.
use Rattle.std.specs.Prelude.{ℕ, ◌==◌, Bool, false, List, [], ◌∷◌, Option, Some, None}
use Rattle.vocabulary.specs.declared.names.Name.{Name}
use Rattle.vocabulary.specs.declared.names.Name.TheVariants as name

-- It is the exit of the master of the image.
abbrev pub is_exit_of : ℕ → Name → Bool
is_exit_of image (name.Master i) = image == i
is_exit_of image (name.Worker g k) = false
is_exit_of image (name.Draining g k) = false

-- the image, where there is one
abbrev pub listed : Option ℕ → List ℕ
listed None = []
listed (Some image) = image ∷ []
