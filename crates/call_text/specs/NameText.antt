-- Texts of who exits.
use Rattle.std.specs.Prelude.{ℕ, List, ◌∷◌, ◌++◌, codes}
use Rattle.std.specs.Fmt.{decimal}
use Rattle.listener_set.specs.declared.generation.Generation.{Generation}
use Rattle.vocabulary.specs.declared.names.Name.{Name}
use Rattle.vocabulary.specs.declared.names.Name.TheVariants as name

-- image, config number and number of a worker, joined by dots
abbrev pub worker_name : Generation → ℕ → List ℕ
worker_name g nr = decimal g.image ++ 46 ∷ (decimal g.config ++ 46 ∷ decimal nr)

abbrev pub name_text : Name → List ℕ
name_text (name.Worker g nr) = codes "w" ++ worker_name g nr
name_text (name.Draining g nr) = codes "d" ++ worker_name g nr
name_text (name.Master i) = codes "m" ++ decimal i
