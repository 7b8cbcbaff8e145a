-- Generations as texts.
use Rattle.std.specs.Prelude.{ℕ, List, ◌∷◌, ◌++◌}
use Rattle.std.specs.Fmt.{decimal}
use Rattle.listener_set.specs.declared.generation.Generation.{Generation}

-- image and config number, joined by a dot
abbrev pub generation_text : Generation → List ℕ
generation_text g = decimal g.image ++ 46 ∷ decimal g.config
