-- What a worker serves by.
use Rattle.std.specs.Prelude.{Bool, false, Option, Some, None}
use Rattle.definitions.specs.Table.{Generation, same_generation}

-- whether it is that generation
abbrev pub is_generation : Option Generation → Generation → Bool
is_generation None g = false
is_generation (Some h) g = same_generation h g
