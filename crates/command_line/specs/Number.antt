-- How a number is spelled.
use Rattle.std.specs.Prelude.{◌≡◌, ◌<◌, ◌^◌, ℕ, List}
use Rattle.std.specs.Fmt.{decimal}

-- the text is the decimal of a number of 32 bits, without leading zeros
abbrev pub Spells : List ℕ → ℕ → Type 0
Spells text n = (text ≡ decimal n) × (n < 2 ^ 32)
