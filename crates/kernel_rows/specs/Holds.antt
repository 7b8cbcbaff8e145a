-- Holds by the numbers of their sockets.
use Rattle.std.specs.Prelude.{ℕ, ◌-◌, List, [], map, slice_index_or}
use Rattle.definitions.specs.Table.{Address, Hold}

-- socket n is of the n-th address
abbrev pub address_of : List Address → ℕ → Address
address_of addresses socket = slice_index_or addresses (socket - 1) []

abbrev pub seen_hold : List Address → ℕ × ℕ → Hold
seen_hold addresses pair = record { fd = pair.0; socket = pair.1; address = address_of addresses pair.1 }

abbrev pub seen_holds : List Address → List (ℕ × ℕ) → List Hold
seen_holds addresses pairs = map (seen_hold addresses) pairs
