-- How two masters that act side by side take turns, on real children.
use Rattle.std.specs.Prelude.{ℕ, zero, suc, ◌+◌, ◌*◌, List, [], ◌∷◌}
use Rattle.definitions.specs.Plans.{Turn, New, Old}

-- one after the other, the new master first: as many turns of each
abbrev pub in_turn : ℕ → List Turn
in_turn zero = []
in_turn (suc more) = New ∷ Old ∷ in_turn more

-- They take turns as long as the old master may have a step: a census, and in each round a fork, a wait, a kill and a census.
abbrev pub turns_by_turns : ℕ → List Turn
turns_by_turns retries = in_turn (1 + 4 * retries)
