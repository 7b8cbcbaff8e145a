-- What keeps an execution going.
use Rattle.std.specs.Prelude.{ℕ, Bool, true, Option, None, Some}
use Rattle.definitions.specs.Run.{Tree}
use Rattle.call_laws.specs.Lengths.{height}
use Rattle.plan_steps.specs.Woven.{answers}

-- each step of the rest has an edge for each reply; where there is no rest, so it is
abbrev pub answers_next : Option Tree → Bool
answers_next None = true
answers_next (Some tree) = answers tree

-- how many more calls there are at most
abbrev pub height_next : Option Tree → ℕ
height_next None = 0
height_next (Some tree) = height tree
