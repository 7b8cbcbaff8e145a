-- What is left of a plan for a walk.
use Rattle.std.specs.Prelude.{List, Option, None, Some}
use Rattle.std.specs.Option.{option_map}
use Rattle.definitions.specs.Plans.{Turn}
use Rattle.definitions.specs.Run.{Tree}
use Rattle.rollback_plan.specs.declared.cursor.Cursor.{Cursor}
use Rattle.rollback_plan.specs.Cursors.{rest_under, left_after, IsTurn}

-- the rest of the tree under turns; none where the last answer had no edge
abbrev pub rest_in : Option Cursor → List Turn → Option Tree
rest_in rest turns = option_map (λ c. rest_under c turns) rest

-- the turns that are left after a call
abbrev pub left_in : Option Cursor → List Turn → List Turn
left_in None turns = turns
left_in (Some c) turns = left_after c turns

-- a turn is the first of the turns, where both parts go on
abbrev pub IsTurnIn : Option Cursor → Turn → List Turn → Type 0
IsTurnIn None turn turns = Unit {0}
IsTurnIn (Some c) turn turns = IsTurn c turn turns
