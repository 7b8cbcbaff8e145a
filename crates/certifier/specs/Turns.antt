-- The turns that entries use.
use Rattle.std.specs.Prelude.{◌≡◌, List, [], ◌∷◌, ◌++◌, replicate}
use Rattle.definitions.specs.Plans.{Turn, New}
use Rattle.theorems.specs.Apart.{Plays}
use Rattle.plan_walk.specs.declared.walk.Walk.{Walk}
use Rattle.plan_walk.specs.Walk.{left_by, IsTurnOf}
use Rattle.certifier.specs.declared.turns_used.TurnsUsed.{TurnsUsed}

-- No turn of the new master stands at the end.
abbrev pub IsTrimmed : List Turn → Type 0
IsTrimmed turns = (front : List Turn) → turns ≡ front ++ New ∷ [] → ⊥

-- the turns that were used, those of the new master at the end too
abbrev pub used_in : TurnsUsed → List Turn
used_in t = t.told ++ replicate t.late New

-- A call at this turn uses up a turn, where both masters have a step, or none: what comes behind it is left.
pub record UsesTurn (w : Walk) (turn : Turn) (old new : List Turn) : Type 0 where
  pub taken : List Turn
  pub used : new ≡ old ++ taken
  pub first : (turns : List Turn) → IsTurnOf w turn (taken ++ turns)
  pub left : (turns : List Turn) → left_by w (taken ++ turns) ≡ turns
  pub only : (one : Turn) (turns : List Turn) → IsTurnOf w turn (one ∷ turns) → Plays (one ∷ turns) taken
