-- A walk by given turns.
use Rattle.std.proofs.Common.{◌≡◌, List, [], Option, None, Some, IfSome, IfNone, refl}
use Rattle.definitions.specs.Plans.{Turn}
use Rattle.plan_walk.specs.Path.{IsOver}
use Rattle.rollback_plan.specs.declared.cursor.Cursor.{Cursor}
use Rattle.rollback_plan.specs.Places.{turn_of}
use Rattle.plan_walk.specs.declared.walk.Due.{Due}
use Rattle.plan_walk.specs.declared.walk.Walk.{Walk}
use Rattle.plan_walk.specs.Rests.{rest_in}
use Rattle.plan_walk.specs.Walk.{trail_under, AsksFor, IsDue}
use Rattle.plan_walk.proofs.TurnsUsed.{turn_read}

pub due_given : (w : Walk) (turn : Turn) (turns : List Turn) (o : Option Due) → turn ≡ turn_of turns →
    IfSome o (λ due. IsDue w turn due.by due.call) → IfSome o (λ due. AsksFor (trail_under w turns) due.by due.call)
due_given w turn turns None is h = tt
due_given w turn turns (Some due) is h = h turns (turn_read w.rest turn turns is)

pub over_given : (w : Walk) (turns : List Turn) (o : Option Due) →
    IfNone o ((turns : List Turn) → IsOver (trail_under w turns).rest) → IfNone o (IsOver (trail_under w turns).rest)
over_given w turns None h = h turns
over_given w turns (Some due) h = tt

-- nothing is left by no turns, where nothing is by these
pub none_given : (rest : Option Cursor) (turns : List Turn) → rest_in rest turns ≡ None → rest_in rest [] ≡ None
none_given None turns none = refl
none_given (Some c) turns none = cc
