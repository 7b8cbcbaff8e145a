-- A walk where the new master goes on until its part has ended.
use Rattle.std.proofs.Common.{◌≡◌, List, [], Option, None, Some, IfSome, IfNone, true, false, if◌then◌else◌, refl}
use Rattle.definitions.specs.Plans.{Turn, New}
use Rattle.plan_walk.specs.Path.{IsOver}
use Rattle.rollback_plan.specs.declared.cursor.Cursor.{Cursor}
use Rattle.rollback_plan.specs.Places.{is_both, without_first}
use Rattle.plan_walk.specs.declared.walk.Due.{Due}
use Rattle.plan_walk.specs.declared.walk.Walk.{Walk}
use Rattle.plan_walk.specs.Rests.{left_in}
use Rattle.plan_walk.specs.Walk.{trail_of, trail_under, AsksFor, IsDue}
use Rattle.plan_walk.proofs.TurnsUsed.{turn_read}

-- no turns are left of none
pub none_left : (rest : Option Cursor) → left_in rest [] ≡ []
none_left None = refl
none_left (Some c) = elim (is_both c.at) as (λ b. (if b then without_first [] else []) ≡ []) [ true ↦ refl | false ↦ refl ]

pub due_first : (w : Walk) (o : Option Due) → IfSome o (λ due. IsDue w New due.by due.call) → IfSome o (λ due. AsksFor (trail_of w) due.by due.call)
due_first w None h = tt
due_first w (Some due) h = h [] (turn_read w.rest New [] refl)

pub over_first : (w : Walk) (o : Option Due) → IfNone o ((turns : List Turn) → IsOver (trail_under w turns).rest) → IfNone o (IsOver (trail_of w).rest)
over_first w None h = h []
over_first w (Some due) h = tt
