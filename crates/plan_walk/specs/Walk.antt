-- What a contract sees of a walk.
use Rattle.std.specs.Prelude.{ℕ, List, []}
use Rattle.vocabulary.specs.declared.calls.Call.{Call}
use Rattle.vocabulary.specs.declared.calls.Answer.{Answer}
use Rattle.definitions.specs.Plans.{Turn}
use Rattle.definitions.specs.Master.{Sides}
use Rattle.definitions.specs.Run.{Entry}
use Rattle.plan_walk.specs.Path.{Trail, Asks, IsOver}
use Rattle.rollback_plan.specs.Bounds.{lacked_in}
use Rattle.plan_walk.specs.declared.walk.Walk.{Walk}
use Rattle.plan_walk.specs.Rests.{rest_in, left_in, IsTurnIn}

-- its trail, where the two masters take these turns
abbrev pub trail_under : Walk → List Turn → Trail
trail_under w turns = record { rest = rest_in w.rest turns; ready = w.bound.ready; lacked = lacked_in w.bound; note = w.note; cause = w.cause; made = w.made }

-- its trail, where the new master goes on until its part has ended
abbrev pub trail_of : Walk → Trail
trail_of w = trail_under w []

-- the turns that are left after a call: one is used up where both parts go on
abbrev pub left_by : Walk → List Turn → List Turn
left_by w turns = left_in w.rest turns

-- the groups of both sides
abbrev pub sides_in : Walk → Sides
sides_in w = w.sides.now

-- these are the master and the call of the step that is next
abbrev pub AsksFor : Trail → ℕ → Call → Type 0
AsksFor t by call = (answer : Answer) → Asks t.rest t.lacked (record { by = by; call = call; answer = answer })

-- a turn is the first of the turns, where both parts go on
abbrev pub IsTurnOf : Walk → Turn → List Turn → Type 0
IsTurnOf w turn turns = IsTurnIn w.rest turn turns

-- these are the master and the call of the step that is next at a turn
abbrev pub IsDue : Walk → Turn → ℕ → Call → Type 0
IsDue w turn by call = (turns : List Turn) → IsTurnOf w turn turns → AsksFor (trail_under w turns) by call

-- the entry is of the call that is due at a turn
pub record IsAsked (w : Walk) (turn : Turn) (e : Entry) : Type 0 where
  pub turns : List Turn
  pub first : IsTurnOf w turn turns
  pub asks : Asks (trail_under w turns).rest (trail_under w turns).lacked e

-- no step is next
pub record IsAtEnd (w : Walk) : Type 0 where
  pub turns : List Turn
  pub over : IsOver (trail_under w turns).rest
