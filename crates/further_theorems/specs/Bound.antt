-- An operator that goes back is obeyed.
--
-- Our own: an attended upgrade asks twice, and `Back` binds the rest of it.

use Rattle.vocabulary.specs as vocabulary
use Rattle.definitions.specs as above
use Rattle.std.specs.Prelude.{◌≡◌}
use vocabulary.Words.{refl, Bool, true, false, List, list_any, Settings}
use vocabulary.declared.calls.Answer.TheVariants as answer
use above.Table.{Generation, Table}
use above.Calls.{Call, Ask, Census, Answer}
use above.Master.{Record, Attended, sides_of}
use above.Plans.{Turn}
use above.Run.{Entry, Pattern, Ran, report_of}
use above.Claims.{one_then, is_quit, is_old_side, IsAccepted, run_of}

-- the operator went back
abbrev pub is_back_answer : Call → Answer → Bool
is_back_answer (Ask question) answer.Back = true
is_back_answer _ _ = false

abbrev pub is_back : Entry → Bool
is_back e = is_back_answer e.call e.answer

-- Once the operator went back no worker is told to quit any more.
abbrev pub QuitsNobodyAfter : Ran → Type 0
QuitsNobodyAfter ran = one_then is_back (λ e. is_quit (λ g k. true) e.call) ran.entries ≡ false

-- And an accepted run in which the operator went back ends on the old side.
pub record IsObeyed (t : Table) (r : Record) (s : Settings) (turns : List Turn) (pattern : Pattern)
    (ran : Ran) : Type 0 where
  pub quits : QuitsNobodyAfter ran
  pub ends :
      IsAccepted t r (Attended s) turns pattern → list_any is_back ran.entries ≡ true →
      is_old_side (report_of (sides_of r (Attended s)) ran).outcome ≡ true

abbrev pub OperatorsAreObeyed : Type 0
OperatorsAreObeyed =
    (t : Table) (r : Record) (s : Settings) (turns : List Turn) (pattern : Pattern) →
    IsObeyed t r s turns pattern (run_of r (Attended s) turns pattern t)

---- An example: an answer to another call is none

example : (g : Generation) → is_back_answer (Census g) answer.Back ≡ false
example g = refl
