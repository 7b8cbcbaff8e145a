-- What an upgrade does only once something else was done.
--
-- Our own: a master that was never told what it takes over serves nobody, and an operator that is never asked attends
-- to nothing.

use Rattle.vocabulary.specs as vocabulary
use Rattle.definitions.specs as above
use Rattle.std.specs.Prelude.{◌≡◌, ◌==◌, ◌&&◌, ◌∷◌, ⊤}
use vocabulary.Words.{refl, ℕ, Bool, true, false, not, List, [], Settings}
use vocabulary.declared.calls.Answer.TheVariants as answer
use above.Table.{Table}
use above.Calls.{Call, Adopt, Ask, Leave, Answer}
use above.Master.{Record, Upgrade, Attended, upgrade_generation}
use above.Plans.{Turn}
use above.Run.{Entry, Pattern, Ran}
use above.Claims.{is_quit, is_leave_call, run_of}

-- As long as no entry has passed the first test, none passes the second one.
abbrev pub OnlyAfter : (Entry → Bool) → (Entry → Bool) → List Entry → Type 0
OnlyAfter first second [] = ⊤
OnlyAfter first second (e ∷ entries) = (second e ≡ false) × (first e ≡ false → OnlyAfter first second entries)

---- The new master takes over before it does anything else

abbrev pub is_adopt : Call → Bool
is_adopt Adopt = true
is_adopt _ = false

abbrev pub is_adopted : Call → Answer → Bool
is_adopted Adopt answer.Adopted = true
is_adopted _ _ = false

-- the master of the image took over what it was told
abbrev pub has_adopted : ℕ → Entry → Bool
has_adopted image e = (e.by == image) && is_adopted e.call e.answer

-- any other call of the master of the image
abbrev pub acts : ℕ → Entry → Bool
acts image e = (e.by == image) && not (is_adopt e.call)

abbrev pub AdoptsFirst : Record → Ran → Type 0
AdoptsFirst r ran =
    let heir = (upgrade_generation r.generation).image in OnlyAfter (has_adopted heir) (acts heir) ran.entries

-- Whatever fails: the new master of an upgrade makes no call before it has adopted.
abbrev pub HeirsAdoptFirst : Type 0
HeirsAdoptFirst =
    (t : Table) (r : Record) (s : Settings) (turns : List Turn) (pattern : Pattern) →
    AdoptsFirst r (run_of r (Upgrade s) turns pattern t) × AdoptsFirst r (run_of r (Attended s) turns pattern t)

---- The operator of an attended upgrade is asked

abbrev pub is_go_answer : ℕ → Call → Answer → Bool
is_go_answer question (Ask n) answer.Go = n == question
is_go_answer question _ _ = false

-- the operator went on at the question
abbrev pub is_go : ℕ → Entry → Bool
is_go question e = is_go_answer question e.call e.answer

-- Nobody is told to quit before the operator went on at the first question, and no master leaves before that at the
-- second one.
pub record IsAsked (ran : Ran) : Type 0 where
  pub quits : OnlyAfter (is_go 1) (λ e. is_quit (λ g k. true) e.call) ran.entries
  pub leaves : OnlyAfter (is_go 2) (λ e. is_leave_call e.call) ran.entries

abbrev pub OperatorsAreAsked : Type 0
OperatorsAreAsked =
    (t : Table) (r : Record) (s : Settings) (turns : List Turn) (pattern : Pattern) →
    IsAsked (run_of r (Attended s) turns pattern t)

---- An example: that the operator goes back is not that it goes on

example : is_go_answer 1 (Ask 1) answer.Back ≡ false
example = refl
