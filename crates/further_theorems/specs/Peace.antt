-- Workers that are ready when a word begins end in peace: process by process.
--
-- After Unicorn's SIGNALS: QUIT lets a worker finish its request, KILL ends one that doesn't.

use Rattle.vocabulary.specs as vocabulary
use Rattle.definitions.specs as above
use Rattle.std.specs.Prelude.{◌≡◌, ◌==◌, ◌&&◌, ◌||◌, ◌∷◌}
use vocabulary.Words.{refl, ℕ, Bool, true, false, List, [], ⊤}
use vocabulary.declared.calls.Answer.TheVariants as answer
use above.Table.{Generation, Table, Ready, Draining, bears}
use above.Calls.{Call, Kill}
use above.Master.{Record, Target, Workers, Mend, Reopen, Reload, Upgrade, Attended, Stop}
use above.Plans.{Turn}
use above.Run.{Entry, Pattern, Progress, Ran}
use above.Claims.{has_ready, is_quit, is_wait, is_leave_call, is_late, IsAccepted, run_of}
use Rattle.further_theorems.specs.Named.{is_at, Next}

abbrev pub is_kill : (Generation → ℕ → Bool) → Call → Bool
is_kill test (Kill g k) = test g k
is_kill test _ = false

-- such a call, made by the master of the image
abbrev pub is_by : ℕ → (Call → Bool) → Entry → Bool
is_by image test e = (e.by == image) && test e.call

-- what a process that drains has seen of its master: that it waited for its end, and that the process was late then
pub record Seen : Type 0 where
  pub wait : Bool
  pub late : Bool

-- after one call more, which met the process draining or not
abbrev pub seen_after : ℕ → Generation → ℕ → Bool → Entry → Seen → Seen
seen_after image g k drains e seen =
    let waits = drains && is_by image (is_wait (bears g k)) e in
    record { wait = seen.wait || waits; late = seen.late || (waits && is_late e.answer) }

-- What takes a process that drains out of the table: that its master waited for its end; a kill of its name, once it
-- was late at such a wait; or that its master leaves, after such a wait.
abbrev pub ends_gently : ℕ → Generation → ℕ → Seen → Entry → Bool
ends_gently image g k seen e =
    is_by image (is_wait (bears g k)) e
    || ((is_by image (is_kill (bears g k)) e && seen.late) || (is_by image is_leave_call e && seen.wait))

-- A call takes the process out of Ready only if its master tells its name to quit, and then the process drains; and
-- out of Draining only if it ends gently.
abbrev pub IsGentle : ℕ → ℕ → Generation → ℕ → Seen → Entry → Table → Table → Type 0
IsGentle image p g k seen e t t' =
    (is_at Ready p g k t ≡ true → is_at Ready p g k t' ≡ false →
    (is_by image (is_quit (bears g k)) e ≡ true) × (is_at Draining p g k t' ≡ true))
    × (is_at Draining p g k t ≡ true → is_at Draining p g k t' ≡ false → ends_gently image g k seen e ≡ true)

-- Each call of these entries: the tables come in pairs, and it leads from the second of its pair to the next one.
abbrev pub EndsInPeace : ℕ → ℕ → Generation → ℕ → Seen → List Entry → List Progress → Type 0
EndsInPeace image p g k seen [] passed = ⊤
EndsInPeace image p g k seen (e ∷ entries) (before ∷ middle ∷ rest) =
    Next (λ b. IsGentle image p g k seen e middle.table b.table) rest
    × EndsInPeace image p g k (seen_after image g k (is_at Draining p g k middle.table) e seen) entries rest
EndsInPeace image p g k seen _ _ = ⊥

-- So ends each process that is Ready at first: one with its own number, of the generation that runs then.
abbrev pub AllEndInPeace : Record → Table → Ran → Type 0
AllEndInPeace r first ran =
    (p k : ℕ) → has_ready first p k ≡ true →
    EndsInPeace r.generation.image p r.generation k (record { wait = false; late = false }) ran.entries ran.passed

-- Not at a mend, which kills who is overdue, nor at a quick stop, which kills all.
abbrev pub KeepsPeace : Record → Target → Table → Ran → Type 0
KeepsPeace r (Workers n) first ran = AllEndInPeace r first ran
KeepsPeace r (Mend overdue) first ran = ⊤
KeepsPeace r Reopen first ran = AllEndInPeace r first ran
KeepsPeace r (Reload s) first ran = AllEndInPeace r first ran
KeepsPeace r (Upgrade s) first ran = AllEndInPeace r first ran
KeepsPeace r (Attended s) first ran = AllEndInPeace r first ran
KeepsPeace r (Stop false) first ran = AllEndInPeace r first ran
KeepsPeace r (Stop true) first ran = ⊤

abbrev pub WorkersEndInPeace : Type 0
WorkersEndInPeace =
    (t : Table) (r : Record) (target : Target) (turns : List Turn) (pattern : Pattern) →
    IsAccepted t r target turns pattern → KeepsPeace r target t (run_of r target turns pattern t)

---- An example: a kill without a wait before it is not gentle

example :
    (g : Generation) →
    ends_gently 1 g 0 (record { wait = false; late = false })
    (record { by = 1; call = Kill g 0; answer = answer.Fine }) ≡ (bears g 0 g 0 && false) || false
example g = refl
