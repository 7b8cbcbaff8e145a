-- How far entries have come, one after another.
use Rattle.std.specs.Prelude.{ℕ, ◌≡◌, ◌≤◌, ◌<◌, ◌+◌, ◌^◌, ◌==◌, ◌∷◌, ◌++◌, true, false, List, [], is_some, if◌then◌else◌, length, take, ⊤}
use Rattle.definitions.specs.Table.{Table}
use Rattle.definitions.specs.Plans.{Turn, New}
use Rattle.theorems.specs.Apart.{Plays}
use Rattle.definitions.specs.Run.{Entry, Report}
use Rattle.call_laws.specs.Pieces.{quiet, executing_at, executing_after}
use Rattle.definitions.specs.Master.{Sides}
use Rattle.plan_walk.specs.Path.{Trail, Asks, Follows, IsOver, Reports, begin, advance, trail_after}
use Rattle.rollback_plan.specs.Following.{follow}
use Rattle.definitions.specs.Claims.{names_any}
use Rattle.definitions.specs.Calls.{Handed}
use Rattle.handover_text.specs.Reading.{handed_by}
use Rattle.rollback_plan.specs.declared.plan.Plan.{Plan}
use Rattle.rollback_plan.specs.Plans.{tree_under, note_of}
use Rattle.plan_walk.specs.Walk.{trail_under, sides_in}
use Rattle.plan_walk.specs.Fit.{height_next}
use Rattle.plan_executor.specs.Naming.{listed}
use Rattle.kernel_model.specs.Pattern.{moment_at}
use Rattle.kernel_model.specs.State.{State}
use Rattle.kernel_pattern.specs.declared.section.Section.{Section}
use Rattle.certifier.specs.declared.replay.Replay.{Replay}
use Rattle.mismatches.specs.declared.Mismatch.{Mismatch}
use Rattle.mismatches.specs.declared.Mismatch.TheVariants as mismatch
use Rattle.certifier.specs.Shown.{moment_shown, moments_shown, pattern_of, stepped_at}
use Rattle.certifier.specs.Turns.{used_in, IsTrimmed}

-- How far a transcript has come: its trail, the table, and the images of the executing masters.
pub record Place : Type 0 where
  pub trail : Trail
  pub table : Table
  pub executing : List ℕ

-- The entry is the plan's next step, which has an edge for its answer; the kernel answers so under the moment that it shows, and
-- no executing master exits in that.
pub record IsNext (handed : Handed) (heirs : List ℕ) (p : Place) (e : Entry) : Type 0 where
  pub asks : Asks p.trail.rest p.trail.lacked e
  pub edge : is_some (follow p.trail.rest e.answer) ≡ true
  pub gives : (stepped_at handed p.table (moment_shown handed p.table e) e).answer ≡ e.answer
  pub spares : names_any (executing_at e.call p.executing heirs) (moment_shown handed p.table e).exits ≡ false

abbrev pub place_after : Handed → List ℕ → Place → Entry → Place
place_after handed heirs p e = record {
  trail = advance p.trail e;
  table = (stepped_at handed p.table (moment_shown handed p.table e) e).table;
  executing = executing_after e.call p.executing heirs;
}

abbrev pub place_after_all : Handed → List ℕ → Place → List Entry → Place
place_after_all handed heirs p [] = p
place_after_all handed heirs p (e ∷ entries) = place_after_all handed heirs (place_after handed heirs p e) entries

-- Each entry is next.
abbrev pub AreNext : Handed → List ℕ → Place → List Entry → Type 0
AreNext handed heirs p [] = Unit {0}
AreNext handed heirs p (e ∷ entries) = IsNext handed heirs p e × AreNext handed heirs (place_after handed heirs p e) entries

---- Whatever turns the masters take

-- Where a transcript begins: its trail under each list of turns, the table, and the images of the executing masters.
pub record Start : Type 0 where
  pub trail : List Turn → Trail
  pub table : Table
  pub executing : List ℕ

-- the start of a transcript of a plan
abbrev pub planned_start : Plan → Table → ℕ → Start
planned_start plan t image = record { trail = λ turns. begin (tree_under plan turns) (note_of plan); table = t; executing = image ∷ [] }

abbrev pub place_at : Start → List Turn → Place
place_at from turns = record { trail = from.trail turns; table = from.table; executing = from.executing }

-- each entry is next, where the masters take these turns
abbrev pub AreNextUnder : Handed → List ℕ → Start → List Turn → List Entry → Type 0
AreNextUnder handed heirs from turns entries = AreNext handed heirs (place_at from turns) entries

-- where entries lead under turns
abbrev pub place_under : Handed → List ℕ → Start → List Turn → List Entry → Place
place_under handed heirs from turns entries = place_after_all handed heirs (place_at from turns) entries

-- the trail to which they lead
abbrev pub trail_to : Start → List Turn → List Entry → Trail
trail_to from turns entries = trail_after (from.trail turns) entries

-- under turns the entries are a path
abbrev pub IsPathUnder : Start → List Turn → List Entry → Type 0
IsPathUnder from turns entries = Follows (from.trail turns) entries

-- The entries use these turns: whatever turns they are a path under, those are these, New after their end.
abbrev pub UseTurns : Start → List Entry → List Turn → Type 0
UseTurns from entries used = (turns : List Turn) → IsPathUnder from turns entries → Plays turns used

-- A turn of New behind the others changes nothing.
abbrev pub IsSteady : Start → Type 0
IsSteady from = (turns : List Turn) → from.trail (turns ++ New ∷ []) ≡ from.trail turns

---- The replay

-- how far a replay has come, where the masters take these turns from there on
abbrev pub place_of : Replay → List Turn → Place
place_of x turns = record { trail = trail_under x.walk turns; table = x.kernel.table; executing = listed x.executing }

abbrev pub start_of : Replay → Start
start_of x = record { trail = trail_under x.walk; table = x.kernel.table; executing = listed x.executing }

-- the entry is next under some turns
abbrev pub IsNextFor : Replay → Entry → Type 0
IsNextFor x e = (turns : List Turn) × IsNext (handed_by x.text.now) (listed x.heir) (place_of x turns) e

-- There is room for each step that is left, and the moments to come are quiet.
pub record HasRoom (x : Replay) : Type 0 where
  pub calls : (turns : List Turn) → height_next (trail_under x.walk turns).rest ≤ x.kernel.room
  pub countable : x.number + x.kernel.room < 2 ^ 32
  pub uncounted : x.turns.late ≤ x.number
  pub later : (n : ℕ) → x.number < n → moment_at x.pattern n ≡ quiet

-- The replay has come one entry further, which has used a turn or none. Under this turn it is next, whatever turns come then, and
-- its call is asked for under no other.
pub record IsTaken (old : Replay) (e : Entry) (new : Replay) : Type 0 where
  pub room : HasRoom new
  pub text : new.text.now ≡ old.text.now
  pub heir : new.heir ≡ old.heir
  pub sides : sides_in new.walk ≡ sides_in old.walk
  pub number : new.number ≡ old.number + 1
  pub trimmed : IsTrimmed old.turns.told → IsTrimmed new.turns.told
  pub taken : List Turn
  pub used : used_in new.turns ≡ used_in old.turns ++ taken
  pub next : (turns : List Turn) → IsNext (handed_by old.text.now) (listed old.heir) (place_of old (taken ++ turns)) e
  pub only : (one : Turn) (turns : List Turn) →
      Asks (trail_under old.walk (one ∷ turns)).rest (trail_under old.walk (one ∷ turns)).lacked e →
      Plays (one ∷ turns) taken
  pub place : (turns : List Turn) → place_of new turns ≡ place_after (handed_by old.text.now) (listed old.heir) (place_of old (taken ++ turns)) e
  pub pattern : (n : ℕ) → moment_at new.pattern n
      ≡ (if n == old.number + 1 then moment_shown (handed_by old.text.now) old.kernel.table e
      else moment_at old.pattern n)

-- The replay has come from a start by these entries, each of which is next under the turns that they have used, whatever turns come
-- then.
pub record HasTaken (handed : Handed) (heirs : List ℕ) (sides : Sides) (from : Start) (entries : List Entry) (x : Replay) : Type 0 where
  pub steady : IsSteady from
  pub room : HasRoom x
  pub handed_is : handed_by x.text.now ≡ handed
  pub heirs_are : listed x.heir ≡ heirs
  pub sides_are : sides_in x.walk ≡ sides
  pub number : x.number ≡ length entries
  pub trimmed : IsTrimmed x.turns.told
  pub next : (turns : List Turn) → AreNextUnder handed heirs from (used_in x.turns ++ turns) entries
  pub only : UseTurns from entries (used_in x.turns)
  pub place : (turns : List Turn) → place_of x turns ≡ place_under handed heirs from (used_in x.turns ++ turns) entries
  pub pattern : (n : ℕ) → moment_at x.pattern n ≡ pattern_of (moments_shown handed from.table entries) n

-- The replay is at an end of the plan, the report is its report, and the section is what it has shown.
pub record EndsWell (x : Replay) (report : Report) (section : Section) : Type 0 where
  pub pattern : section.pattern ≡ x.pattern
  pub turns : section.turns ≡ x.turns.told
  pub over : (turns : List Turn) → IsOver (trail_under x.walk turns).rest
  pub reports : (turns : List Turn) → Reports (sides_in x.walk) (trail_under x.walk turns) report

-- It is at no end, or the report is another.
abbrev pub EndsBadly : Replay → Report → Mismatch → Type 0
EndsBadly x report mismatch.Short = (turns : List Turn) → IsOver (trail_under x.walk turns).rest → ⊥
EndsBadly x report mismatch.Report =
    ((turns : List Turn) → IsOver (trail_under x.walk turns).rest) × ((turns : List Turn) → Reports (sides_in x.walk) (trail_under x.walk turns) report → ⊥)
EndsBadly x report _ = ⊥

---- All entries

-- These are the turns that the entries use, without those of the new master at the end.
pub record AreShown (from : Start) (entries : List Entry) (turns : List Turn) : Type 0 where
  pub used : UseTurns from entries turns
  pub trimmed : IsTrimmed turns

-- The entries before the n-th, counted from 1, are next one after another under some turns, and with it they are so under none.
pub record StopsAt (handed : Handed) (heirs : List ℕ) (from : Start) (entries : List Entry) (n : ℕ) : Type 0 where
  pub before : ℕ
  pub number : n ≡ before + 1
  pub within : n ≤ length entries
  pub turns : List Turn
  pub next : AreNextUnder handed heirs from turns (take before entries)
  pub stops : (others : List Turn) → AreNextUnder handed heirs from others (take n entries) → ⊥

-- All entries are next one after another under the section's turns, and the section is what they show.
pub record Shows (handed : Handed) (heirs : List ℕ) (from : Start) (entries : List Entry) (section : Section) : Type 0 where
  pub next : AreNextUnder handed heirs from section.turns entries
  pub turns : AreShown from entries section.turns
  pub shown : (n : ℕ) → moment_at section.pattern n ≡ pattern_of (moments_shown handed from.table entries) n

-- The same, then the path is over, and the report is its report.
pub record Holds (handed : Handed) (heirs : List ℕ) (sides : Sides) (from : Start) (entries : List Entry) (report : Report) (section : Section) : Type 0 where
  pub shows : Shows handed heirs from entries section
  pub over : IsOver (trail_to from section.turns entries).rest
  pub reports : Reports sides (trail_to from section.turns entries) report

-- The kernel is as these entries leave it, and has room for the calls that are left of so many.
pub record IsLed (handed : Handed) (heirs : List ℕ) (calls : ℕ) (from : Place) (entries : List Entry) (k : State) : Type 0 where
  pub table : k.table ≡ (place_after_all handed heirs from entries).table
  pub room : k.room + length entries ≡ calls

-- All entries are next one after another under some turns, and under none that they are a path under is that over.
pub record StopsShort (handed : Handed) (heirs : List ℕ) (from : Start) (entries : List Entry) : Type 0 where
  pub turns : List Turn
  pub next : AreNextUnder handed heirs from turns entries
  pub left : (others : List Turn) → IsPathUnder from others entries → IsOver (trail_to from others entries).rest → ⊥

-- All entries are next one after another under some turns; under all that they are a path under it is over then, and the report is
-- another.
pub record ReportsOther (handed : Handed) (heirs : List ℕ) (sides : Sides) (from : Start) (entries : List Entry) (report : Report) : Type 0 where
  pub turns : List Turn
  pub next : AreNextUnder handed heirs from turns entries
  pub over : (others : List Turn) → IsPathUnder from others entries → IsOver (trail_to from others entries).rest
  pub other : (others : List Turn) → IsPathUnder from others entries → Reports sides (trail_to from others entries) report → ⊥

-- Why entries are not next one after another from a start on. Want of memory may come at any time.
abbrev pub StopsBy : Handed → List ℕ → Start → List Entry → Mismatch → Type 0
StopsBy handed heirs from entries mismatch.Refused = ⊥
StopsBy handed heirs from entries (mismatch.Step n) = StopsAt handed heirs from entries n
StopsBy handed heirs from entries mismatch.Short = ⊥
StopsBy handed heirs from entries mismatch.Report = ⊥
StopsBy handed heirs from entries mismatch.Memory = ⊤

-- Why entries and a report do not hold from a start on: the entries stop, a step is left, or the report is another.
abbrev pub FailsBy : Handed → List ℕ → Sides → Start → List Entry → Report → Mismatch → Type 0
FailsBy handed heirs sides from entries report mismatch.Short = StopsShort handed heirs from entries
FailsBy handed heirs sides from entries report mismatch.Report = ReportsOther handed heirs sides from entries report
FailsBy handed heirs sides from entries report why = StopsBy handed heirs from entries why
