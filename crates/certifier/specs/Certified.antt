-- What a certified transcript is.
use Rattle.std.specs.Prelude.{ℕ, ◌≡◌, ◌≤◌, length, List, [], Option, None}
use Rattle.definitions.specs.Table.{Table}
use Rattle.definitions.specs.Master.{Record}
use Rattle.definitions.specs.Calls.{Fate}
use Rattle.vocabulary.specs.declared.targets.Target.{Target}
use Rattle.definitions.specs.Run.{Entry, Report, Pattern}
use Rattle.definitions.specs.Plans.{Turn}
use Rattle.theorems.specs.Apart.{Plays}
use Rattle.definitions.specs.Claims.{refusal_of}
use Rattle.definitions.specs.After.{next_record}
use Rattle.kernel_model.specs.Pattern.{moment_at}
use Rattle.kernel_model.specs.State.{State}
use Rattle.kernel_pattern.specs.declared.section.Section.{Section}
use Rattle.word_runner.specs.declared.enactor.Enacted.{Enacted}
use Rattle.plan_executor.specs.declared.enactment.EnactRefusal.{EnactRefusal}
use Rattle.plan_executor.specs.Refusals.{IsRefused}
use Rattle.plan_executor.specs.Enacted.{IsEnacted}
use Rattle.plan_executor.specs.Lawful.{IsWholeRun}
use Rattle.plan_executor.specs.Merged.{ActsApart}
use Rattle.certifier.specs.declared.replay.Certificate.{Certificate}
use Rattle.certifier.specs.Explained.{pattern_shown, IsPath, IsExplainedBy, IsReady}
use Rattle.certifier.specs.Turns.{IsTrimmed}

-- These are the turns that the entries use, without those of the new master at the end: whatever turns the entries are a path of
-- the target's plan under, those are these, New after their end. So none are fewer.
pub record AreTurnsOf (r : Record) (target : Target) (entries : List Entry) (turns : List Turn) : Type 0 where
  pub used : (others : List Turn) → IsPath r target others entries → Plays others turns
  pub fewest : (others : List Turn) → IsPath r target others entries → length turns ≤ length others
  pub trimmed : IsTrimmed turns

-- The target could be carried out. The section's pattern is the one that the entries show, and its turns are theirs; in it the run
-- of the target's plan has exactly these entries and this report, and no executing master exits in it. Where two masters have parts
-- of the plan, the entries are a merge of what each does in its own, by these turns.
pub record IsCertified (t : Table) (r : Record) (target : Target) (entries : List Entry) (report : Report) (section : Section) : Type 0 where
  pub ready : IsReady t r target
  pub shown : (n : ℕ) → moment_at section.pattern n ≡ pattern_shown t r target entries n
  pub turns : AreTurnsOf r target entries section.turns
  pub last : Table
  pub is_run : IsWholeRun r target section.turns (moment_at section.pattern) t entries last report
  pub spared : refusal_of r target section.turns (moment_at section.pattern) t ≡ None
  pub apart : ActsApart r target section.turns entries

-- That, and in the section the target was carried out, from this kernel to the certificate's.
pub record HasEnacted (first : State) (r : Record) (target : Target) (entries : List Entry) (report : Report) (it : Certificate) : Type 0 where
  pub certified : IsCertified first.table r target entries report it.section
  pub enacted :
      (room : ℕ) →
      IsEnacted first it.kernel r target it.section.turns (moment_at it.section.pattern)
      (record {
        log = record { entries = entries; room = room };
        report = report;
        after = next_record r target report it.kernel.table;
      })

-- The target could be carried out. The entries begin a run of it under the section's turns, and the section is the one that they
-- show.
pub record IsBeginning (t : Table) (r : Record) (target : Target) (entries : List Entry) (section : Section) : Type 0 where
  pub ready : IsReady t r target
  pub explained : IsExplainedBy t r target section.turns entries
  pub turns : AreTurnsOf r target entries section.turns
  pub shown : (n : ℕ) → moment_at section.pattern n ≡ pattern_shown t r target entries n

-- To enact the target in the section is refused for want of memory alone, and gives these entries and this report.
pub record EnactsSo (first : State) (r : Record) (target : Target) (entries : List Entry) (report : Report) (section : Section) : Type 0 where
  pub unrefused : (why : EnactRefusal) → IsRefused first.table r target section.turns (moment_at section.pattern) why → ⊥
  pub same_entries : (last : State) (e : Enacted) → IsEnacted first last r target section.turns (moment_at section.pattern) e → e.log.entries ≡ entries
  pub same_report : (last : State) (e : Enacted) → IsEnacted first last r target section.turns (moment_at section.pattern) e → e.report ≡ report

-- Nobody exits, and calls are made to fail so.
abbrev pub faults_alone : (ℕ → Option Fate) → Pattern
faults_alone fates n = record { exits = []; fate = fates n }

-- The entries and the report are those of a run of the target's plan under some turns and faults alone.
pub record IsFaultyRun (t : Table) (r : Record) (target : Target) (entries : List Entry) (report : Report) : Type 0 where
  pub turns : List Turn
  pub fates : ℕ → Option Fate
  pub last : Table
  pub is_run : IsWholeRun r target turns (faults_alone fates) t entries last report
