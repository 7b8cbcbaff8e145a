-- Which transcripts are explained, and what is wrong with others.
use Rattle.std.specs.Prelude.{ℕ, ◌+◌, ◌≡◌, ◌≤◌, ◌⊎◌, true, List, [], ◌∷◌, length, take, None, is_some}
use Rattle.definitions.specs.Table.{Table}
use Rattle.definitions.specs.Master.{Record, Agrees, handover_for, sides_of}
use Rattle.vocabulary.specs.declared.targets.Target.{Target}
use Rattle.service_state.specs.Targets.{lacks_generation}
use Rattle.definitions.specs.Plans.{Turn, plan_tree}
use Rattle.call_laws.specs.Lengths.{plan_length}
use Rattle.definitions.specs.Run.{Entry, Report, Pattern}
use Rattle.plan_walk.specs.Path.{Trail, begin, trail_after, Follows, IsOver, Reports}
use Rattle.plan_executor.specs.Replays.{Replays}
use Rattle.definitions.specs.Claims.{heirs_of, refused_among}
use Rattle.kernel_model.specs.Room.{LacksNumbers}
use Rattle.plan_executor.specs.Refusals.{HasPlan}
use Rattle.certifier.specs.Shown.{moments_shown, pattern_of}
use Rattle.mismatches.specs.declared.Mismatch.{Mismatch}
use Rattle.mismatches.specs.declared.Mismatch.TheVariants as mismatch

-- The pattern that the entries of a target show.
abbrev pub pattern_shown : Table → Record → Target → List Entry → Pattern
pattern_shown t r target entries = pattern_of (moments_shown (handover_for r target) t entries)

-- how far the target's plan has come by the entries, where the masters take these turns
abbrev pub trail_by : Record → Target → List Turn → List Entry → Trail
trail_by r target turns entries = trail_after (begin (plan_tree r target turns) r.note) entries

-- the entries are a path of the target's plan under the turns
abbrev pub IsPath : Record → Target → List Turn → List Entry → Type 0
IsPath r target turns entries = Follows (begin (plan_tree r target turns) r.note) entries

-- The entries are a path of the target's plan under the turns, which has an edge for each of their answers; the kernel answers so
-- under the pattern that they show, and no executing master exits in that.
pub record IsExplainedBy (t : Table) (r : Record) (target : Target) (turns : List Turn) (entries : List Entry) : Type 0 where
  pub path : IsPath r target turns entries
  pub edges : is_some (trail_by r target turns entries).rest ≡ true
  pub last : Table
  pub replays : Replays (handover_for r target) (pattern_shown t r target entries) 0 t entries last
  pub spares : refused_among (r.generation.image ∷ []) (heirs_of r target) (pattern_shown t r target entries) 0 entries ≡ None

-- Under some turns they are.
abbrev pub IsExplained : Table → Record → Target → List Entry → Type 0
IsExplained t r target entries = (turns : List Turn) × IsExplainedBy t r target turns entries

---- What is wrong

-- The target could be carried out: the record agrees, there is a plan, and numbers suffice.
pub record IsReady (t : Table) (r : Record) (target : Target) : Type 0 where
  pub agrees : Agrees t r
  pub has_plan : HasPlan r target
  pub numbers : LacksNumbers t (plan_length r target) → ⊥

-- The record disagrees, there is no plan, or numbers are lacking.
abbrev pub IsUnready : Table → Record → Target → Type 0
IsUnready t r target = (Agrees t r → ⊥) ⊎ (lacks_generation r target ≡ true) ⊎ LacksNumbers t (plan_length r target)

-- The entries before the n-th, counted from 1, are explained, and with it they are not.
pub record IsStrange (t : Table) (r : Record) (target : Target) (entries : List Entry) (n : ℕ) : Type 0 where
  pub ready : IsReady t r target
  pub before : ℕ
  pub number : n ≡ before + 1
  pub within : n ≤ length entries
  pub explained : IsExplained t r target (take before entries)
  pub strange : IsExplained t r target (take n entries) → ⊥

-- All entries are explained, and a step is left under all turns that they are a path under.
pub record IsShort (t : Table) (r : Record) (target : Target) (entries : List Entry) : Type 0 where
  pub ready : IsReady t r target
  pub explained : IsExplained t r target entries
  pub unfinished : (turns : List Turn) → IsPath r target turns entries → IsOver (trail_by r target turns entries).rest → ⊥

-- All entries are explained; under all turns that they are a path under it is a whole one, and the report isn't its report.
pub record IsMisreported (t : Table) (r : Record) (target : Target) (entries : List Entry) (report : Report) : Type 0 where
  pub ready : IsReady t r target
  pub explained : IsExplained t r target entries
  pub over : (turns : List Turn) → IsPath r target turns entries → IsOver (trail_by r target turns entries).rest
  pub other : (turns : List Turn) → IsPath r target turns entries → Reports (sides_of r target) (trail_by r target turns entries) report → ⊥

-- When entries begin no run of the target so, want of memory aside. No two of these hold at once.
abbrev pub IsNoBeginning : Table → Record → Target → List Entry → Mismatch → Type 0
IsNoBeginning t r target entries mismatch.Refused = IsUnready t r target
IsNoBeginning t r target entries (mismatch.Step n) = IsStrange t r target entries n
IsNoBeginning t r target entries mismatch.Short = ⊥
IsNoBeginning t r target entries mismatch.Report = ⊥
IsNoBeginning t r target entries mismatch.Memory = ⊥

-- When a transcript does not match so, want of memory aside: its entries begin no run, a step is left, or the report is another.
-- No two of these hold at once.
abbrev pub IsMismatch : Table → Record → Target → List Entry → Report → Mismatch → Type 0
IsMismatch t r target entries report mismatch.Short = IsShort t r target entries
IsMismatch t r target entries report mismatch.Report = IsMisreported t r target entries report
IsMismatch t r target entries report why = IsNoBeginning t r target entries why
