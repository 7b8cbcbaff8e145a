-- Lives: targets that are carried out one after another, from a running master on, and what is promised of all of them
-- together.
--
-- Our own. The headline speaks of one run; here is what many runs leave, whatever fails in each.

use Rattle.std.specs.Prelude.{◌≡◌, ◌≤◌, ◌+◌, ◌-◌, ◌&&◌, ◌||◌, ◌==◌, ◌∷◌, ⊤, bytes_eq, filter, length}
use Rattle.std.specs.Prelude.{ℕ, Bool, true, not, List, [], Option, Some, None, is_some, IfSome, count_by}
use Rattle.std.specs.List.{AllByRecursion, list_any}
use Rattle.listener_set.specs.Numbers.{numbers_below, is_in, lacks}
use Rattle.vocabulary.specs.Settings.{Settings, IsInRange}
use Rattle.vocabulary.specs.declared.table.Limits.{Limits}
use Rattle.vocabulary.specs.declared.reports.Outcome.TheVariants.{Done, RolledBack, Degraded, Lost}
use Rattle.definitions.specs.Table.{Address, Table, IsSame, service, is_own, is_live_where, Service}
use Rattle.definitions.specs.Master.{Record, Target, Workers, Mend, Reopen, Reload, Upgrade, Attended, Stop, sides_of}
use Rattle.definitions.specs.Master.{has_next, want}
use Rattle.definitions.specs.Run.{Outcome, Pattern, Progress, Ran, Report, report_of}
use Rattle.definitions.specs.After.{next_record}
use Rattle.definitions.specs.Plans.{Turn}
use Rattle.definitions.specs.Claims.{IsStart, HasDescriptors, KeepsPromise, refusal_of, run_of}
use Rattle.call_laws.specs.Pieces.{quiet}
use Rattle.call_laws.specs.Start.{booted, started}
use Rattle.kernel_table.specs.Room.{IsKept}

---- Tasks, one after another

-- A target, the turns of two masters, and the pattern of failing calls and exits.
pub record Task : Type 0 where
  pub target : Target
  pub turns : List Turn
  pub pattern : Pattern

-- Its run by the master of a record, from a table on; its report; and the table and the record that it leaves.
abbrev pub run_at : Table → Record → Task → Ran
run_at t r task = run_of r task.target task.turns task.pattern t

abbrev pub reported_at : Table → Record → Task → Report
reported_at t r task = report_of (sides_of r task.target) (run_at t r task)

abbrev pub table_after : Table → Record → Task → Table
table_after t r task = (run_at t r task).last.table

abbrev pub record_left_by : Table → Record → Task → Option Record
record_left_by t r task = next_record r task.target (reported_at t r task) (table_after t r task)

-- Where a life stands between two tasks, and at its end: the table and the record, which is none after a stop. One fact
-- at each standing, and one at each task that is carried out. Once no master runs, nothing is.
abbrev pub Through : (Table → Option Record → Type 0) → (Table → Record → Task → Type 0) → Table → Option Record → List Task → Type 0
Through stands does t None tasks = stands t None
Through stands does t (Some r) [] = stands t (Some r)
Through stands does t (Some r) (task ∷ tasks) =
    stands t (Some r) × does t r task × Through stands does (table_after t r task) (record_left_by t r task) tasks

---- What is asked of a life

-- What a target asks of a record, the settings and numbers of a next generation.
abbrev pub AllowsTarget : Record → Target → Type 0
AllowsTarget r (Workers n) = n ≤ 1024
AllowsTarget r (Reload s) = IsInRange s × (has_next r.generation.config ≡ true)
AllowsTarget r (Upgrade s) = IsInRange s × ((has_next r.generation.image && has_next r.generation.config) ≡ true)
AllowsTarget r (Attended s) = IsInRange s × ((has_next r.generation.image && has_next r.generation.config) ≡ true)
AllowsTarget r (Mend overdue) = ⊤
AllowsTarget r Reopen = ⊤
AllowsTarget r (Stop quick) = ⊤

-- A task that is carried out: no executing master exits in its run. (One that is refused changes nothing, and is none
-- of a life's.)
pub record IsCarriedOut (t : Table) (r : Record) (task : Task) : Type 0 where
  pub allows : AllowsTarget r task.target
  pub spared : refusal_of r task.target task.turns task.pattern t ≡ None

-- The record is true of a table that a kernel makes, and its descriptors rise.
pub record IsStanding (t : Table) (r : Record) : Type 0 where
  pub start : IsStart t r
  pub descriptors : HasDescriptors t r
  pub kept : IsKept t

abbrev pub Anything : Table → Option Record → Type 0
Anything t state = ⊤

abbrev pub AreCarriedOut : Table → Record → List Task → Type 0
AreCarriedOut t r tasks = Through Anything IsCarriedOut t (Some r) tasks

-- A kernel that starts with settings in range, and the record of its master, stand so, however many workers run.
abbrev pub StartsStand : Type 0
StartsStand =
    (s : Settings) (wanted workers : ℕ) (limits : Limits) → IsInRange s → workers ≤ wanted → wanted ≤ 1024 → limits.descriptors ≤ 64 →
    IsStanding (booted s.listeners s.groups workers s.pid limits) (started s wanted (numbers_below workers) 100)

---- What is promised of it

-- The record of each standing is true of its table, and each run keeps the promise of the headline.
abbrev pub StaysTrue : Table → Record → List Task → Type 0
StaysTrue t r tasks =
    Through (λ u state. IfSome state (IsStanding u)) (λ u s task. KeepsPromise u s task.target (run_at u s task)) t (Some r) tasks

-- a live master holds the address on the socket
abbrev pub is_open : Address → ℕ → Table → Bool
is_open a socket t = list_any (is_live_where (λ n hs. list_any (λ h. bytes_eq h.address a && (h.socket == socket)) hs)) t.rows

-- An address that the service of each standing names: the first one, and the one that each report names.
abbrev pub IsAlwaysNamed : Address → Table → Record → List Task → Type 0
IsAlwaysNamed a t r tasks = Through (λ u state. is_some (service u a) ≡ true) (λ u s task. ⊤) t (Some r) tasks

-- it is open on the socket in every table of every run
abbrev pub IsAlwaysOpen : Address → ℕ → Table → Record → List Task → Type 0
IsAlwaysOpen a socket t r tasks =
    Through (λ u state. is_open a socket u ≡ true)
    (λ u s task. AllByRecursion (λ (p : Progress). is_open a socket p.table ≡ true) (run_at u s task).passed) t (Some r) tasks

abbrev pub StaysOpen : Table → Record → List Task → Type 0
StaysOpen t r tasks =
    (a : Address) (socket : ℕ) → IsAlwaysNamed a t r tasks → is_open a socket t ≡ true → IsAlwaysOpen a socket t r tasks

-- a tick at which these workers are overdue, no call fails and nobody exits
abbrev pub quiet_tick : List ℕ → Task
quiet_tick overdue = record { target = Mend overdue; turns = []; pattern = λ n. quiet }

-- the workers that it starts
abbrev pub to_start : Record → List ℕ → List ℕ
to_start r overdue = filter (λ k. not (is_in r.ready k) || is_in overdue k) (numbers_below r.wanted)

-- as many processes more as it starts workers
abbrev pub HasProcessesFor : Table → Record → List ℕ → Type 0
HasProcessesFor t r overdue = count_by is_own t.rows + length (to_start r overdue) ≤ t.limits.processes

-- the service of a record in full: each of the wanted workers is Ready
abbrev pub full_service : Record → Service
full_service r = want r (Mend [])

-- One such tick heals whatever is lacking: it is done, no call of it went wrong, and the service is the record's in full.
pub record IsHealed (t : Table) (r : Record) (overdue : List ℕ) : Type 0 where
  pub outcome : (reported_at t r (quiet_tick overdue)).outcome ≡ Done
  pub cause : (reported_at t r (quiet_tick overdue)).cause ≡ None
  pub service_is : IsSame (service (table_after t r (quiet_tick overdue))) (full_service r)

abbrev pub CanBeHealed : Table → Record → Type 0
CanBeHealed t r = (overdue : List ℕ) → HasProcessesFor t r overdue → IsHealed t r overdue

abbrev pub StaysHealable : Table → Record → List Task → Type 0
StaysHealable t r tasks = Through (λ u state. IfSome state (CanBeHealed u)) (λ u s task. ⊤) t (Some r) tasks

-- how many of the wanted workers are not Ready
abbrev pub missing_workers : Record → ℕ
missing_workers r = length (lacks (numbers_below r.wanted) r.ready)

-- The account of what may be lacking, once a run is done: nothing. A reopening wants no more than those that are ready:
-- it clears no account.
abbrev pub owed_when_done : ℕ → Target → ℕ
owed_when_done owed Reopen = owed
owed_when_done owed target = 0

-- The account after a run: after a way back it is what it was, and after a run that fell short what failed or was lost in
-- it is added, less the retries that it made.
abbrev pub owed_after : ℕ → Record → Target → Outcome → Progress → ℕ
owed_after owed r target Done last = owed_when_done owed target
owed_after owed r target (Degraded side shortfalls) last = owed + (last.faults + last.losses - r.retries)
owed_after owed r target RolledBack last = owed
owed_after owed r target Lost last = owed

-- What is lacking at each standing is within the account.
abbrev pub IsAccounted : ℕ → Table → Option Record → List Task → Type 0
IsAccounted owed t None tasks = ⊤
IsAccounted owed t (Some r) [] = missing_workers r ≤ owed
IsAccounted owed t (Some r) (task ∷ tasks) =
    (missing_workers r ≤ owed)
    × IsAccounted (owed_after owed r task.target (reported_at t r task).outcome (run_at t r task).last)
    (table_after t r task) (record_left_by t r task) tasks

-- LIVES. From every running state, whatever tasks are carried out one after another, and whatever fails and exits in
-- each but an executing master: the record stays true of the table; an address that every service of the life names
-- stays open on the same socket at every call; one quiet tick heals whatever is lacking; and what is lacking is no more
-- than the faults and losses since the last run that was done account for.
pub record LifeKeeps (t : Table) (r : Record) (tasks : List Task) : Type 0 where
  pub stays_true : StaysTrue t r tasks
  pub stays_open : StaysOpen t r tasks
  pub healable : StaysHealable t r tasks
  pub accounted : IsAccounted (missing_workers r) t (Some r) tasks

abbrev pub LivesKeepTheirPromise : Type 0
LivesKeepTheirPromise = (t : Table) (r : Record) (tasks : List Task) → IsStanding t r → AreCarriedOut t r tasks → LifeKeeps t r tasks
