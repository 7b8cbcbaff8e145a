-- What the run of a plan keeps, and how it ends: the headline, which is at the end.
--
-- Our own; the manner is after Unicorn's SIGNALS: QUIT lets a worker finish its request, KILL ends one that doesn't.

use Rattle.vocabulary.specs as vocabulary
use Rattle.definitions.specs as above
use Rattle.std.specs.Prelude.{◌≡◌, ◌≤◌, ◌+◌, ◌&&◌, ◌||◌, ◌==◌, ◌∷◌, ◌++◌, ◌⊎◌, if◌then◌else◌}
use vocabulary.Words.{refl, map, ℕ, min, sum, nat_lt, Bool, true, false, not, List, [], length, Option, Some, None, ⊤}
use vocabulary.Words.{is_some, option_map, IfSome, count_by, bytes_eq, list_any, AllByRecursion, IsRising, RisesFrom}
use vocabulary.Words.{is_in, has, numbers_below, Settings, IsInRange}
use vocabulary.declared.names.Name.TheVariants as name
use vocabulary.declared.calls.Answer.TheVariants as answer
use vocabulary.declared.reports.Outcome.TheVariants as outcome
use vocabulary.declared.plans.Side.TheVariants as side
use above.Table.{FilePath, owner_at, is_own, Address, Generation, same_generation, bears, Table, number_of, same_stance}
use above.Table.{Ready, is_serving, IsFormed, Service, is_live_where, service, IsSame, is_worker_where}
use above.Calls.{is_active_worker, Name, Call, Quit, Kill, AwaitGone, RemovePid, Leave, Usr1, Answer}
use above.Master.{Listener, Layout, short_at, Record, IsRecord, Agrees, layout_of, PidNote, Left, NoFile, oldbin}
use above.Master.{has_next, Target, Workers, Mend, Reopen, Reload, Upgrade, Attended, Stop, want, wanted_at}
use above.Master.{layout_wanted, sides_of, upgrade_generation, handover_for}
use above.After.{next_record}
use above.Plans.{Turn, plan_tree}
use above.Run.{Report, Outcome, Entry, Progress, Ran, report_of, run_with, Pattern, faults_since, start_at}

---- Which processes a run leaves alone, and which it ends only after they were asked to end

-- the process with the number is a Ready worker with the worker number
abbrev pub has_ready : Table → ℕ → ℕ → Bool
has_ready t p k = list_any (is_worker_where (same_stance Ready) (λ n. n == p) (λ g j. j == k)) t.rows

-- A process is a loss where the exits of a moment end it while it is Starting or Ready. The tables of a run come in
-- pairs, before and after the exits of a moment, and the last one.
abbrev pub is_lost : ℕ → List Progress → Bool
is_lost p (before ∷ middle ∷ rest) =
    let is_active_in = λ (t : Table). list_any (λ row. is_active_worker row && (number_of row == p)) t.rows in
    (is_active_in before.table && not (is_active_in middle.table)) || is_lost p rest
is_lost p _ = false

-- Each process that is Ready at first, of these worker numbers, is Ready at the end or is a loss.
abbrev pub Stays : Table → (ℕ → Bool) → Ran → Type 0
Stays first stays ran =
    (p k : ℕ) → has_ready first p k ≡ true → stays k ≡ true →
    (has_ready ran.last.table p k ≡ true) ⊎ (is_lost p ran.passed ≡ true)

-- No process that was Ready at first, of these worker numbers, is in the last table.
abbrev pub Goes : Table → (ℕ → Bool) → Ran → Type 0
Goes first goes ran =
    (p k : ℕ) → has_ready first p k ≡ true → goes k ≡ true →
    list_any (λ row. number_of row == p) ran.last.table.rows ≡ false

-- a call to quit, or a wait for an end, of a name that passes the test
abbrev pub is_quit : (Generation → ℕ → Bool) → Call → Bool
is_quit test (Quit g k) = test g k
is_quit test _ = false

abbrev pub is_wait : (Generation → ℕ → Bool) → Call → Bool
is_wait test (AwaitGone g k) = test g k
is_wait test _ = false

abbrev pub is_usr1_of : Generation → ℕ → Call → Bool
is_usr1_of g k (Usr1 h j) = bears g k h j
is_usr1_of g k _ = false

abbrev pub is_leave_call : Call → Bool
is_leave_call Leave = true
is_leave_call _ = false

abbrev pub is_late : Answer → Bool
is_late answer.Late = true
is_late _ = false

-- an entry that passes the first test, and a later one that passes the second
abbrev pub one_then : (Entry → Bool) → (Entry → Bool) → List Entry → Bool
one_then first second [] = false
one_then first second (e ∷ entries) = (first e && list_any second entries) || one_then first second entries

-- the worker was told to quit, and was late at a wait for its end
abbrev pub was_late : Generation → ℕ → List Entry → Bool
was_late g k entries =
    one_then (λ e. is_quit (bears g k) e.call) (λ e. is_wait (bears g k) e.call && is_late e.answer) entries

-- If a process that was Ready at first bears a kill's name, that name was told to quit and was late before.
abbrev pub IsKillDue : Table → List Entry → Call → Table → Type 0
IsKillDue first before (Kill g k) t =
    (p j : ℕ) → has_ready first p j ≡ true →
    list_any (is_worker_where (λ s. true) (λ n. n == p) (bears g k)) t.rows ≡ true → was_late g k before ≡ true
IsKillDue first before _ t = ⊤

-- Each kill among these entries is due. The tables come in pairs: a call meets the second of its pair.
abbrev pub KillsAreDue : Table → List Entry → List Entry → List Progress → Type 0
KillsAreDue first before (e ∷ entries) (p ∷ middle ∷ rest) =
    IsKillDue first before e.call middle.table × KillsAreDue first (before ++ e ∷ []) entries rest
KillsAreDue first before [] passed = ⊤
KillsAreDue first before _ _ = ⊥

abbrev pub KillsOnlyLate : Table → Ran → Type 0
KillsOnlyLate first ran = KillsAreDue first [] ran.entries ran.passed

-- the entries before a Leave, where there is one
abbrev pub before_leave : List Entry → Option (List Entry)
before_leave [] = None
before_leave (e ∷ entries) =
    if is_leave_call e.call then Some [] else option_map (λ before. e ∷ before) (before_leave entries)

-- Before a Leave, each number that was ready was told to quit and waited for.
abbrev pub LeavesLast : Record → Ran → Type 0
LeavesLast r ran =
    let told = λ (k : ℕ) (e : Entry). is_quit (bears r.generation k) e.call in
    let awaited = λ (k : ℕ) (e : Entry). is_wait (bears r.generation k) e.call in
    IfSome (before_leave ran.entries)
    (λ before. AllByRecursion (λ k. one_then (told k) (awaited k) before ≡ true) r.ready)

---- The manner of each target

abbrev pub is_old_side : Outcome → Bool
is_old_side outcome.RolledBack = true
is_old_side (outcome.Degraded side.Old shortfalls) = true
is_old_side _ = false

-- An upgrade that comes back leaves all workers, unless it waited for some worker to be gone.
abbrev pub UpgradeManner : Record → Outcome → Table → Ran → Type 0
UpgradeManner r end first ran =
    let waited = list_any (λ e. is_wait (λ g k. true) e.call) ran.entries in
    (is_old_side end ≡ true → waited ≡ false → Stays first (λ k. true) ran) × KillsOnlyLate first ran × LeavesLast r ran

-- A reload that comes back leaves each worker but those that it waited for to be gone.
abbrev pub ReloadManner : Record → Outcome → Table → Ran → Type 0
ReloadManner r end first ran =
    let waited = λ (k : ℕ). list_any (λ e. is_wait (bears r.generation k) e.call) ran.entries in
    (is_old_side end ≡ true → Stays first (λ k. not (waited k)) ran) × KillsOnlyLate first ran

-- A change of the number of workers leaves those alone whose number stays, and all on the old side; a mend leaves all
-- that aren't overdue, and ends the others; a reopening leaves and tells all; a reload is as above.
-- Outside a mend and a quick stop one that was Ready at first is killed only after it was told to quit and was late;
-- before a master leaves in peace its workers were told to quit and waited for; at a quick stop none is told to quit.
abbrev pub Manner : Record → Target → Outcome → Table → Ran → Type 0
Manner r (Workers n) end first ran = Stays first (λ k. is_old_side end || nat_lt k n) ran × KillsOnlyLate first ran
Manner r (Mend overdue) end first ran = Stays first (λ k. not (is_in overdue k)) ran × Goes first (is_in overdue) ran
Manner r Reopen end first ran =
    Stays first (λ k. true) ran
    × AllByRecursion (λ k. list_any (λ e. is_usr1_of r.generation k e.call) ran.entries ≡ true) r.ready
    × KillsOnlyLate first ran
Manner r (Reload s) end first ran = ReloadManner r end first ran
Manner r (Upgrade s) end first ran = UpgradeManner r end first ran
Manner r (Attended s) end first ran = UpgradeManner r end first ran
Manner r (Stop false) end first ran = KillsOnlyLate first ran × LeavesLast r ran
Manner r (Stop true) end first ran = list_any (λ e. is_quit (λ g k. true) e.call) ran.entries ≡ false

---- Where a run starts

-- The record agrees with a table of the kernel's, and its values are in range.
pub record IsStart (t : Table) (r : Record) : Type 0 where
  pub formed : IsFormed t
  pub agrees : Agrees t r
  pub record_in_range : IsRecord r
  pub rising : IsRising r.ready

---- Which patterns are refused

-- One of the processes that exit is the master of one of the images.
abbrev pub names_any : List ℕ → List Name → Bool
names_any images [] = false
names_any images (name.Master i ∷ es) = is_in images i || names_any images es
names_any images (e ∷ es) = names_any images es

-- Of these calls, which follow the n-th, the first at whose moment an executing master exits. A master that leaves is
-- executing up to and at its Leave, and its heir from then on.
abbrev pub refused_among : List ℕ → List ℕ → Pattern → ℕ → List Entry → Option ℕ
refused_among executing heirs pattern n [] = None
refused_among executing heirs pattern n (e ∷ entries) =
    let leaves = is_leave_call e.call in
    if names_any (if leaves then executing ++ heirs else executing) (pattern (n + 1)).exits then Some (n + 1)
    else refused_among (if leaves then heirs else executing) heirs pattern (n + 1) entries

-- An upgrade's new master takes over.
abbrev pub heirs_of : Record → Target → List ℕ
heirs_of r (Upgrade s) = (upgrade_generation r.generation).image ∷ []
heirs_of r (Attended s) = (upgrade_generation r.generation).image ∷ []
heirs_of r _ = []

-- The run of a target's plan under the turns.
abbrev pub run_of : Record → Target → List Turn → Pattern → Table → Ran
run_of r target turns pattern t =
    run_with (handover_for r target) (plan_tree r target turns) pattern (start_at t r.note)

-- The first moment of the run in which an executing master exits: a pattern with such a moment is refused, with its
-- number. Moments after the run's end aren't looked at.
abbrev pub refusal_of : Record → Target → List Turn → Pattern → Table → Option ℕ
refusal_of r target turns pattern t =
    refused_among (r.generation.image ∷ []) (heirs_of r target) pattern 0 (run_of r target turns pattern t).entries

---- How it ends

-- One generation has m workers fewer, and each other as many.
abbrev pub IsFewerAt : ℕ → Option (Generation → ℕ) → Option (Generation → ℕ) → Type 0
IsFewerAt m None None = ⊤
IsFewerAt m (Some full) (Some less) =
    (g : Generation) × (full g ≡ less g + m) × ((h : Generation) → same_generation h g ≡ false → full h ≡ less h)
IsFewerAt m _ _ = ⊥

-- One service (`less`) is the other (`full`) less the shortfalls of its groups, each where the group listens. There is
-- one for each group, and one of them is at least 1.
abbrev pub FallsShort : Layout → List ℕ → Service → Service → Type 0
FallsShort layout shortfalls full less =
    (length shortfalls ≡ length layout.groups) × (1 ≤ sum shortfalls)
    × ((a : Address) → IsFewerAt (short_at layout shortfalls a) (full a) (less a))

-- What an outcome says of the last table: Done, the target's service; RolledBack, the one of the first table;
-- Degraded, that side's less the named shortfalls. Lost never comes.
abbrev pub Says : Record → Target → Outcome → Table → Table → Type 0
Says r target outcome.Done first last = IsSame (service last) (want r target)
Says r target outcome.RolledBack first last = IsSame (service last) (service first)
Says r target (outcome.Degraded side.Old shortfalls) first last =
    FallsShort (layout_of r) shortfalls (service first) (service last)
Says r target (outcome.Degraded side.Target shortfalls) first last =
    FallsShort (layout_wanted r target) shortfalls (want r target) (service last)
Says r target outcome.Lost first last = ⊥

-- The record that the report leaves agrees with the last table, and its values are in range. Its note says what the
-- files are. Where its image is the old one, its master is the old master.
pub record AgreesAfter (r : Record) (target : Target) (report : Report) (t : Table) : Type 0 where
  pub record_then : Record
  pub is : next_record r target report t ≡ Some record_then
  pub agrees : Agrees t record_then
  pub record_in_range : IsRecord record_then
  pub same_master : record_then.generation.image ≡ r.generation.image → record_then.pid ≡ r.pid

-- the removal of the file at one of the paths failed
abbrev pub is_failed_removal : List FilePath → Call → Answer → Bool
is_failed_removal paths (RemovePid path) answer.IoFault = has paths path
is_failed_removal paths _ _ = false

abbrev pub was_failed : List FilePath → List Entry → Bool
was_failed paths entries = list_any (λ e. is_failed_removal paths e.call e.answer) entries

-- Where the removal of the file failed, what was there at first is there: its owner, or no file. Else no file is there.
abbrev pub IsRemoved : FilePath → Table → Ran → Type 0
IsRemoved path first ran =
    owner_at path ran.last.table.files ≡
    (if was_failed (path ∷ []) ran.entries then owner_at path first.files else None)

-- The note after a stop: no file is there, or a removal failed and left what was there.
abbrev pub StopNote : PidNote → Option FilePath → Table → Ran → Type 0
StopNote NoFile None first ran = ⊤
StopNote NoFile (Some path) first ran =
    (owner_at path ran.last.table.files ≡ None) × (owner_at (oldbin path) ran.last.table.files ≡ None)
StopNote Left (Some path) first ran =
    (was_failed (path ∷ oldbin path ∷ []) ran.entries ≡ true)
    × IsRemoved path first ran × IsRemoved (oldbin path) first ran
StopNote note path first ran = ⊥

-- What a run leaves: after a stop there is no record, and no master and no worker.
abbrev pub IsSucceeded : Record → Target → Table → Ran → Type 0
IsSucceeded r (Stop quick) first ran =
    (next_record r (Stop quick) (report_of (sides_of r (Stop quick)) ran) ran.last.table ≡ None)
    × (list_any is_own ran.last.table.rows ≡ false) × StopNote ran.last.note r.pid_path first ran
IsSucceeded r target first ran = AgreesAfter r target (report_of (sides_of r target) ran) ran.last.table

---- What is kept throughout

-- a key of both services
abbrev pub IsCommon : Service → Service → Address → Type 0
IsCommon old target a = (is_some (old a) ≡ true) × (is_some (target a) ≡ true)

-- Each address that both services name is held by a live master, on the socket that it had in the first table.
abbrev pub Kept : Service → Service → Table → Table → Type 0
Kept old target first t =
    (a : Address) (socket : ℕ) → IsCommon old target a →
    let is_open = is_live_where (λ n hs. list_any (λ h. bytes_eq h.address a && (h.socket == socket)) hs) in
    list_any is_open first.rows ≡ true → list_any is_open t.rows ≡ true

-- how many Ready workers hold an address
abbrev pub ready_with : Address → Table → ℕ
ready_with a t = count_by (is_serving a (λ g. true)) t.rows

-- At each address that both services name the Ready workers that hold it, the losses so far and what is excused are
-- together at least as many as were Ready there at first or are wanted there, whichever is fewer.
abbrev pub Floor : (Progress → ℕ) → Table → Record → Target → Progress → Type 0
Floor excused first r target p =
    (a : Address) → IsCommon (service first) (want r target) a →
    min (ready_with a first) (wanted_at r target a) ≤ ready_with a p.table + p.losses + excused p

---- The accounts

-- As long as no call went wrong there was no fault; once one did there was a fault, a loss, or the operator went back.
abbrev pub IsBlamed : Progress → Type 0
IsBlamed p =
    (is_some p.cause ≡ false → p.faults ≡ 0) × (is_some p.cause ≡ true → 1 ≤ p.faults + p.losses + length p.returns)

-- A run that goes back or falls short has a cause.
abbrev pub HasCause : Outcome → Option ℕ → Type 0
HasCause outcome.Done cause = ⊤
HasCause outcome.Lost cause = ⊥
HasCause _ cause = is_some cause ≡ true

-- The shortfalls of all groups and the retries before them are together no more than the faults and losses.
abbrev pub IsPaid : ℕ → Outcome → Progress → Type 0
IsPaid retries (outcome.Degraded side shortfalls) p = sum shortfalls + retries ≤ p.faults + p.losses
IsPaid retries outcome.Lost p = ⊥
IsPaid retries _ p = ⊤

---- The headline

-- Descriptors rise, from 3 on, and a process may have at most 64.
pub record HasDescriptors (t : Table) (r : Record) : Type 0 where
  pub descriptors : RisesFrom 3 (map (λ (l : Listener). l.descriptor) r.listeners)
  pub limit : t.limits.descriptors ≤ 64

-- What is asked of the target, beside a start.
abbrev pub Accepts : Table → Record → Target → Type 0
Accepts t r (Workers n) = n ≤ 1024
Accepts t r (Reload s) = IsInRange s × HasDescriptors t r × (has_next r.generation.config ≡ true)
Accepts t r (Upgrade s) =
    IsInRange s × HasDescriptors t r × ((has_next r.generation.image && has_next r.generation.config) ≡ true)
Accepts t r (Attended s) =
    IsInRange s × HasDescriptors t r × ((has_next r.generation.image && has_next r.generation.config) ≡ true)
Accepts t r _ = ⊤

-- A start, a target that is accepted, and a pattern that names no executing master.
pub record IsAccepted (t : Table) (r : Record) (target : Target) (turns : List Turn) (pattern : Pattern) : Type 0 where
  pub start : IsStart t r
  pub accepts : Accepts t r target
  pub spared : refusal_of r target turns pattern t ≡ None

-- Where a reload has more than one step, each fault so far may have kept an old worker from being started again.
abbrev pub owed_in : Settings → Progress → ℕ
owed_in s p = if nat_lt 0 s.surge && nat_lt s.surge (length (numbers_below s.workers)) then p.faults else 0

-- Each target but two has a floor at each table of the run: a mend kills first, and a stop leaves no worker. Once the
-- operator of an attended upgrade went back at the second question, when the old workers were gone, the faults since
-- then are excused: each may have kept an old worker from being started again.
abbrev pub HasFloor : Table → Record → Target → Ran → Type 0
HasFloor t r (Attended s) ran =
    AllByRecursion (Floor (λ p. faults_since 2 p.returns p.faults) t r (Attended s)) ran.passed
HasFloor t r (Reload s) ran = AllByRecursion (Floor (owed_in s) t r (Reload s)) ran.passed
HasFloor t r (Mend overdue) ran = ⊤
HasFloor t r (Stop quick) ran = ⊤
HasFloor t r target ran = AllByRecursion (Floor (λ p. 0) t r target) ran.passed

-- What is promised of a run: it ends as its report says and keeps what it has to, in the target's manner.
pub record KeepsPromise (t : Table) (r : Record) (target : Target) (ran : Ran) : Type 0 where
  pub says : Says r target (report_of (sides_of r target) ran).outcome t ran.last.table
  pub after : IsSucceeded r target t ran
  pub kept : AllByRecursion (λ p. Kept (service t) (want r target) t p.table) ran.passed
  pub floor : HasFloor t r target ran
  pub manner : Manner r target (report_of (sides_of r target) ran).outcome t ran
  pub blamed : AllByRecursion IsBlamed ran.passed
  pub cause : HasCause (report_of (sides_of r target) ran).outcome ran.last.cause
  pub paid : IsPaid r.retries (report_of (sides_of r target) ran).outcome ran.last

-- THE HEADLINE. For every running state (`t`, `r`), accepted target, order of two masters' calls (`turns`) and
-- pattern of failing calls and child exits, the run of the target's plan ends with the target's service where the
-- report says Done, the old service where RolledBack, and the named side less exactly the named shortfall where
-- Degraded (`Says`); throughout, an address that both services name stays open on the same listening socket (`Kept`).
-- The other clauses of `KeepsPromise` say what else is promised.
abbrev pub Headline : Type 0
Headline =
    (t : Table) (r : Record) (target : Target) (turns : List Turn) (pattern : Pattern) →
    IsAccepted t r target turns pattern → KeepsPromise t r target (run_of r target turns pattern t)

---- An example: a pattern that ends the master of another image names no executing one

example : names_any (1 ∷ []) (name.Master 2 ∷ []) ≡ false
example = refl
