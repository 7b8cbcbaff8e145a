-- What a target that is carried out keeps beside the headline.
use Rattle.std.specs.Prelude.{◌≡◌, ℕ, List, [], true, false, Some, None, ⊤}
use Rattle.std.specs.List.{AllByRecursion, list_any}
use Rattle.listener_set.specs.AddressList.{has}
use Rattle.vocabulary.specs.declared.targets.Target.{Target}
use Rattle.vocabulary.specs.declared.targets.Target.TheVariants.{Workers, Mend, Reopen, Reload, Upgrade, Attended, Stop}
use Rattle.vocabulary.specs.declared.reports.Entry.{Entry}
use Rattle.vocabulary.specs.declared.reports.Outcome.TheVariants as outcome
use Rattle.definitions.specs.Table.{Table, FilePath, owner_at, service, IsSame}
use Rattle.definitions.specs.Master.{Record, want}
use Rattle.definitions.specs.Plans.{Turn}
use Rattle.definitions.specs.Run.{Moment, Pattern}
use Rattle.definitions.specs.Claims.{one_then, is_quit, is_old_side, run_of}
use Rattle.quiet_runs.specs.Quiet.{HasResources}
use Rattle.further_theorems.specs.Proper.{own_files, IsProper}
use Rattle.further_theorems.specs.Left.{IsLeft}
use Rattle.further_theorems.specs.Named.{TakeByName}
use Rattle.further_theorems.specs.Peace.{KeepsPeace}
use Rattle.further_theorems.specs.Bound.{is_back}
use Rattle.stepped_reloads.specs.Steps.{StaysBelow}
use Rattle.word_runner.specs.declared.enactor.Enacted.{Enacted}

-- Where the section has no event and the target has what it needs, it is done: no call went wrong, and the service is
-- the target's.
abbrev pub IsDoneInQuiet : Table → Table → Record → Target → List (ℕ × Moment) → Enacted → Type 0
IsDoneInQuiet first last r target pattern e =
    pattern ≡ [] → HasResources first r target →
    (e.report.outcome ≡ outcome.Done) × (e.report.cause ≡ None) × IsSame (service last) (want r target)

-- Each call is made by the master whose workers it names, and touches no file, address or master of others.
abbrev pub AreProper : Record → Target → Enacted → Type 0
AreProper r target e = AllByRecursion (λ (x : Entry). IsProper r target x.by x.call) e.log.entries

-- Each file but the master's two is as it was.
abbrev pub LeavesFilesOfOthers : Record → Table → Table → Type 0
LeavesFilesOfOthers r first last =
    (path : FilePath) → has (own_files r.pid_path) path ≡ false → owner_at path last.files ≡ owner_at path first.files

-- The record afterwards has the settings of the side that the outcome names.
abbrev pub LeavesRecord : Record → Target → Enacted → Type 0
LeavesRecord r target e = (left : Record) → e.after ≡ Some left → IsLeft r target e.report left.pid left

-- Once the operator of an attended upgrade went back nobody is told to quit any more, and it ends on the old side.
abbrev pub ObeysOperator : Target → Enacted → Type 0
ObeysOperator (Attended s) e =
    (one_then is_back (λ x. is_quit (λ g k. true) x.call) e.log.entries ≡ false)
    × (list_any is_back e.log.entries ≡ true → is_old_side e.report.outcome ≡ true)
ObeysOperator (Workers n) e = ⊤
ObeysOperator (Mend overdue) e = ⊤
ObeysOperator Reopen e = ⊤
ObeysOperator (Reload s) e = ⊤
ObeysOperator (Upgrade s) e = ⊤
ObeysOperator (Stop quick) e = ⊤

-- In the run, process by process, a call takes a worker away only if it names it, or ends a master.
abbrev pub EndByName : Table → Record → Target → List Turn → Pattern → Type 0
EndByName first r target turns pattern =
    let ran = run_of r target turns pattern first in TakeByName ran.entries ran.passed

-- And each worker that was ready at first ends in peace: it was told to quit and drained, and was waited for.
abbrev pub EndInPeace : Table → Record → Target → List Turn → Pattern → Type 0
EndInPeace first r target turns pattern = KeepsPeace r target first (run_of r target turns pattern first)

-- At no table of a reload do more of the master's workers live than its fullest step has.
abbrev pub LivesBelow : Table → Record → Target → List Turn → Pattern → Type 0
LivesBelow first r target turns pattern = StaysBelow first r target (run_of r target turns pattern first)
