-- What is kept beside the headline, from what is enacted.
use Rattle.std.proofs.Common.{◌≡◌, ℕ, true, false, List, Option, Some, None, sym, ap, ◌∙◌, subst}
use Rattle.std.specs.Prelude.{option_and_then}
use Rattle.std.specs.List.{AllByRecursion, list_any}
use Rattle.vocabulary.specs.declared.targets.Target.{Target}
use Rattle.vocabulary.specs.declared.targets.Target.TheVariants.{Workers, Mend, Reopen, Reload, Upgrade, Attended, Stop}
use Rattle.vocabulary.specs.declared.reports.Report.{Report}
use Rattle.vocabulary.specs.declared.reports.Entry.{Entry}
use Rattle.definitions.specs.Table.{Table, owner_at, service, IsSame}
use Rattle.definitions.specs.Master.{Record, want, handover_for}
use Rattle.definitions.specs.Plans.{Turn, plan_tree}
use Rattle.definitions.specs.Run.{Moment, Pattern, Progress, start_at}
use Rattle.definitions.specs.After.{record_after, master_of, named_record}
use Rattle.definitions.specs.Claims.{IsStart, KeepsPromise, run_of, one_then, is_quit, is_old_side}
use Rattle.kernel_model.specs.State.{State}
use Rattle.kernel_model.specs.Pattern.{moment_at}
use Rattle.quiet_runs.specs.Quiet.{no_event}
use Rattle.quiet_runs.proofs.Done.{done-of-kept}
use Rattle.further_theorems.specs.Proper.{IsProper}
use Rattle.further_theorems.specs.Left.{IsLeft}
use Rattle.further_theorems.specs.Bound.{is_back}
use Rattle.further_theorems.proofs.Bound.{attended-bound, obeyed-of-kept}
use Rattle.further_theorems.proofs.Entries.{calls-are-proper, files-of-others-stay}
use Rattle.lives.proofs.Living.{last-passed}
use Rattle.further_theorems.proofs.Left.{records-are-left}
use Rattle.word_runner.specs.declared.enactor.Enacted.{Enacted}
use Rattle.plan_executor.specs.Lawful.{IsWholeRun}
use Rattle.plan_executor.specs.Enacted.{IsEnacted}
use Rattle.plan_executor.specs.Beside.{IsDoneInQuiet, AreProper, LeavesFilesOfOthers, LeavesRecord, ObeysOperator}

pub done-in-quiet :
    (first last : State) (r : Record) (target : Target) (turns : List Turn) (pattern : List (ℕ × Moment)) (e : Enacted) →
    IsStart first.table r → IsEnacted first last r target turns (moment_at pattern) e →
    IsDoneInQuiet first.table last.table r target pattern e
done-in-quiet first last r target turns pattern e start is none res =
    let kept : KeepsPromise first.table r target (run_of r target turns no_event first.table) =
    subst (λ (es : List (ℕ × Moment)). KeepsPromise first.table r target (run_of r target turns (moment_at es) first.table)) none is.headline in
    let done = done-of-kept first.table r target turns start res kept in
    let whole : IsWholeRun r target turns no_event first.table e.log.entries last.table e.report =
    subst (λ (es : List (ℕ × Moment)). IsWholeRun r target turns (moment_at es) first.table e.log.entries last.table e.report) none is.is_run in (
      ap (λ (report : Report). report.outcome) whole.report_is ∙ done.outcome,
      ap (λ (report : Report). report.cause) whole.report_is ∙ done.cause,
      subst (λ (t : Table). IsSame (service t) (want r target)) whole.table done.service,
    )

pub are-proper :
    (first last : State) (r : Record) (target : Target) (turns : List Turn) (pattern : Pattern) (e : Enacted) →
    IsEnacted first last r target turns pattern e → AreProper r target e
are-proper first last r target turns pattern e is =
    subst (AllByRecursion (λ (x : Entry). IsProper r target x.by x.call)) is.is_run.entries_are
    (calls-are-proper first.table r target turns pattern)

pub leaves-files :
    (first last : State) (r : Record) (target : Target) (turns : List Turn) (pattern : Pattern) (e : Enacted) →
    IsEnacted first last r target turns pattern e → LeavesFilesOfOthers r first.table last.table
leaves-files first last r target turns pattern e is path off =
    subst (λ (t : Table). owner_at path t.files ≡ owner_at path first.table.files) is.is_run.table
    (last-passed (λ (p : Progress). owner_at path p.table.files ≡ owner_at path first.table.files) (handover_for r target)
    (plan_tree r target turns) pattern (start_at first.table r.note)
    (files-of-others-stay first.table r target turns pattern path off))

-- where both are there, the second says what comes
given :
    (o : Option ℕ) (f : ℕ → Option Record) (left : Record) → option_and_then f o ≡ Some left → (n : ℕ) × (f n ≡ Some left)
given None f left e = absurd (cc)
given (Some n) f left e = (n, e)

pub leaves-record :
    (first last : State) (r : Record) (target : Target) (turns : List Turn) (pattern : Pattern) (e : Enacted) →
    IsEnacted first last r target turns pattern e → LeavesRecord r target e
leaves-record first last r target turns pattern e is left so =
    let found = given (master_of (named_record e.report.outcome r target) last.table) (record_after r target e.report) left (sym is.after ∙ so) in
    let is_left = records-are-left r target e.report found.0 left found.1 in
    subst (λ n. IsLeft r target e.report n left) (sym is_left.pid_is) is_left

pub obeys-operator :
    (first last : State) (r : Record) (target : Target) (turns : List Turn) (pattern : Pattern) (e : Enacted) →
    IsEnacted first last r target turns pattern e → ObeysOperator target e
obeys-operator first last r (Attended s) turns pattern e is =
    let ran = run_of r (Attended s) turns pattern first.table in
    let bound = attended-bound first.table r s turns pattern in (
      subst (λ (entries : List Entry). one_then is_back (λ x. is_quit (λ g k. true) x.call) entries ≡ false) is.is_run.entries_are bound.0,
      λ went.
          let back : list_any is_back ran.entries ≡ true =
          subst (λ (entries : List Entry). list_any is_back entries ≡ true) (sym is.is_run.entries_are) went in
          subst (λ (report : Report). is_old_side report.outcome ≡ true) (sym is.is_run.report_is)
          (obeyed-of-kept first.table r s turns pattern is.headline back),
    )
obeys-operator first last r (Workers n) turns pattern e is = tt
obeys-operator first last r (Mend overdue) turns pattern e is = tt
obeys-operator first last r Reopen turns pattern e is = tt
obeys-operator first last r (Reload s) turns pattern e is = tt
obeys-operator first last r (Upgrade s) turns pattern e is = tt
obeys-operator first last r (Stop quick) turns pattern e is = tt
