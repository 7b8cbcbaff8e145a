-- Each target ends Done under no event.
use Rattle.std.proofs.Common.{◌≡◌, ℕ, ◌+◌, Bool, true, false, List, [], ◌∷◌, Option, None, refl, subst, is_some}
use Rattle.std.specs.Prelude.{if◌then◌else◌}
use Rattle.vocabulary.specs.declared.plans.Turn.{Turn}
use Rattle.vocabulary.specs.declared.plans.Side.TheVariants as side
use Rattle.vocabulary.specs.declared.reports.Entry.{Entry}
use Rattle.vocabulary.specs.declared.reports.Outcome.{Outcome}
use Rattle.vocabulary.specs.declared.reports.Outcome.TheVariants as outcome
use Rattle.definitions.specs.Table.{Table}
use Rattle.definitions.specs.Master.{Record, Target, Workers, Mend, Reopen, Reload, Upgrade, Attended, Stop, sides_of}
use Rattle.definitions.specs.Master.{handover_for}
use Rattle.definitions.specs.After.{crew_wanted}
use Rattle.definitions.specs.Plans.{plan_tree}
use Rattle.definitions.specs.Run.{report_of, start_at}
use Rattle.definitions.specs.Claims.{KeepsPromise, IsStart, Says, HasCause, refused_among, run_of, is_leave_call}
use Rattle.theorems.proofs.Promise.{headline}
use Rattle.quiet_runs.specs.Quiet.{QuietIsDone, HasResources, IsDone, no_event}
use Rattle.quiet_runs.proofs.Ways.{Clean, Goes, run-clean}
use Rattle.quiet_runs.proofs.Alone.{go-workers, go-mend, go-reopen, go-stop}
use Rattle.quiet_runs.proofs.Reloads.{go-reload}
use Rattle.quiet_runs.proofs.Upgrades.{go-upgrade}

goes : (t : Table) (r : Record) (target : Target) (turns : List Turn) → IsStart t r → HasResources t r target → Goes
    (handover_for r target) (plan_tree r target turns) t
goes t r (Workers n) turns start res = go-workers t r start None n turns res
goes t r (Mend overdue) turns start res = go-mend t r start None overdue turns res
goes t r Reopen turns start res = go-reopen t r start None turns res
goes t r (Reload s) turns start res = go-reload t r start None s turns res
goes t r (Upgrade s) turns start res =
    go-upgrade t r start s false (handover_for r
    (Upgrade s)) refl res.processes res.unheld res.apart res.descriptors turns (crew_wanted r (Upgrade s)) refl
goes t r (Attended s) turns start res =
    go-upgrade t r start s true (handover_for r
    (Attended s)) refl res.processes res.unheld res.apart res.descriptors turns (crew_wanted r (Attended s)) refl
goes t r (Stop quick) turns start res = go-stop t r start None quick turns res

-- no pattern without exits is refused
spared : (executing heirs : List ℕ) (n : ℕ) (entries : List Entry) →
    refused_among executing heirs no_event n entries ≡ None
spared executing heirs n [] = refl
spared executing heirs n (e ∷ entries) =
    go (is_leave_call e.call) (spared heirs heirs (n + 1) entries) (spared executing heirs (n + 1) entries)
  where
    go :
        (b : Bool) → refused_among heirs heirs no_event (n + 1) entries ≡ None →
        refused_among executing heirs no_event (n + 1) entries ≡ None →
        refused_among (if b then heirs else executing) heirs no_event (n + 1) entries ≡ None
    go true after before = after
    go false after before = before

done-by : (o : Outcome) (cause : Option ℕ) → HasCause o cause → cause ≡ None → o ≡ outcome.Done
done-by outcome.Done cause h e = refl
done-by outcome.RolledBack cause h e = absurd (let f = subst (λ (o : Option ℕ). is_some o ≡ true) e h in cc)
done-by (outcome.Degraded side.Old n) cause h e = absurd (let f = subst (λ (o : Option ℕ). is_some o ≡ true) e h in cc)
done-by (outcome.Degraded side.Target n) cause h e = absurd (let f = subst (λ
    (o : Option ℕ). is_some o ≡ true) e h in cc)
done-by outcome.Lost cause h e = absurd h

-- A run that keeps the promise under no event is done.
pub done-of-kept :
    (t : Table) (r : Record) (target : Target) (turns : List Turn) → IsStart t r → HasResources t r target →
    KeepsPromise t r target (run_of r target turns no_event t) → IsDone r target (run_of r target turns no_event t)
done-of-kept t r target turns start res kept =
    let ran = run_of r target turns no_event t in
    let clean : Clean (start_at t r.note) = record { faults = refl; losses = refl; returns = refl; cause = refl } in
    let none =
    run-clean (handover_for r target) (plan_tree r target turns) (start_at t r.note)
    (goes t r target turns start res) clean
    kept.blamed in
    let done = done-by (report_of (sides_of r target) ran).outcome ran.last.cause kept.cause none in
    record {
      outcome = done;
      cause = none;
      service = subst (λ o. Says r target o t ran.last.table) done kept.says;
    }

pub quiet-is-done : QuietIsDone
quiet-is-done t r target turns start accepts res =
    let spares = spared _ _ 0 (run_of r target turns no_event t).entries in
    done-of-kept t r target turns start res
    (headline t r target turns no_event (record { start = start; accepts = accepts; spared = spares }))
