-- What the path law and the kernel's answers say together: the entries are the run, and the report is the run's.
use Rattle.std.proofs.Common.{◌≡◌, ℕ, List, Option, Some, None, sym, ◌∙◌, ap}
use Rattle.vocabulary.specs.declared.reports.Entry.{Entry}
use Rattle.vocabulary.specs.declared.reports.Report.{Report}
use Rattle.vocabulary.specs.declared.reports.Outcome.{Outcome}
use Rattle.definitions.specs.Table.{Table}
use Rattle.definitions.specs.Run.{Tree, Ends, Does, Pattern, Ran, start_at, outcome_of, report_of}
use Rattle.definitions.specs.Plans.{Turn, plan_tree}
use Rattle.definitions.specs.Master.{Sides, Record, sides_of, handover_for}
use Rattle.call_laws.specs.Pieces.{lacked_last}
use Rattle.plan_walk.specs.Path.{Trail, begin, trail_after, IsOver, IsOutcome, Reports, KeepsPathLaw}
use Rattle.plan_executor.specs.Replays.{Replays}
use Rattle.vocabulary.specs.declared.targets.Target.{Target}
use Rattle.definitions.specs.Claims.{run_of}
use Rattle.plan_executor.specs.Lawful.{ending_of, IsRun, IsWholeRun}
use Rattle.plan_executor.proofs.Running.{runs-as}

over : (sides : Sides) (rest : Option Tree) (lacking : List ℕ) (o : Outcome) → IsOutcome sides rest lacking o → IsOver rest
over sides None lacking o h = tt
over sides (Some (Ends end)) lacking o h = tt
over sides (Some (Does by order set branches)) lacking o h = absurd h

outcome-is : (sides : Sides) (rest : Option Tree) (lacking : List ℕ) (o : Outcome) → IsOutcome sides rest lacking o →
    o ≡ outcome_of sides (ending_of rest) lacking
outcome-is sides None lacking o h = h
outcome-is sides (Some (Ends end)) lacking o h = h
outcome-is sides (Some (Does by order set branches)) lacking o h = absurd h

reports_it : (sides : Sides) (t : Trail) (entries : List Entry) (last : Table) (ran : Ran) (report : Report) →
    IsRun entries last t ran → Reports sides t report → report ≡ report_of sides ran
reports_it sides t entries last ran report is h =
    let lacking : (lacked_last t.lacked) ≡ (lacked_last ran.last.lacked) = ap (λ (x : Trail). lacked_last x.lacked) (sym is.trail) in
    let outcome = outcome-is sides t.rest (lacked_last t.lacked) report.outcome h.outcome ∙ (ap (λ e. outcome_of sides e (lacked_last t.lacked)) (sym is.ending) ∙ ap (outcome_of sides ran.ending) lacking) in
    let cause = h.cause ∙ ap (λ (x : Trail). x.cause) (sym is.trail) in
    let note = h.note ∙ ap (λ (x : Trail). x.note) (sym is.trail) in
    let ready = h.ready ∙ ap (λ (x : Trail). x.ready) (sym is.trail) in
    λ i. record { outcome = outcome i; cause = cause i; note = note i; ready = ready i }

-- the run of the target's plan
pub whole-run : (r : Record) (target : Target) (turns : List Turn) (pattern : Pattern) (first last : Table)
    (entries : List Entry) (report : Report) →
    KeepsPathLaw (plan_tree r target turns) r.note (sides_of r target) entries report →
    Replays (handover_for r target) pattern 0 first entries last →
    IsWholeRun r target turns pattern first entries last report
whole-run r target turns pattern first last entries report law replays =
    let t = trail_after (begin (plan_tree r target turns) r.note) entries in
    let is = runs-as (handover_for r target) entries (plan_tree r target turns) pattern (start_at first r.note) last law.path (over (sides_of r target) t.rest (lacked_last t.lacked) report.outcome law.report_is.outcome) replays in
    record { entries_are = is.entries_are; table = is.table; report_is = reports_it (sides_of r target) t entries last (run_of r target turns pattern first) report is law.report_is }
