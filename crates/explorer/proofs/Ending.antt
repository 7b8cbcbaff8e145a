-- What a run that is over reports.
use Rattle.std.proofs.Common.{◌≡◌, ℕ, List, Option, Some, None, refl, sym, ◌∙◌, ap}
use Rattle.vocabulary.specs.declared.reports.Report.{Report}
use Rattle.vocabulary.specs.declared.reports.Outcome.{Outcome}
use Rattle.definitions.specs.Run.{Tree, Ends, Does, Pattern, Progress, Ran, outcome_of, report_of}
use Rattle.definitions.specs.Master.{Sides}
use Rattle.call_laws.specs.Pieces.{lacked_last}
use Rattle.plan_walk.specs.Path.{Trail, IsOver, IsOutcome, Reports}
use Rattle.definitions.specs.Calls.{Handed}
use Rattle.plan_executor.specs.Lawful.{trail_at, ending_of}
use Rattle.explorer.specs.Positions.{rest_run, EndsAlike}

ending-of : (handed : Handed) (rest : Option Tree) (q : Pattern) (p : Progress) → IsOver rest → (rest_run handed rest q p).ending ≡ ending_of rest
ending-of handed None q p over = refl
ending-of handed (Some (Ends end)) q p over = refl
ending-of handed (Some (Does by order set branches)) q p over = absurd over

last-of : (handed : Handed) (rest : Option Tree) (q : Pattern) (p : Progress) → IsOver rest → (rest_run handed rest q p).last ≡ p
last-of handed None q p over = refl
last-of handed (Some (Ends end)) q p over = refl
last-of handed (Some (Does by order set branches)) q p over = absurd over

outcome-of : (sides : Sides) (rest : Option Tree) (lacking : List ℕ) (o : Outcome) → IsOutcome sides rest lacking o →
    o ≡ outcome_of sides (ending_of rest) lacking
outcome-of sides None lacking o h = h
outcome-of sides (Some (Ends end)) lacking o h = h
outcome-of sides (Some (Does by order set branches)) lacking o h = absurd h

pub reports_it : (handed : Handed) (sides : Sides) (t : Trail) (q : Pattern) (p : Progress) (ran : Ran) (report : Report) →
    IsOver t.rest → trail_at t.rest p ≡ t → EndsAlike ran (rest_run handed t.rest q p) → Reports sides t report → report ≡ report_of sides ran
reports_it handed sides t q p ran report over trail alike is =
    let ending = sym (ending-of handed t.rest q p over) ∙ sym alike.ending in
    let last : p ≡ ran.last = sym (last-of handed t.rest q p over) ∙ sym alike.last in
    let lacking : (lacked_last t.lacked) ≡ (lacked_last ran.last.lacked) = ap (λ (x : Trail). lacked_last x.lacked) (sym trail) ∙ ap (λ (x : Progress). lacked_last x.lacked) last in
    let outcome = outcome-of sides t.rest (lacked_last t.lacked) report.outcome is.outcome ∙ ap (λ e. outcome_of sides e (lacked_last t.lacked)) ending ∙ ap (outcome_of sides ran.ending) lacking in
    let cause = is.cause ∙ ap (λ (x : Trail). x.cause) (sym trail) ∙ ap (λ (x : Progress). x.cause) last in
    let note = is.note ∙ ap (λ (x : Trail). x.note) (sym trail) ∙ ap (λ (x : Progress). x.note) last in
    let ready = is.ready ∙ ap (λ (x : Trail). x.ready) (sym trail) ∙ ap (λ (x : Progress). x.ready) last in
    λ i. record { outcome = outcome i; cause = cause i; note = note i; ready = ready i }
