use Rattle.std.proofs.Common.{◌+◌, sym, ap, ◌∙◌, arith}
use Rattle.std.proofs.lemmas.List.Elements.{All-contains, All-from_recursion}
use Rattle.call_laws.specs.Pieces.{quiet}
use Rattle.plan_walk.specs.Course.{turns_of}
use Rattle.explorer.specs.declared.events.Tried.{Tried}
use Rattle.explorer.specs.declared.events.Tried.TheVariants.{One}
use Rattle.explorer.specs.Events.{pattern_of, event_at}
use Rattle.explorer.specs.Explored.{report_under}
use Rattle.explorer.specs.Known.{IsKnownAt}
use Rattle.explorer.specs.declared.known.Known.{Known}
use Rattle.explorer.specs.declared.known.RestOfRun.{RestOfRun}
use Rattle.explorer.specs.Positions.{IsSameUpTo}
use Rattle.explorer.proofs.Later.{elsewhere}
use Rattle.explorer.proofs.Meeting.{same-before}
use Rattle.std.proofs.Common.{◌∷◌, [], None, subst}
use Rattle.explorer.specs.declared.events.Event.{Event}
use Rattle.explorer.specs.Searched.{subject_of, IsSeenKnown, AreSeen}
use Rattle.explorer.proofs.Meeting.{at-event}
use Rattle.explorer.proofs.Searching.{branched, branched-here, known-searched}
use Rattle.explorer.proofs.exploring.rest_of_run.Goals as goal

pub returns-clause-report : goal.returns-clause-report
returns-clause-report c = λ p at all.
    let run = c.args.point.now.run.now in
    let event = c.args.event in
    let is = c.in_ok-whole.ensures in
    let same : IsSameUpTo run.made (pattern_of run.tried) (pattern_of (One event)) =
    λ m le. same-before event (λ _. quiet) run.made (omega (arith, c.requires.number)) m le ∙ sym (ap (λ (x : Tried). pattern_of x m) c.requires.tried) in
    c.in_ok-report.ensures.report _ (is.at p (elsewhere run p (One event) same at))
    ∙ (λ i. report_under (is.state i) (is.target i) (is.turns i) (is.first i).table (is.tried i))

-- what is known of the run in which the process exits here
pub returns-in-Some-clause-report : goal.returns-in-Some-clause-report
returns-in-Some-clause-report c = λ p at all.
    let run = c.args.point.now.run.now in
    let known = c.args.point.now.known.now in
    let is_known : Known → Type 0 = IsKnownAt run (run.made + 1) in
    let found = c.in-Some.ensures in
    ap (λ (rest : RestOfRun). rest.report) found.3
    ∙ (All-contains is_known known found.0 (All-from_recursion is_known known all) found.1
    ∙ (λ i. report_under run.state.now run.target.now (turns_of run.course) run.first.now.table (One (event_at (sym c.requires.number i) (sym found.2 i)))))

pub returns-clause-searched : goal.returns-clause-searched
returns-clause-searched c = λ p at.
    let point = c.args.point.now in
    let run = point.run.now in
    let event = c.args.event in
    let is = c.in_ok-whole.ensures in
    let same : IsSameUpTo run.made (pattern_of run.tried) (pattern_of (One event)) =
    λ m le. same-before event (λ _. quiet) run.made (omega (arith, c.requires.number)) m le ∙ sym (ap (λ (x : Tried). pattern_of x m) c.requires.tried) in
    let moment = at-event event (λ _. quiet) (run.made + 1) (sym c.requires.number) in
    branched-here point p (One event ∷ []) c.args.found.now c.finish.new.found
    (branched point p None event.mishap (One event) c.in_ok-whole.whole c.args.found.now c.look_between.new.found c.finish.new.found at c.requires.due same moment is c.look_between.ensures.looked c.in_ok-look_between.ensures.seen
    (c.in_ok-report.ensures.searched _ (is.at p (elsewhere run p (One event) same at))))

-- what is known of it
pub returns-in-Some-clause-searched : goal.returns-in-Some-clause-searched
returns-in-Some-clause-searched c = λ p at.
    let point = c.args.point.now in
    let run = point.run.now in
    let event = c.args.event in
    let found = c.in-Some.ensures in
    known-searched point p event c.args.found.now c.pass.new.self c.pass.ensures.same (λ all.
    let is_seen : Known → Type 0 = IsSeenKnown (subject_of run) c.args.found.now (run.made + 1) in
    subst (λ (e : Event). AreSeen (subject_of run) c.args.found.now (One e ∷ [])) (λ i. event_at (sym c.requires.number i) (sym found.2 i))
    (All-contains is_seen point.known.now found.0 (All-from_recursion is_seen point.known.now all) found.1))
