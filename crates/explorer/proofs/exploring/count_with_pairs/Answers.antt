use Rattle.std.proofs.Common.{◌≡◌, ◌+◌, ◌++◌, ◌∷◌, [], Bool, true, false, List, Some, map, refl, sym, ap, ◌∙◌, arith}
use Rattle.std.specs.Prelude.{if◌then◌else◌}
use Rattle.vocabulary.specs.declared.calls.Answer.TheVariants.{MasterGone}
use Rattle.vocabulary.specs.declared.reports.Report.{Report}
use Rattle.definitions.specs.Table.{Table}
use Rattle.definitions.specs.Calls.{after_exits}
use Rattle.definitions.specs.Run.{Moment}
use Rattle.call_laws.specs.Pieces.{quiet}
use Rattle.definitions.specs.Master.{handover_for}
use Rattle.plan_walk.specs.Course.{turns_of, trail_on}
use Rattle.plan_walk.proofs.Paths.{asks_height}
use Rattle.plan_executor.specs.Naming.{listed}
use Rattle.explorer.specs.declared.events.Event.{Event}
use Rattle.explorer.specs.declared.events.Mishap.{Mishap}
use Rattle.explorer.specs.declared.events.Tried.{Tried}
use Rattle.explorer.specs.declared.events.Tried.TheVariants.{One, Two}
use Rattle.explorer.specs.Events.{pattern_of, event_at, with_mishap, beside, waiting, met}
use Rattle.explorer.specs.Tallies.{counted}
use Rattle.explorer.specs.Explored.{report_under, with_runs, with_pairs, events_after}
use Rattle.explorer.specs.Positions.{IsSameUpTo, left, rest_run, after_due}
use Rattle.explorer.proofs.Counted.{with_runs-map}
use Rattle.explorer.proofs.Later.{elsewhere}
use Rattle.explorer.proofs.Meeting.{same-before, open-beside}
use Rattle.std.proofs.Common.{subst}
use Rattle.explorer.specs.Searched.{subject_of, AreSeen, IsOnward, AreSearchedHere}
use Rattle.explorer.proofs.Meeting.{at-event}
use Rattle.explorer.proofs.Seeing.{wider-on}
use Rattle.explorer.proofs.Searching.{same-subject, seen-behind, with-pairs, reported-here}
use Rattle.explorer.proofs.exploring.count_with_pairs.Goals as goal

pub overflow_add-number : goal.overflow_add-number
overflow_add-number g c =
    let t = trail_on c.args.point.now.run.now.course in
    let left = asks_height t.rest t.lacked _ (c.requires.due MasterGone) in
    omega (arith, left, c.requires.fit.room, c.requires.fit.countable)

pub returns-then-not-pairs-clause-counted : goal.returns-then-not-pairs-clause-counted
returns-then-not-pairs-clause-counted g c = λ p at all.
    let run = c.args.point.now.run.now in
    let r = run.state.now in
    let to = run.target.now in
    let turns = turns_of run.course in
    let t = run.first.now.table in
    let first = event_at (run.made + 1) c.args.mishap in
    c.in_ok-count_report.ensures.counted
    ∙ ap (λ (x : Report). counted (One first) x.outcome c.rest_of_run.new.found.tally) (c.in_ok-rest.ensures.report p at all)
    ∙ ap (counted (One first) (report_under r to turns t (One first)).outcome) c.rest_of_run.ensures.found
    ∙ ap (λ (b : Bool). with_runs r to turns t (One first ∷ (if b then map (Two first) (events_after r to turns t (One first)) else [])) c.args.found.now.tally) (sym off) where
      off : c.args.pairs ≡ false
      off = cc

pub returns-clause-counted : goal.returns-clause-counted
returns-clause-counted g c = λ p at all.
    let run = c.args.point.now.run.now in
    let due = c.args.point.now.due.now in
    let r = run.state.now in
    let to = run.target.now in
    let turns = turns_of run.course in
    let t = run.first.now.table in
    let handed = handover_for r to in
    let waits = waiting due.call (listed run.heir) in
    let n = run.made + 1 in
    let first = event_at n c.args.mishap in
    let m : Moment = with_mishap c.args.mishap quiet in
    let same : IsSameUpTo run.made (pattern_of run.tried) (pattern_of (One first)) =
    λ k le. same-before first (λ _. quiet) run.made (omega arith) k le ∙ sym (ap (λ (x : Tried). pattern_of x k) c.requires.tried) in
    let there = elsewhere run p (One first) same at in
    let on = c.in_ok-behind.ensures in
    let behind = c.in_ok-behind.behind in
    let onto = after_due (record run { tried = One first }) m p in
    let here : List Mishap = beside handed due.by due.call waits c.args.mishap (after_exits m.exits run.kernel.table) in
    let events : events_after r to turns t (One first) ≡ map (event_at n) here ++ left behind onto (Some first) =
    there.come.meets (pattern_of (One first)) first (λ k le. refl) (omega arith)
    ∙ ap (λ (x : Table). met handed (Some first) (pattern_of (One first)) (listed run.heir) run.made x (rest_run handed (trail_on run.course).rest (pattern_of (One first)) p).entries) at.table
    ∙ on.left p (Some first) there
    ∙ ap (λ (ms : List Mishap). map (event_at n) ms ++ left behind onto (Some first)) (open-beside handed due.by due.call waits first n (after_exits m.exits run.kernel.table) refl) in
    let one : c.count_report.new.found.tally ≡ with_runs r to turns t (One first ∷ []) c.args.found.now.tally =
    c.in_ok-count_report.ensures.counted
    ∙ ap (λ (x : Report). counted (One first) x.outcome c.rest_of_run.new.found.tally) (c.in_ok-rest.ensures.report p at all)
    ∙ ap (counted (One first) (report_under r to turns t (One first)).outcome) c.rest_of_run.ensures.found in
    let two : c.count_beside.new.found.tally ≡ with_runs r to turns t (map (Two first) (map (event_at n) here)) (with_runs r to turns t (One first ∷ []) c.args.found.now.tally) =
    c.in_ok-count_beside.ensures.counted p at ∙ ap (with_runs r to turns t (map (Two first) (map (event_at n) here))) one in
    let whole : with_runs behind.state.now behind.target.now (turns_of behind.course) behind.first.now.table (map (Two first) (left behind onto (Some first))) c.count_beside.new.found.tally
    ≡ with_runs r to turns t (with_pairs r to turns t c.args.pairs first) c.args.found.now.tally =
    (λ i. with_runs (on.state i) (on.target i) (on.turns i) ((on.first i).table) (map (Two first) (left behind onto (Some first))) (two i))
    ∙ sym (with_runs-map r to turns t (Two first) (map (event_at n) here) (left behind onto (Some first)) (with_runs r to turns t (One first ∷ []) c.args.found.now.tally))
    ∙ ap (λ (es : List Event). with_runs r to turns t (One first ∷ map (Two first) es) c.args.found.now.tally) (sym events)
    ∙ ap (λ (b : Bool). with_runs r to turns t (One first ∷ (if b then map (Two first) (events_after r to turns t (One first)) else [])) c.args.found.now.tally) (sym asked) in
    c.in_ok-count_later.ensures.counted onto (on.at p there) ∙ whole where
      asked : c.args.pairs ≡ true
      asked = cc

pub returns-clause-report : goal.returns-clause-report
returns-clause-report g c = λ p at all. c.in_ok-rest.ensures.report p at all

pub returns-then-not-pairs-clause-report : goal.returns-then-not-pairs-clause-report
returns-then-not-pairs-clause-report g c = λ p at all. c.in_ok-rest.ensures.report p at all

pub returns-then-not-pairs-clause-searched : goal.returns-then-not-pairs-clause-searched
returns-then-not-pairs-clause-searched g c = λ p at.
    let point = c.args.point.now in
    let run = point.run.now in
    let r = run.state.now in
    let to = run.target.now in
    let turns = turns_of run.course in
    let t = run.first.now.table in
    let first = event_at (run.made + 1) c.args.mishap in
    let one = reported-here point p (One first ∷ []) c.args.found.now c.rest_of_run.new.found c.count_report.new.found (c.in_ok-rest.ensures.searched p at) c.count_report.ensures.same in
    subst (λ (b : Bool). AreSearchedHere point p (One first ∷ (if b then map (Two first) (events_after r to turns t (One first)) else [])) c.args.found.now c.count_report.new.found) (sym off) one where
      off : c.args.pairs ≡ false
      off = cc

pub returns-clause-searched : goal.returns-clause-searched
returns-clause-searched g c = λ p at.
    let point = c.args.point.now in
    let run = point.run.now in
    let due = point.due.now in
    let r = run.state.now in
    let to = run.target.now in
    let turns = turns_of run.course in
    let t = run.first.now.table in
    let handed = handover_for r to in
    let waits = waiting due.call (listed run.heir) in
    let n = run.made + 1 in
    let first = event_at n c.args.mishap in
    let m : Moment = with_mishap c.args.mishap quiet in
    let same : IsSameUpTo run.made (pattern_of run.tried) (pattern_of (One first)) =
    λ k le. same-before first (λ _. quiet) run.made (omega arith) k le ∙ sym (ap (λ (x : Tried). pattern_of x k) c.requires.tried) in
    let moment : pattern_of (One first) n ≡ m = at-event first (λ _. quiet) n refl in
    let there = elsewhere run p (One first) same at in
    let on = c.in_ok-behind.ensures in
    let behind = c.in_ok-behind.behind in
    let onto = after_due (record run { tried = One first }) m p in
    let here : List Event = map (event_at n) (beside handed due.by due.call waits c.args.mishap (after_exits m.exits run.kernel.table)) in
    let late = left behind onto (Some first) in
    let events : events_after r to turns t (One first) ≡ here ++ late =
    there.come.meets (pattern_of (One first)) first (λ k le. refl) (omega arith)
    ∙ ap (λ (x : Table). met handed (Some first) (pattern_of (One first)) (listed run.heir) run.made x (rest_run handed (trail_on run.course).rest (pattern_of (One first)) p).entries) at.table
    ∙ on.left p (Some first) there
    ∙ ap (λ (ms : List Mishap). map (event_at n) ms ++ late) (open-beside handed due.by due.call waits first n (after_exits m.exits run.kernel.table) refl) in
    let one = reported-here point p (One first ∷ []) c.args.found.now c.rest_of_run.new.found c.count_report.new.found (c.in_ok-rest.ensures.searched p at) c.count_report.ensures.same in
    let two = c.in_ok-count_beside.ensures.searched p at in
    let three = c.in_ok-count_later.ensures.searched onto (on.at p there) in
    let subject = same-subject (record run { tried = One first }) due m behind on in
    let on' : IsOnward (subject_of run) c.count_beside.new.found c.count_later.new.found = subst (λ s. IsOnward s c.count_beside.new.found c.count_later.new.found) subject three.onward in
    let whole = with-pairs point p first here late c.args.found.now c.count_report.new.found c.count_beside.new.found c.count_later.new.found one two on' (λ seen is all.
    subst (λ s. AreSeen s c.count_later.new.found (map (Two first) late)) subject
    (three.seen (seen-behind point p c.args.mishap first behind c.args.found.now c.count_beside.new.found at c.requires.due same moment on (wider-on c.args.found.now c.count_report.new.found c.count_beside.new.found one.onward.wider two.onward.wider) seen is all))) in
    subst (λ (b : Bool). AreSearchedHere point p (One first ∷ (if b then map (Two first) (events_after r to turns t (One first)) else [])) c.args.found.now c.count_later.new.found) (sym asked)
    (subst (λ (es : List Event). AreSearchedHere point p (One first ∷ map (Two first) es) c.args.found.now c.count_later.new.found) (sym events) whole) where
      asked : c.args.pairs ≡ true
      asked = cc
