use Rattle.std.proofs.Common.{◌≡◌, ◌+◌, Some, map, sym, ap, ◌∙◌, arith}
use Rattle.call_laws.specs.Pieces.{quiet}
use Rattle.definitions.specs.Master.{handover_for}
use Rattle.plan_executor.specs.Naming.{listed}
use Rattle.plan_walk.specs.Course.{turns_of}
use Rattle.explorer.specs.declared.events.Tried.TheVariants.{Two}
use Rattle.explorer.specs.Events.{event_at, mishaps_at, waiting}
use Rattle.explorer.specs.Explored.{with_runs}
use Rattle.explorer.specs.Positions.{open_now}
use Rattle.explorer.proofs.Counted.{with-second, seconds-counting}
use Rattle.explorer.proofs.Meeting.{open-behind}
use Rattle.explorer.proofs.Turning.{turned, over}
use Rattle.std.proofs.Common.{List, refl, subst}
use Rattle.std.proofs.lemmas.List.{map-append}
use Rattle.explorer.specs.declared.events.Event.{Event}
use Rattle.explorer.specs.declared.events.Tried.{Tried}
use Rattle.explorer.specs.Events.{pattern_of}
use Rattle.explorer.specs.Searched.{subject_of, AreSeen}
use Rattle.explorer.proofs.Keeping.{none-needed}
use Rattle.explorer.proofs.Meeting.{quiet-behind}
use Rattle.explorer.proofs.Searching.{way-turned, way-over}
use Rattle.explorer.proofs.exploring.count_later.Goals as goal

pub loop-due-preserved : goal.loop-due-preserved
loop-due-preserved g c =
    let run = c.loop-due.run in
    let due = c.in-Some.due in
    let kept = c.loop-due.invariant in
    let is = c.make.ensures in
    let start = c.args.run in
    let r = start.state.now in
    let to = start.target.now in
    let turns = turns_of start.course in
    let t = start.first.now.table in
    let first = c.args.first in
    record {
      fit = is.fit;
      first = is.first ∙ kept.first;
      state = is.state ∙ kept.state;
      target = is.target ∙ kept.target;
      turns = is.turns ∙ kept.turns;
      tried = is.tried ∙ kept.tried;
      made = omega (arith, kept.made, is.made);
      counts = turned start (Some first) (with-second r to turns t first) (seconds-counting r to turns t first) run c.make.new.self due c.args.found.now.tally c.loop-due.found.tally c.count_pairs.new.found.tally is (λ p q at come.
          let waits = waiting due.call (listed run.heir) in
          let opened : map (event_at (run.made + 1)) c.deref.result.now ≡ open_now run due quiet (Some first) =
          ap (map (event_at (run.made + 1))) (c.deref.ensures.value ∙ c.in_ok-mishaps.ensures ∙ (λ i. mishaps_at (come.handed i) due.by due.call waits 0 run.kernel.table) ∙ sym (open-behind (handover_for run.state.now run.target.now) due.by due.call waits first (run.made + 1) run.kernel.table (omega (arith, kept.made)))) in
          c.in_ok-count_pairs.ensures.counted q come ∙ (λ i. with_runs (kept.state i) (kept.target i) (kept.turns i) ((kept.first i).table) (map (Two first) (opened i)) (c.look.ensures.tally i))) kept.counts;
      searched = λ p at.
          let waits = waiting due.call (listed run.heir) in
          let subject : subject_of run ≡ subject_of start = λ i. record { state = kept.state i; target = kept.target i; turns = kept.turns i; table = (kept.first i).table } in
          let moment : pattern_of run.tried (run.made + 1) ≡ quiet = ap (λ (x : Tried). pattern_of x (run.made + 1)) kept.tried ∙ quiet-behind first (λ _. quiet) run.made kept.made (λ m lt. refl) (run.made + 1) (omega arith) in
          let looked = c.look.new.self in
          way-turned start (Some first) (map (Two first)) (map-append (Two first)) run c.make.new.self due p c.args.found.now c.loop-due.found looked c.count_pairs.new.found is moment subject c.look.ensures.looked
          (c.in_ok-_ready.ensures.seen (none-needed c.loop-due.found.common.items run.kernel.table)) (λ q come.
          let opened : map (event_at (run.made + 1)) c.deref.result.now ≡ open_now run due quiet (Some first) =
          ap (map (event_at (run.made + 1))) (c.deref.ensures.value ∙ c.in_ok-mishaps.ensures ∙ (λ i. mishaps_at (come.handed i) due.by due.call waits 0 run.kernel.table) ∙ sym (open-behind (handover_for run.state.now run.target.now) due.by due.call waits first (run.made + 1) run.kernel.table (omega (arith, kept.made)))) in
          let turn = c.in_ok-count_pairs.ensures.searched q come in
          record {
            onward = turn.onward;
            seen = λ _ seen here. subst (λ (es : List Event). AreSeen (subject_of run) c.count_pairs.new.found (map (Two first) es)) opened (turn.seen seen here here);
          }) (kept.searched p at);
    }

pub returns-clause-counted : goal.returns-clause-counted
returns-clause-counted g c = λ p at.
    let start = c.args.run in
    let r = start.state.now in
    let to = start.target.now in
    let turns = turns_of start.course in
    let t = start.first.now.table in
    over start (Some c.args.first) (with-second r to turns t c.args.first) (seconds-counting r to turns t c.args.first) c.loop-due.run c.args.found.now.tally c.loop-due.found.tally c.in_default.ensures.none c.loop-due.invariant.counts p at

pub returns-clause-searched : goal.returns-clause-searched
returns-clause-searched g c = λ p at.
    let start = c.args.run in
    way-over start (Some c.args.first) (map (Two c.args.first)) (map-append (Two c.args.first)) c.loop-due.run p c.args.found.now c.loop-due.found c.in_default.ensures.none refl (c.loop-due.invariant.searched p at)
