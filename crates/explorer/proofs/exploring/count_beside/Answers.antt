use Rattle.std.proofs.Common.{◌≡◌, ◌+◌, List, OnOk, map, sym, ap, subst, ◌∙◌}
use Rattle.definitions.specs.Calls.{after_exits}
use Rattle.call_laws.specs.Pieces.{quiet}
use Rattle.definitions.specs.Master.{handover_for}
use Rattle.plan_executor.specs.Naming.{listed}
use Rattle.plan_walk.specs.Course.{turns_of}
use Rattle.explorer.specs.declared.events.Mishap.{Mishap}
use Rattle.explorer.specs.declared.events.Tried.TheVariants.{Two}
use Rattle.explorer.specs.Events.{event_at, mishaps_at, beside, waiting, with_mishap}
use Rattle.explorer.specs.Explored.{with_runs}
use Rattle.std.proofs.Common.{refl, arith}
use Rattle.std.proofs.lemmas.Result.{on_ok_weaker}
use Rattle.explorer.specs.declared.events.Mishap.TheVariants.{Exit}
use Rattle.explorer.specs.declared.events.Tried.{Tried}
use Rattle.explorer.specs.declared.events.Tried.TheVariants.{One}
use Rattle.explorer.specs.Events.{pattern_of}
use Rattle.explorer.specs.Branching.{pairs_here, beside_here}
use Rattle.explorer.specs.Positions.{IsSameUpTo}
use Rattle.explorer.specs.Searched.{subject_of, IsSeenAt, AreSeen}
use Rattle.explorer.proofs.Meeting.{same-before, at-event}
use Rattle.explorer.proofs.Seeing.{onward-same}
use Rattle.explorer.proofs.Searching.{middle-seen}
use Rattle.explorer.proofs.exploring.count_beside.Goals as goal

pub returns-in_ok-mishaps-in-Exit-clause-counted : goal.returns-in_ok-mishaps-in-Exit-clause-counted
returns-in_ok-mishaps-in-Exit-clause-counted g c = λ p at.
    let run = c.args.point.now.run.now in
    let due = c.args.point.now.due.now in
    let handed = handover_for run.state.now run.target.now in
    let waits = waiting due.call (listed run.heir) in
    let there : c.deref.result.now ≡ beside handed due.by due.call waits c.args.first.mishap (after_exits (with_mishap c.args.first.mishap quiet).exits run.kernel.table) =
    c.deref.ensures.value
    ∙ c.in_ok-mishaps-in-Exit.ensures
    ∙ (λ i. mishaps_at (at.handed i) due.by due.call (c.waiting-heir.ensures i) c.in-Exit.process (c.in_ok-kernel-in-Exit.ensures i))
    ∙ ap (λ (m : Mishap). beside handed due.by due.call waits m (after_exits (with_mishap m quiet).exits run.kernel.table)) (sym c.in-Exit.is) in
    subst (λ (ms : List Mishap). OnOk c.count_pairs.result (c.count_pairs.new.found.tally ≡ with_runs run.state.now run.target.now (turns_of run.course) run.first.now.table (map (Two c.args.first) (map (event_at (run.made + 1)) ms)) c.args.found.now.tally)) there (c.count_pairs.ensures.counted p at)

pub returns-in_ok-mishaps-in-Exit-clause-searched : goal.returns-in_ok-mishaps-in-Exit-clause-searched
returns-in_ok-mishaps-in-Exit-clause-searched g c = λ p at.
    let point = c.args.point.now in
    let run = point.run.now in
    let due = point.due.now in
    let first = c.args.first in
    let handed = handover_for run.state.now run.target.now in
    let waits = waiting due.call (listed run.heir) in
    let there : c.deref.result.now ≡ beside handed due.by due.call waits first.mishap (after_exits (with_mishap first.mishap quiet).exits run.kernel.table) =
    c.deref.ensures.value
    ∙ c.in_ok-mishaps-in-Exit.ensures
    ∙ (λ i. mishaps_at (at.handed i) due.by due.call (c.waiting-heir.ensures i) c.in-Exit.process (c.in_ok-kernel-in-Exit.ensures i))
    ∙ ap (λ (m : Mishap). beside handed due.by due.call waits m (after_exits (with_mishap m quiet).exits run.kernel.table)) (sym c.in-Exit.is) in
    let same : IsSameUpTo run.made (pattern_of run.tried) (pattern_of (One first)) =
    λ m le. same-before first (λ _. quiet) run.made (omega (arith, c.requires.first)) m le ∙ sym (ap (λ (x : Tried). pattern_of x m) c.requires.tried) in
    let moment : pattern_of (One first) (run.made + 1) ≡ with_mishap (Exit c.in-Exit.name c.in-Exit.process) quiet =
    at-event first (λ _. quiet) (run.made + 1) (sym c.requires.first) ∙ ap (λ (m : Mishap). with_mishap m quiet) c.in-Exit.is in
    on_ok_weaker c.count_pairs.result (λ is. record {
      onward = is.onward;
      seen = λ seen here all. subst (λ (ms : List Mishap). AreSeen (subject_of run) c.count_pairs.new.found (pairs_here point first ms)) there
          (is.seen seen here (middle-seen run p at due c.requires.due (with_mishap (Exit c.in-Exit.name c.in-Exit.process) quiet) (IsSeenAt c.args.found.now) (pattern_of (One first)) same moment all.0));
    }) (c.count_pairs.ensures.searched p at)

pub returns-in-Fail-clause-searched : goal.returns-in-Fail-clause-searched
returns-in-Fail-clause-searched g c = λ p at.
    let point = c.args.point.now in
    record {
      onward = onward-same (subject_of point.run.now) c.args.found.now c.args.found.now (record { least = refl; most = refl; common = refl });
      seen = λ seen here all. subst (λ (m : Mishap). AreSeen (subject_of point.run.now) c.args.found.now (pairs_here point c.args.first (beside_here point m))) (sym c.in-Fail.is) tt;
    }
