use Rattle.std.proofs.Common.{◌+◌, map, sym, ap, subst, ◌∙◌, arith}
use Rattle.std.proofs.lemmas.List.{drop_all}
use Rattle.plan_walk.specs.Course.{turns_of}
use Rattle.explorer.specs.Events.{event_at}
use Rattle.std.specs.List.{AllByRecursion}
use Rattle.table_laws.proofs.Rows.{every-append}
use Rattle.explorer.specs.declared.events.Mishap.{Mishap}
use Rattle.explorer.specs.declared.events.Tried.TheVariants.{One}
use Rattle.explorer.specs.declared.known.RestOfRun.{RestOfRun}
use Rattle.explorer.specs.Known.{IsPassed}
use Rattle.explorer.specs.Explored.{report_under, with_runs, each_with_pairs}
use Rattle.explorer.proofs.Counted.{firsts-turn}
use Rattle.std.proofs.Common.{List, inl, inr}
use Rattle.explorer.specs.Branching.{runs_with_all}
use Rattle.explorer.specs.Searched.{subject_of}
use Rattle.explorer.proofs.Searching.{OnceSeen, once-over, firsts-turned}
use Rattle.explorer.proofs.exploring.count_all_with_pairs.Goals as goal
use Rattle.explorer.proofs.exploring.count_all_with_pairs.Goals.{in-Some+in_ok-push, in_default}

pub loop-mishap-preserved : goal.loop-mishap-preserved
loop-mishap-preserved g c = λ p at.
    let point = c.args.point.now in
    let run = point.run.now in
    let ms = c.args.mishaps.now in
    let i = c.loop-mishap.mishap-index in
    let a = c.args.found.now in
    let b = c.loop-mishap.found in
    let counted = c.count_with_pairs.new.found in
    let kept = c.loop-mishap.invariant p at in
    let turn = c.in_ok-rest.ensures.searched p at in
    record {
      known = λ all. elim c.match-known_at_next.branch [
        | in-Some+in_ok-push w ↦
            let is = w.in-Some.ensures in
            let report = ap (λ (x : RestOfRun). x.report) (sym is.2) ∙ c.in_ok-rest.ensures.report p at all ∙ ap (λ (m : Mishap). report_under run.state.now run.target.now (turns_of run.course) run.first.now.table (One (event_at (run.made + 1) m))) is.1 in
            subst (AllByRecursion (IsPassed run c.args.point.now.due.now.call)) (sym (ap (λ v. v.items) w.next-is ∙ w.in_ok-push.ensures))
            (every-append (IsPassed run c.args.point.now.due.now.call) c.loop-mishap.next.items _ (kept.known all) (is.0, report))
        | in_default w ↦ subst (AllByRecursion (IsPassed run c.args.point.now.due.now.call)) (sym (ap (λ v. v.items) w.next-is)) (kept.known all)
      ];
      searched = firsts-turned point p c.args.pairs ms i _ a b counted c.loop-mishap.next.items _ c.loop-mishap-test.true turn
          (elim c.match-known_at_next.branch [
            | in-Some+in_ok-push w ↦ let is = w.in-Some.ensures in inl (_, is.0, is.1, ap (λ v. v.items) w.next-is ∙ w.in_ok-push.ensures)
            | in_default w ↦ inr (ap (λ v. v.items) w.next-is)
          ]) kept.searched;
      counts = λ all.
          firsts-turn run.state.now run.target.now (turns_of run.course) run.first.now.table c.args.pairs (run.made + 1) c.args.mishaps.now c.loop-mishap.mishap-index _ c.loop-mishap.found.tally c.count_with_pairs.new.found.tally c.loop-mishap-test.true (c.in_ok-rest.ensures.counted p at all)
          ∙ kept.counts all;
    }

pub returns-clause-known : goal.returns-clause-known
returns-clause-known g c = λ p at all. (c.loop-mishap.invariant p at).known all

pub returns-clause-counted : goal.returns-clause-counted
returns-clause-counted g c = λ p at all.
    let run = c.args.point.now.run.now in
    let r = run.state.now in
    let to = run.target.now in
    let turns = turns_of run.course in
    let t = run.first.now.table in
    sym (ap (λ ms. with_runs r to turns t (each_with_pairs r to turns t c.args.pairs (map (event_at (run.made + 1)) ms)) c.loop-mishap.found.tally) (drop_all c.loop-mishap.mishap-index c.args.mishaps.now (omega (arith, c.loop-mishap-test.false))))
    ∙ (c.loop-mishap.invariant p at).counts all

pub returns-clause-searched : goal.returns-clause-searched
returns-clause-searched g c = λ p at.
    let point = c.args.point.now in
    let kept = c.loop-mishap.invariant p at in
    let s = subject_of point.run.now in
    record {
      onward = kept.searched.onward;
      seen = λ seen here all. once-over s c.loop-mishap.found (runs_with_all point c.args.pairs c.args.mishaps.now)
          (subst (λ (xs : List Mishap). OnceSeen s c.loop-mishap.found (runs_with_all point c.args.pairs xs) (runs_with_all point c.args.pairs c.args.mishaps.now))
          (drop_all c.loop-mishap.mishap-index c.args.mishaps.now (omega (arith, c.loop-mishap-test.false))) (kept.searched.once seen here all));
    }

pub returns-clause-passed : goal.returns-clause-passed
returns-clause-passed g c = λ p at. (c.loop-mishap.invariant p at).searched.passed
