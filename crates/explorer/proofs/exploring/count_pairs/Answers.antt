use Rattle.std.proofs.Common.{◌+◌, List, map, sym, ap, subst, ◌∙◌, arith}
use Rattle.std.proofs.lemmas.List.{drop_all}
use Rattle.plan_walk.specs.Course.{turns_of}
use Rattle.explorer.specs.declared.events.Mishap.{Mishap}
use Rattle.explorer.specs.declared.events.Tried.TheVariants.{Two}
use Rattle.explorer.specs.Branching.{pairs_here}
use Rattle.explorer.specs.Events.{event_at}
use Rattle.explorer.specs.Explored.{with_runs}
use Rattle.explorer.specs.Searched.{subject_of}
use Rattle.explorer.proofs.Counted.{pairs-turn}
use Rattle.explorer.proofs.Searching.{OnceSeen, once-over, pairs-turned}
use Rattle.explorer.proofs.exploring.count_pairs.Goals as goal

pub loop-mishap-preserved : goal.loop-mishap-preserved
loop-mishap-preserved g c = λ p at.
    let point = c.args.point.now in
    let run = point.run.now in
    let ms = c.args.mishaps.now in
    let i = c.loop-mishap.mishap-index in
    let kept = c.loop-mishap.invariant p at in
    let a = c.args.found.now in
    let b = c.loop-mishap.found in
    record {
      counts =
          pairs-turn run.state.now run.target.now (turns_of run.course) run.first.now.table (Two c.args.first) (run.made + 1) ms i _ b.tally c.count_pair.new.found.tally c.loop-mishap-test.true (c.in_ok-count_pair.ensures.counted p at)
          ∙ kept.counts;
      searched = pairs-turned point p c.args.gone c.args.first ms i _ a b c.count_pair.new.found c.loop-mishap-test.true (c.in_ok-count_pair.ensures.searched p at) kept.searched;
    }

pub returns-clause-counted : goal.returns-clause-counted
returns-clause-counted g c = λ p at.
    let run = c.args.point.now.run.now in
    sym (ap (λ ms. with_runs run.state.now run.target.now (turns_of run.course) run.first.now.table (map (Two c.args.first) (map (event_at (run.made + 1)) ms)) c.loop-mishap.found.tally) (drop_all c.loop-mishap.mishap-index c.args.mishaps.now (omega (arith, c.loop-mishap-test.false))))
    ∙ (c.loop-mishap.invariant p at).counts

pub returns-clause-searched : goal.returns-clause-searched
returns-clause-searched g c = λ p at.
    let point = c.args.point.now in
    let kept = c.loop-mishap.invariant p at in
    let all = pairs_here point c.args.first c.args.mishaps.now in
    record {
      onward = kept.searched.onward;
      seen = λ seen here behind. once-over (subject_of point.run.now) c.loop-mishap.found all
          (subst (λ (xs : List Mishap). OnceSeen (subject_of point.run.now) c.loop-mishap.found (pairs_here point c.args.first xs) all)
          (drop_all c.loop-mishap.mishap-index c.args.mishaps.now (omega (arith, c.loop-mishap-test.false))) (kept.searched.once seen here behind));
    }
