use Rattle.std.proofs.Common.{◌≡◌, drop}
use Rattle.definitions.specs.Run.{Progress}
use Rattle.plan_walk.specs.Course.{turns_of}
use Rattle.explorer.specs.Branching.{pairs_here}
use Rattle.explorer.specs.Explored.{with_runs}
use Rattle.explorer.specs.Positions.{IsAt}
use Rattle.explorer.proofs.Searching.{PairsSoFar}
use Rattle.explorer.proofs.exploring.count_pairs.Given as goal

abbrev pub invariant-loop-mishap : goal.invariant-loop-mishap
invariant-loop-mishap g l =
    let run = l.point.run.now in
    (p : Progress) → IsAt run p → record {
      counts : with_runs run.state.now run.target.now (turns_of run.course) run.first.now.table (pairs_here l.point l.first (drop l.mishap-index l.mishaps)) l.found.tally
          ≡ with_runs run.state.now run.target.now (turns_of run.course) run.first.now.table (pairs_here l.point l.first l.mishaps) l.fn.found.tally;
      searched : PairsSoFar l.point p l.gone l.first l.mishaps l.mishap-index l.fn.found l.found;
    }
