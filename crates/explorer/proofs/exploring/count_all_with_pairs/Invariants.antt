use Rattle.std.proofs.Common.{◌≡◌, map, drop}
use Rattle.std.specs.List.{AllByRecursion}
use Rattle.definitions.specs.Run.{Progress}
use Rattle.plan_walk.specs.Course.{turns_of}
use Rattle.explorer.specs.Branching.{AreKnown, event_here, runs_with_each}
use Rattle.explorer.specs.Explored.{with_runs}
use Rattle.explorer.specs.Known.{IsPassed}
use Rattle.explorer.specs.Positions.{IsAt}
use Rattle.explorer.proofs.Searching.{FirstsSoFar}
use Rattle.explorer.proofs.exploring.count_all_with_pairs.Given as goal

abbrev pub invariant-loop-mishap : goal.invariant-loop-mishap
invariant-loop-mishap g l =
    let run = l.point.run.now in
    (p : Progress) → IsAt run p → record {
      known : AreKnown l.point → AllByRecursion (IsPassed run l.point.due.now.call) l.next.items;
      counts : AreKnown l.point → with_runs run.state.now run.target.now (turns_of run.course) run.first.now.table
          (runs_with_each run l.pairs (map (event_here l.point) (drop l.mishap-index l.mishaps))) l.found.tally
          ≡ with_runs run.state.now run.target.now (turns_of run.course) run.first.now.table
          (runs_with_each run l.pairs (map (event_here l.point) l.mishaps)) l.fn.found.tally;
      searched : FirstsSoFar l.point p l.pairs l.mishaps l.mishap-index l.fn.found l.found l.next.items;
    }
