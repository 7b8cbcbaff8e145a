use Rattle.std.proofs.Common.{◌≡◌, ◌≤◌, Some, map}
use Rattle.definitions.specs.Run.{Progress}
use Rattle.plan_walk.specs.Fit.{height_next}
use Rattle.plan_walk.specs.Course.{turns_of, trail_on}
use Rattle.explorer.specs.declared.events.Tried.TheVariants.{One, Two}
use Rattle.explorer.specs.Positions.{IsFit, IsAt}
use Rattle.explorer.proofs.Searching.{IsOnWay}
use Rattle.explorer.proofs.Counted.{with-second, seconds-counting}
use Rattle.explorer.proofs.Turning.{Reaches}
use Rattle.explorer.proofs.exploring.count_later.Given as goal

abbrev pub invariant-loop-due : goal.invariant-loop-due
invariant-loop-due g l =
    let r = l.fn.run.state.now in
    let to = l.fn.run.target.now in
    let given = turns_of l.fn.run.course in
    let t = l.fn.run.first.now.table in
    record {
      fit : IsFit l.run;
      first : l.run.first.now ≡ l.fn.run.first.now;
      state : l.run.state.now ≡ r;
      target : l.run.target.now ≡ to;
      turns : turns_of l.run.course ≡ given;
      tried : l.run.tried ≡ One l.first;
      made : l.first.number ≤ l.run.made;
      counts : Reaches l.fn.run (Some l.first) (with-second r to given t l.first) (seconds-counting r to given t l.first) l.run l.fn.found.tally l.found.tally;
      searched : (p : Progress) → IsAt l.fn.run p → IsOnWay l.fn.run p (Some l.first) (map (Two l.first)) l.fn.found l.run l.found;
    }

abbrev pub decreases-loop-due : goal.decreases-loop-due
decreases-loop-due g l = height_next (trail_on l.run.course).rest
