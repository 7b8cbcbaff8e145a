use Rattle.std.proofs.Common.{◌≡◌, ◌≤◌}
use Rattle.definitions.specs.Run.{Progress}
use Rattle.plan_walk.specs.Fit.{height_next}
use Rattle.plan_walk.specs.Course.{turns_of, trail_on}
use Rattle.explorer.specs.Positions.{IsFit, IsAt}
use Rattle.explorer.specs.Readiness.{HaveAtLeast}
use Rattle.explorer.proofs.Searching.{IsFinishing}
use Rattle.explorer.proofs.position.Position.finish.Given as goal

abbrev pub invariant-loop-due : goal.invariant-loop-due
invariant-loop-due l = record {
  fit : IsFit l.self;
  first : l.self.first.now ≡ l.fn.self.first.now;
  state : l.self.state.now ≡ l.fn.self.state.now;
  target : l.self.target.now ≡ l.fn.self.target.now;
  turns : turns_of l.self.course ≡ turns_of l.fn.self.course;
  tried : l.self.tried ≡ l.fn.self.tried;
  made : l.fn.self.made ≤ l.self.made;
  found : l.found.tally ≡ l.fn.found.tally;
  at : (p : Progress) → IsAt l.fn.self p → (q : Progress) × IsAt l.self q;
  low : HaveAtLeast l.found.common.items l.self.kernel.table l.low;
  searched : (p : Progress) → IsAt l.fn.self p → IsFinishing l.fn.self p l.fn.found l.self l.found;
}

abbrev pub decreases-loop-due : goal.decreases-loop-due
decreases-loop-due l = height_next (trail_on l.self.course).rest
