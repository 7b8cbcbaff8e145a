use Rattle.std.proofs.Common.{◌≡◌, ◌≤◌, ◌+◌, length, None}
use Rattle.plan_walk.specs.Path.{begin, trail_after, Follows, EndsGone}
use Rattle.rollback_plan.specs.Plans.{tree_under, length_of, note_of, sides_told}
use Rattle.plan_walk.specs.Fit.{height_next}
use Rattle.plan_walk.specs.Course.{trail_on, sides_on}
use Rattle.plan_walk.proofs.execution.execute.Given as goal

abbrev pub invariant-loop-due : goal.invariant-loop-due
invariant-loop-due g l =
    let start = begin (tree_under l.fn.plan l.turns) (note_of l.fn.plan) in
    let left = height_next (trail_on l.course).rest in
    record {
      path : Follows start l.log.entries;
      sides : sides_on l.course ≡ sides_told l.fn.plan;
      trail : trail_on l.course ≡ trail_after start l.log.entries;
      follows : g.C.Calls.follows l.fn.calls l.log.entries l.calls;
      lost : (trail_on l.course).rest ≡ None → EndsGone l.log.entries;
      longest : length l.log.entries + left ≤ length_of l.fn.plan;
      calls_room : left ≤ g.C.Calls.room l.calls;
      room_left : g.C.Calls.room l.fn.calls ≤ g.C.Calls.room l.calls + length l.log.entries;
      log_room : left ≤ l.log.room;
    }

abbrev pub decreases-loop-due : goal.decreases-loop-due
decreases-loop-due g l = height_next (trail_on l.course).rest
