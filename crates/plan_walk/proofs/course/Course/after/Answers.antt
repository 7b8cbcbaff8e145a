use Rattle.std.proofs.Common.{◌≤◌, ◌+◌, List, sym, ◌∙◌, ap, subst, arith}
use Rattle.definitions.specs.Plans.{Turn}
use Rattle.plan_walk.specs.Path.{Trail}
use Rattle.plan_walk.specs.Fit.{height_next}
use Rattle.plan_walk.specs.Course.{turns_left, trail_on}
use Rattle.plan_walk.specs.Walk.{trail_under}
use Rattle.plan_walk.proofs.Paths.{asks_height}
use Rattle.plan_walk.proofs.TurnsUsed.{turn_read}
use Rattle.plan_walk.proofs.Courses.{none_given}
use Rattle.plan_walk.proofs.course.Course.after.Goals as goal

pub after_at-requires-clause-asks : goal.after_at-requires-clause-asks
after_at-requires-clause-asks c =
    let course = c.args.self.now in
    record { turns = turns_left course; first = turn_read course.walk.rest c.turn.result (turns_left course) c.turn.ensures; asks = c.requires.asks }

-- a call is left, so one more is counted
pub used_after-requires : goal.used_after-requires
used_after-requires c =
    let course = c.args.self.now in
    let t = trail_on course in
    let left = asks_height t.rest t.lacked c.args.entry.now c.requires.asks in
    omega (arith, left, course.walk.countable (turns_left course))

pub invariant_of-result : goal.invariant_of-result
invariant_of-result c =
    let course = c.args.self.now in
    let turns = turns_left course in
    let made = ap (λ (t : Trail). t.made) (c.after_at.ensures.trail turns (turn_read course.walk.rest c.turn.result turns c.turn.ensures)) in
    record { few = omega (arith, made, c.used_after.ensures.few, course.few) }

pub returns-clause-trail : goal.returns-clause-trail
returns-clause-trail c =
    let course = c.args.self.now in
    let turns = turns_left course in
    ap (trail_under c.after_at.result) (sym c.used_after.ensures.left) ∙ c.after_at.ensures.trail turns (turn_read course.walk.rest c.turn.result turns c.turn.ensures)

pub returns-clause-lost : goal.returns-clause-lost
returns-clause-lost c = λ none. c.after_at.ensures.lost (none_given c.after_at.result.rest _ none)

pub returns-clause-lower : goal.returns-clause-lower
returns-clause-lower c =
    let course = c.args.self.now in
    let turns = turns_left course in
    subst (λ (left : List Turn). height_next (trail_under c.after_at.result left).rest + 1 ≤ height_next (trail_on course).rest) c.used_after.ensures.left
    (c.after_at.ensures.lower turns (turn_read course.walk.rest c.turn.result turns c.turn.ensures))
