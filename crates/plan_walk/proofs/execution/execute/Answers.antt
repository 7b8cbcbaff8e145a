use Rattle.std.proofs.Common.{◌≡◌, ◌∷◌, [], List, length, arith, sym, ◌∙◌, ap, subst, length-append}
use Rattle.vocabulary.specs.declared.calls.Answer.TheVariants.{MasterGone}
use Rattle.vocabulary.specs.declared.reports.Entry.{Entry}
use Rattle.plan_walk.specs.Path.{Trail, begin, trail_after, advance, Asks, Follows}
use Rattle.rollback_plan.specs.Plans.{tree_under, note_of}
use Rattle.plan_walk.specs.Fit.{height_next}
use Rattle.plan_walk.specs.Course.{trail_on}
use Rattle.plan_walk.proofs.Paths.{after-push, Follows-push, asks_height}
use Rattle.plan_walk.proofs.TurnsUsed.{no_rest}
use Rattle.plan_walk.proofs.execution.execute.Goals as goal

pub loop-due-init : goal.loop-due-init
loop-due-init g c =
    let log = c.args.log.now.entries in
    let start = begin (tree_under c.args.plan.now c.args.turns.now) (note_of c.args.plan.now) in
    let none : log ≡ [] = c.requires.empty in
    let trail = c.new-course.ensures.trail in
    let high = ap (λ (t : Trail). height_next t.rest) trail in
    let most = c.new-course.ensures.longest in
    record {
      path = subst (Follows start) (sym none) tt;
      sides = c.new-course.ensures.sides;
      trail = trail ∙ ap (trail_after start) (sym none);
      follows = subst (λ (es : List Entry). g.C.Calls.follows c.args.calls.now es c.args.calls.now) (sym none) (g.met.C.Calls.follows_none c.args.calls.now);
      lost = λ lost. absurd (no_rest (sym (ap (λ (t : Trail). t.rest) trail) ∙ lost));
      longest = omega (arith, ap length none, high, most);
      calls_room = omega (arith, high, most, c.requires.calls);
      room_left = omega (arith, ap length none);
      log_room = omega (arith, high, most, c.requires.room);
    }

-- a call is left to make
pub make-answer-requires : goal.make-answer-requires
make-answer-requires g c =
    let t = trail_on c.loop-due.course in
    let left = asks_height t.rest t.lacked _ (c.in-Some.ensures.some MasterGone) in
    omega (arith, left, c.loop-due.invariant.calls_room)

pub push-requires : goal.push-requires
push-requires g c =
    let t = trail_on c.loop-due.course in
    let left = asks_height t.rest t.lacked _ (c.in-Some.ensures.some c.make-answer.result) in
    omega (arith, left, c.loop-due.invariant.log_room)

-- one entry more
pub loop-due-preserved : goal.loop-due-preserved
loop-due-preserved g c =
    let start = begin (tree_under c.args.plan.now c.args.turns.now) (note_of c.args.plan.now) in
    let old = c.loop-due.log.entries in
    let e : Entry = record { by = c.in-Some.due.by; call = c.in-Some.due.call; answer = c.make-answer.result } in
    let kept = c.loop-due.invariant in
    let pushed = c.push.ensures.entries in
    let asks = subst (λ (t : Trail). Asks t.rest t.lacked e) kept.trail (c.in-Some.ensures.some c.make-answer.result) in
    let after = c.after-course.ensures in
    record {
      path = subst (Follows start) (sym pushed) (Follows-push start old e kept.path asks);
      trail = after.trail ∙ (ap (λ t. advance t e) kept.trail ∙ (sym (after-push start old e) ∙ ap (trail_after start) (sym pushed)));
      sides = after.sides ∙ kept.sides;
      follows = subst (λ (es : List Entry). g.C.Calls.follows c.args.calls.now es c.make-answer.new.self) (sym pushed) (c.make-answer.ensures.follows c.args.calls.now old kept.follows);
      lost = λ none. (old, e, pushed, after.lost none);
      longest = omega (arith, ap length pushed, length-append old (e ∷ []), kept.longest, after.lower);
      calls_room = omega (arith, kept.calls_room, c.make-answer.ensures.room, after.lower);
      room_left = omega (arith, ap length pushed, length-append old (e ∷ []), kept.room_left, c.make-answer.ensures.room);
      log_room = omega (arith, kept.log_room, c.push.ensures.room, after.lower);
    }
