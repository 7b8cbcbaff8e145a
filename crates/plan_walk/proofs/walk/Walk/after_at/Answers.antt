use Rattle.std.proofs.Common.{◌≡◌, ◌+◌, ◌<◌, ◌≤◌, ◌^◌, ℕ, Option, Some, refl, sym, ◌∙◌, ap, subst, List, arith}
use Rattle.definitions.specs.Run.{Tree, reply_of, plain_reply, Entry, Lack, lacked_after}
use Rattle.call_laws.specs.Lengths.{height}
use Rattle.plan_walk.specs.Path.{Asks}
use Rattle.rollback_plan.specs.declared.cursor.Cursor.{Cursor}
use Rattle.rollback_plan.specs.Bounds.{lacked_in}
use Rattle.rollback_plan.specs.Cursors.{rest_under, left_after, IsTurn}
use Rattle.plan_walk.specs.Fit.{height_next}
use Rattle.plan_walk.specs.Rests.{rest_in, left_in, IsTurnIn}
use Rattle.plan_walk.proofs.Edges.{begins_set, begun_by, begun_height, asks_one, answers_one, lost_after, advanced_lost, advanced_on, causes_of}
use Rattle.plan_walk.proofs.Paths.{asks_height}
use Rattle.plan_walk.proofs.TurnsUsed.{no_call, rest_answers, rest_lower, rest_countable}
use Rattle.plan_walk.proofs.walk.Walk.after_at.Goals as goal

pub unreachable-requires : goal.unreachable-requires
unreachable-requires c =
    let w = c.args.self.now in
    let turns = c.requires.asks.turns in
    subst (λ (o : Option Cursor). Asks (rest_in o turns) (lacked_in w.bound) c.args.entry.now) c.in_default.is c.requires.asks.asks

pub unreachable-requires-in_default-step : goal.unreachable-requires-in_default-step
unreachable-requires-in_default-step c =
    let w = c.args.self.now in
    let turns = c.requires.asks.turns in
    no_call (rest_under c.in-Some.cursor turns) (lacked_in w.bound) c.args.entry.now (c.in_default-step.ensures.none turns)
    (subst (λ (o : Option Cursor). Asks (rest_in o turns) (lacked_in w.bound) c.args.entry.now) c.in-Some.is c.requires.asks.asks)

-- a call is left, so one more is counted
counted : (made : ℕ) (rest : Option Tree) (lacked : List Lack) (e : Entry) → Asks rest lacked e → made + height_next rest < 2 ^ 32 → made + 1 < 2 ^ 32
counted made rest lacked e asks below = omega (arith, asks_height rest lacked e asks, below)

pub overflow_add-made : goal.overflow_add-made
overflow_add-made c =
    let w = c.args.self.now in
    let turns = c.requires.asks.turns in
    let n = counted w.made (rest_in w.rest turns) (lacked_in w.bound) c.args.entry.now c.requires.asks.asks (w.countable turns) in
    omega (arith, n)

pub invariant_of-result : goal.invariant_of-result
invariant_of-result c =
    let w = c.args.self.now in
    let turns = c.requires.asks.turns in
    let n = counted w.made (rest_in w.rest turns) (lacked_in w.bound) c.args.entry.now c.requires.asks.asks (w.countable turns) in
    record { answers = λ _. refl; countable = λ _. omega (arith, n) }

pub returns-in_default-follow-clause-trail : goal.returns-in_default-follow-clause-trail
returns-in_default-follow-clause-trail c = λ turns turn.
    let w = c.args.self.now in
    let k = c.in-Some.cursor in
    let e = c.args.entry.now in
    let s = c.in-Some-step.step.now in
    let set = s.set in
    let t = rest_under k turns in
    let first : IsTurn k c.args.turn turns = subst (λ (o : Option Cursor). IsTurnIn o c.args.turn turns) c.in-Some.is turn in
    let begun = c.in-Some-step.ensures.some.first turns first in
    let is : rest_in w.rest turns ≡ Some t = ap (λ o. rest_in o turns) c.in-Some.is in
    let causes = causes_of w.cause c.first_cause-cause.result (w.made + 1) c.eq-plain.result c.reply_to.result c.plain_reply.result (reply_of set e.answer) (plain_reply e.call) c.first_cause-cause.ensures c.eq-plain.ensures (c.reply_to.ensures ∙ ap (λ (ks : List ℕ). reply_of ks e.answer) c.set.ensures) c.plain_reply.ensures in
    let given = c.requires.asks in
    let asked = subst (λ (o : Option Cursor). Asks (rest_in o given.turns) (lacked_in w.bound) e) c.in-Some.is given.asks in
    let began = c.in-Some-step.ensures.some.first given.turns (subst (λ (o : Option Cursor). IsTurnIn o c.args.turn given.turns) c.in-Some.is given.first) in
    let by : e.by ≡ s.by = begun_by (rest_under k given.turns) s (lacked_in w.bound) e began asked in
    let all : lacked_in c.take.new.self ≡ lacked_after e.by set e.answer (lacked_in w.bound) = c.take.ensures.lacked ∙ ap (λ (image : ℕ). lacked_after image set e.answer (lacked_in w.bound)) (sym by) in
    advanced_lost (rest_in w.rest turns) t set w.bound.ready c.take.new.self.ready (lacked_in w.bound) (lacked_in c.take.new.self) w.note w.cause c.first_cause-cause.result w.made e
    is (begins_set t s begun) c.take.ensures.ready all causes (c.in_default-follow.ensures turns first)

pub returns-in_default-follow-clause-lower : goal.returns-in_default-follow-clause-lower
returns-in_default-follow-clause-lower c = λ turns turn.
    let k = c.in-Some.cursor in
    let first : IsTurn k c.args.turn turns = subst (λ (o : Option Cursor). IsTurnIn o c.args.turn turns) c.in-Some.is turn in
    subst (λ (o : Option Cursor). 1 ≤ height_next (rest_in o turns)) (sym c.in-Some.is) (begun_height (rest_under k turns) c.in-Some-step.step.now (c.in-Some-step.ensures.some.first turns first))

pub returns-in_default-follow-clause-lost : goal.returns-in_default-follow-clause-lost
returns-in_default-follow-clause-lost c =
    let w = c.args.self.now in
    let k = c.in-Some.cursor in
    let e = c.args.entry.now in
    let turns = c.requires.asks.turns in
    let turn = c.requires.asks.first in
    let first : IsTurn k c.args.turn turns = subst (λ (o : Option Cursor). IsTurnIn o c.args.turn turns) c.in-Some.is turn in
    let t = rest_under k turns in
    let is : rest_in w.rest turns ≡ Some t = ap (λ o. rest_in o turns) c.in-Some.is in
    λ _. lost_after t (lacked_in w.bound) e.by e.call e.answer (asks_one (rest_in w.rest turns) t (lacked_in w.bound) e is c.requires.asks.asks) (answers_one (rest_in w.rest turns) t is (w.answers turns)) c.requires.listed (c.in_default-follow.ensures turns first)

pub invariant_of-result-2 : goal.invariant_of-result-2
invariant_of-result-2 c =
    let w = c.args.self.now in
    let k = c.in-Some.cursor in
    let way = c.in-Some-follow.way in
    record {
      answers = rest_answers w.rest k way.rest c.args.turn c.args.entry.now.answer way.note c.in-Some.is w.answers c.in-Some-follow.ensures;
      countable = rest_countable w.made w.rest k way.rest c.args.turn c.args.entry.now.answer way.note c.in-Some.is w.countable c.in-Some-follow.ensures;
    }

pub returns-clause-trail : goal.returns-clause-trail
returns-clause-trail c = λ turns turn.
    let w = c.args.self.now in
    let k = c.in-Some.cursor in
    let e = c.args.entry.now in
    let s = c.in-Some-step.step.now in
    let set = s.set in
    let way = c.in-Some-follow.way in
    let t = rest_under k turns in
    let first : IsTurn k c.args.turn turns = subst (λ (o : Option Cursor). IsTurnIn o c.args.turn turns) c.in-Some.is turn in
    let begun = c.in-Some-step.ensures.some.first turns first in
    let is : rest_in w.rest turns ≡ Some t = ap (λ o. rest_in o turns) c.in-Some.is in
    let left : left_in w.rest turns ≡ left_after k turns = ap (λ o. left_in o turns) c.in-Some.is in
    let causes = causes_of w.cause c.first_cause-cause.result (w.made + 1) c.eq-plain.result c.reply_to.result c.plain_reply.result (reply_of set e.answer) (plain_reply e.call) c.first_cause-cause.ensures c.eq-plain.ensures (c.reply_to.ensures ∙ ap (λ (ks : List ℕ). reply_of ks e.answer) c.set.ensures) c.plain_reply.ensures in
    let given = c.requires.asks in
    let asked = subst (λ (o : Option Cursor). Asks (rest_in o given.turns) (lacked_in w.bound) e) c.in-Some.is given.asks in
    let began = c.in-Some-step.ensures.some.first given.turns (subst (λ (o : Option Cursor). IsTurnIn o c.args.turn given.turns) c.in-Some.is given.first) in
    let by : e.by ≡ s.by = begun_by (rest_under k given.turns) s (lacked_in w.bound) e began asked in
    let all : lacked_in c.take.new.self ≡ lacked_after e.by set e.answer (lacked_in w.bound) = c.take.ensures.lacked ∙ ap (λ (image : ℕ). lacked_after image set e.answer (lacked_in w.bound)) (sym by) in
    rw left
    (advanced_on (rest_in w.rest turns) t set w.bound.ready c.take.new.self.ready (lacked_in w.bound) (lacked_in c.take.new.self) w.note c.unwrap_or.result w.cause c.first_cause-cause.result w.made e
    (way.note, rest_under way.rest (left_after k turns))
    is (begins_set t s begun) c.take.ensures.ready all causes (c.in-Some-follow.ensures turns first) c.unwrap_or.ensures)

pub returns-clause-lower : goal.returns-clause-lower
returns-clause-lower c = λ turns turn.
    let w = c.args.self.now in
    let k = c.in-Some.cursor in
    let way = c.in-Some-follow.way in
    let first : IsTurn k c.args.turn turns = subst (λ (o : Option Cursor). IsTurnIn o c.args.turn turns) c.in-Some.is turn in
    subst (λ (o : Option Cursor). height (rest_under way.rest (left_in o turns)) + 1 ≤ height_next (rest_in o turns)) (sym c.in-Some.is) (rest_lower k way.rest c.args.turn c.args.entry.now.answer way.note c.in-Some-follow.ensures turns first)
