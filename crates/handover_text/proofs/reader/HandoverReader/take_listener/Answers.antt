use Rattle.std.proofs.Common.{arith, sym, ◌∙◌}
use Rattle.handover_text.specs.Reading.{listener_read}
use Rattle.master_listeners.proofs.Listed.{AreListedFrom-push, length-listed_below}
use Rattle.handover_text.proofs.LinesRead.{listener_bounds, listener_taken}
use Rattle.handover_text.proofs.reader.HandoverReader.take_listener.Goals as goal

pub push-requires-clause-room : goal.push-requires-clause-room
push-requires-clause-room c =
    let l = c.in-Some.listener in
    let bounds = listener_bounds c.args.rest.now l (sym c.in-Some.ensures) in
    let most = length-listed_below 3 l.descriptor c.self.inside.listeners c.are_below.ensures.listed (sym c.are_below.ensures.value ∙ c.if-not-are_below.false) bounds.0 in
    omega (arith, most, bounds.1)

pub push-requires-clause-listed : goal.push-requires-clause-listed
push-requires-clause-listed c =
    let l = c.in-Some.listener in
    let bounds = listener_bounds c.args.rest.now l (sym c.in-Some.ensures) in
    AreListedFrom-push 3 c.self.inside.listeners l c.are_below.ensures.listed (sym c.are_below.ensures.value ∙ c.if-not-are_below.false) bounds.0 bounds.1 (sym c.holds.ensures ∙ c.if-holds.false)

pub returns : goal.returns
returns c =
    rw (← c.self.view_is)
    (listener_taken c.args.number _ _ (listener_read c.args.rest.now) c.in-Some.listener c.push.new.self
    (sym c.in-Some.ensures)
    (sym c.are_below.ensures.value ∙ c.if-not-are_below.false)
    (sym c.holds.ensures ∙ c.if-holds.false)
    c.push.ensures)
