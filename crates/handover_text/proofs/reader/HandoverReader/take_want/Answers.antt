use Rattle.std.proofs.Common.{◌<◌, length, arith, sym, ◌∙◌}
use Rattle.std.proofs.lemmas.Bool.{both_ways}
use Rattle.master_listeners.proofs.Additions.{is_added}
use Rattle.handover_text.proofs.LinesRead.{want_taken}
use Rattle.handover_text.proofs.reader.HandoverReader.take_want.Goals as goal

pub returns : goal.returns
returns c =
    let want = c.self.inside.want in
    let room : length want < 64 = omega (arith, c.len.ensures.count, c.len.ensures.most, c.if-len-eq-MOST_LISTENERS.false) in
    let new =
    is_added c.add.result _ c.add.ensures.ok
    (λ e. both_ways c.holds.result c.if-holds.false (c.holds.ensures.held.1 (c.add.ensures.doubled.0 e)))
    (λ e. let full = (c.add.ensures.too_many.0 e).0 in omega (arith, full, room)) in
    rw (← c.self.view_is)
    (want_taken c.args.number _ _ c.args.rest.now c.in-Ok.address c.add.new.self (sym c.in-Ok.ensures.exact) (sym c.holds.ensures.value ∙ c.if-holds.false) room new)
