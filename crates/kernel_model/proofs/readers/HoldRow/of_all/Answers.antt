use Rattle.std.proofs.Common.{◌+◌, length, sym, ◌∙◌, arith}
use Rattle.kernel_model.proofs.Reading.{sockets-first, hold-here, hold-later}
use Rattle.kernel_model.proofs.readers.HoldRow.of_all.Goals as goal

pub hold_at-requires : goal.hold_at-requires
hold_at-requires c =
    let addresses = c.args.addresses.now in
    (sockets-first addresses c.loop-holder.holder-iterator c.next.new.self c.loop-holder.rest c.in-Some.holder.now c.in-Some.ensures.steps (length addresses + 1) c.loop-holder.invariant.sockets).0

pub returns-then-rest-count : goal.returns-then-rest-count
returns-then-rest-count c =
    c.hold_at.ensures
    ∙ sym (c.loop-holder.invariant.same ∙ hold-here c.args.addresses.now c.loop-holder.holder-iterator c.next.new.self c.loop-holder.rest c.in-Some.holder.now c.in-Some.ensures.steps (omega (arith, c.len-count.ensures.count, c.if-rest-count.true)))

pub loop-holder-preserved : goal.loop-holder-preserved
loop-holder-preserved c =
    let addresses = c.args.addresses.now in
    let left = c.loop-holder.holder-iterator in
    let count = c.len-count.ensures.count in
    record {
      same = c.loop-holder.invariant.same ∙ rw (← count) at (hold-later addresses left c.next.new.self c.loop-holder.rest c.in-Some.holder.now c.in-Some.ensures.steps (omega (arith, count, c.if-rest-count.false)));
      sockets = (sockets-first addresses left c.next.new.self c.loop-holder.rest c.in-Some.holder.now c.in-Some.ensures.steps (length addresses + 1) c.loop-holder.invariant.sockets).1;
    }
