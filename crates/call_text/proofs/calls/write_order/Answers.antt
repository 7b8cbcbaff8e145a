use Rattle.std.proofs.Common.{[], ◌∷◌}
use Rattle.plain_text.proofs.KeptTexts.{three_on}
use Rattle.call_text.specs.CallText.{master_text, order_text}
use Rattle.call_text.proofs.calls.write_order.Goals as goal

pub returns : goal.returns
returns g c =
    rw (← three_on g.S.Sink.most (g.S.Sink.text c.args.out.now) (master_text c.args.by) (32 ∷ []) (order_text c.args.order.now), ← c.in_ok-write_master.ensures.text, ← c.in_ok-put.ensures)
    c.write_step.ensures
