use Rattle.std.proofs.Common.{[], ◌∷◌}
use Rattle.plain_text.proofs.KeptTexts.{three_on}
use Rattle.call_text.specs.CallText.{master_text, call_text}
use Rattle.call_text.proofs.calls.put_call.Goals as goal

pub returns-clause-text : goal.returns-clause-text
returns-clause-text g c =
    rw (← three_on g.S.Sink.most (g.S.Sink.text c.args.out.now) (master_text c.args.by) (32 ∷ []) (call_text c.args.call.now), ← c.in_ok-write_master.ensures.text, ← c.in_ok-put.ensures)
    c.write_verb.ensures.text
