use Rattle.std.proofs.Common.{◌≡◌, ◌∙◌, arith}
use Rattle.std.proofs.lemmas.List.{take_all}
use Rattle.call_text.specs.CallText.{call_line}
use Rattle.call_text.proofs.calls.write_call.Goals as goal

pub returns : goal.returns
returns c =
    let text : c.put_call.new.out ≡ call_line c.args.by c.args.call.now =
    c.in-Ok.ensures.text
    ∙ rw c.clear.ensures (take_all 4096 (call_line c.args.by c.args.call.now) (omega (arith, c.in-Ok.ensures.short))) in
    record { text = text; room = rw text (omega (arith, c.in-Ok.ensures.short)) }
