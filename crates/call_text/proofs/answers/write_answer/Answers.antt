use Rattle.std.proofs.Common.{◌≡◌, ◌∙◌, arith}
use Rattle.std.proofs.lemmas.List.{take_all}
use Rattle.call_text.specs.CallText.{answer_text}
use Rattle.call_text.proofs.answers.write_answer.Goals as goal

pub returns : goal.returns
returns c =
    let text : c.put_answer.new.out ≡ answer_text c.args.answer.now =
    c.in-Ok.ensures.text
    ∙ rw c.clear.ensures (take_all 4096 (answer_text c.args.answer.now) (omega (arith, c.in-Ok.ensures.short))) in
    record { text = text; room = rw text (omega (arith, c.in-Ok.ensures.short)) }
