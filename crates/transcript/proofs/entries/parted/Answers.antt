use Rattle.std.proofs.Common.{◌-◌, ◌∙◌, ap, sym, arith}
use Rattle.std.proofs.lemmas.List.{take_rest}
use Rattle.transcript.specs.EntryReading.{begins_answer}
use Rattle.transcript.proofs.EntryTexts.{parted_less}
use Rattle.transcript.proofs.entries.parted.Goals as goal

pub loop-place-preserved : goal.loop-place-preserved
loop-place-preserved c =
    let place = c.loop-place.place in
    let text = c.args.text.now in
    let other = ap begins_answer (sym (take_rest text (place - 1))) ∙ sym c.if-begins_answer.ensures in
    (sym (parted_less place text c.loop-place-test.true other) ∙ c.loop-place.invariant.0, omega (arith, c.loop-place.invariant.1))
