use Rattle.std.proofs.Common.{◌+◌, ◌++◌, drop, slice_get, sym, ap, ◌∙◌, append_assoc}
use Rattle.pattern_text.specs.TurnsText.{letters, letter_text}
use Rattle.pattern_text.proofs.TurnLetters.{letters-at}
use Rattle.pattern_text.proofs.turns_line.write_letters.Goals as goal

pub loop-place-preserved : goal.loop-place-preserved
loop-place-preserved c =
    let turns = c.args.turns.now in
    let i = c.loop-place.place in
    let old = c.loop-place.out.items in
    ap (λ t. t ++ letters (drop (i + 1) turns)) c.in_ok-write_letter.ensures
    ∙ append_assoc old (letter_text (slice_get turns i)) (letters (drop (i + 1) turns))
    ∙ ap (λ t. old ++ t) (sym (letters-at turns i))
    ∙ c.loop-place.invariant
