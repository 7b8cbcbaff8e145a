use Rattle.std.proofs.Common.{◌+◌, ◌<◌, ◌++◌, ◌∷◌, length, drop, sym, ◌∙◌, ap, append_assoc, arith}
use Rattle.std.proofs.lemmas.List.{drop_more}
use Rattle.std.proofs.lemmas.Option.{get_or_from_slice_get}
use Rattle.call_text.specs.ReportText.{entry_text, entries_text}
use Rattle.transcript.proofs.block.write_body.Goals as goal

pub loop-place-preserved : goal.loop-place-preserved
loop-place-preserved c =
    let entries = c.in-Ran.log.entries in
    let place = c.loop-place.place in
    let e = c.get.result in
    let within : place < length entries = omega (arith, c.loop-place-test.true, c.len-place-end.ensures.count) in
    let more = drop_more entries place e within ∙ ap (λ x. x ∷ drop (place + 1) entries) (get_or_from_slice_get entries place e e c.get.ensures) in
    let rest = entries_text (place + 1 + 1) (drop (place + 1) entries) in
    ap (λ out. out ++ rest) c.in_ok-write_entry-in-Ran.ensures
    ∙ (append_assoc c.loop-place.out.items (entry_text (place + 1) e) rest
    ∙ (sym (ap (λ es. c.loop-place.out.items ++ entries_text (place + 1) es) more) ∙ c.loop-place.invariant))
