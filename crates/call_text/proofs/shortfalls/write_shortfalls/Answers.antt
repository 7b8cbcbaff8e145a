use Rattle.std.proofs.Common.{◌++◌, ap, ◌∙◌, append_assoc}
use Rattle.call_text.specs.ReportText.{shortfalls_text}
use Rattle.call_text.proofs.ShortfallTexts.{shortfalls_parted}
use Rattle.call_text.proofs.shortfalls.write_shortfalls.Goals as goal

pub loop-count-init : goal.loop-count-init
loop-count-init c =
    rw (c.in_ok-write_number.ensures.text, c.from.ensures)
    (append_assoc c.args.out.now.items _ _
    ∙ ap (λ t. c.args.out.now.items ++ t) (shortfalls_parted c.as_slice.result.now c.in-len1-up.len_at_least ∙ ap shortfalls_text c.as_slice.ensures.items))
