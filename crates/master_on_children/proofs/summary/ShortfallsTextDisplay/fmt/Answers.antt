use Rattle.std.proofs.Common.{ap, ◌∙◌}
use Rattle.std.proofs.Output.{has_written_of_eq}
use Rattle.call_text.specs.ReportText.{shortfalls_text}
use Rattle.call_text.proofs.ShortfallTexts.{shortfalls_parted}
use Rattle.master_on_children.proofs.summary.ShortfallsTextDisplay.fmt.Goals as goal

pub returns-in-len1-up-clause-writes : goal.returns-in-len1-up-clause-writes
returns-in-len1-up-clause-writes g c plain ok =
    has_written_of_eq _ _ _ _ _ (shortfalls_parted c.as_slice.result.now c.in-len1-up.len_at_least ∙ ap shortfalls_text c.as_slice.ensures.items) (c.write.ensures.writes plain ok)
