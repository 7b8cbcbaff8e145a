use Rattle.std.proofs.Common.{ap, ◌∙◌}
use Rattle.listener_set.specs.Numbers.{with_number}
use Rattle.listener_set.proofs.NumberSets.{numbers_below-more}
use Rattle.listener_set.proofs.numbers.Numbers.below.Goals as goal

pub loop-nr-preserved : goal.loop-nr-preserved
loop-nr-preserved c = c.add.ensures ∙ ap (λ ns. with_number ns c.loop-nr.nr) c.loop-nr.invariant ∙ numbers_below-more c.loop-nr.nr
