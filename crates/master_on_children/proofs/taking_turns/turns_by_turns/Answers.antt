use Rattle.std.proofs.Common.{[], ◌∷◌, ◌++◌, ap, ◌∙◌}
use Rattle.definitions.specs.Plans.{Old}
use Rattle.master_on_children.proofs.Alternating.{once-more}
use Rattle.master_on_children.proofs.taking_turns.turns_by_turns.Goals as goal

pub loop-preserved : goal.loop-preserved
loop-preserved c =
    c.in_ok-add-2.ensures.ok ∙ ap (λ turns. turns ++ Old ∷ []) c.in_ok-add.ensures.ok
    ∙ once-more c.loop.counter c.loop.turns c.loop.invariant
