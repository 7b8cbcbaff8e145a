use Rattle.std.proofs.Common.{◌+◌, ◌∙◌, ap, refl}
use Rattle.listener_set.specs.Numbers.{with_number}
use Rattle.worker_groups.proofs.PostLists.{range-next}
use Rattle.plan_rollout.proofs.rolling.numbers_from.Goals as goal

pub loop-offset-preserved : goal.loop-offset-preserved
loop-offset-preserved c =
    c.add.ensures ∙ (ap (λ ns. with_number ns (c.args.first + c.loop-offset.offset)) c.loop-offset.invariant
    ∙ range-next c.args.first c.loop-offset.offset (c.args.first + c.loop-offset.offset) refl)
