use Rattle.std.proofs.Common.{ℕ, List, true, ◌≡◌, sym, subst}
use Rattle.plan_steps.specs.Numbering.{are_laid}
use Rattle.plan_steps.proofs.Finished.{met_laid}
use Rattle.plan_steps.proofs.ordering.order_from.Goals as goal

pub by_depth-requires : goal.by_depth-requires
by_depth-requires c =
    subst (λ (ds : List ℕ). are_laid ds c.deref.result.now ≡ true) (sym c.deref-2.ensures.value)
    (subst (λ (ms : List ℕ). are_laid c.in_ok-depths.depths.items ms ≡ true) (sym c.deref.ensures.value)
    (met_laid c.args.steps.now c.args.roots.now c.in_ok-depths.depths.items c.in_ok-met.met.items c.in_ok-depths.ensures c.in_ok-met.ensures))
