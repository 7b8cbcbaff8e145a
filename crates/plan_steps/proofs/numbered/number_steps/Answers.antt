use Rattle.std.proofs.Common.{[], ◌∷◌, length, map, ◌∙◌, ap, arith}
use Rattle.std.proofs.lemmas.List.{length-map}
use Rattle.call_laws.specs.Lengths.{height}
use Rattle.plan_steps.specs.Steps.{trees_after}
use Rattle.plan_steps.proofs.StepTrees.{length-trees}
use Rattle.plan_steps.proofs.Finished.{lone_root, finished, all_back, height_of}
use Rattle.plan_steps.proofs.Distinct.{can_be_order}
use Rattle.plan_steps.proofs.numbered.number_steps.Goals as goal

pub order_from-requires-clause-roots : goal.order_from-requires-clause-roots
order_from-requires-clause-roots c = lone_root (length c.deref-2.result.now) c.args.first.0 (omega (arith, c.requires.first, ap length c.deref-2.ensures.value))

pub in_order-requires-clause-order : goal.in_order-requires-clause-order
in_order-requires-clause-order c =
    let steps = c.args.steps.items in
    can_be_order steps c.deref-2.result.now (c.args.first.0 ∷ []) c.in_ok-order.order.items c.deref-3.result.now c.deref-2.ensures.value c.requires.back (lone_root (length steps) c.args.first.0 c.requires.first) (omega (arith, c.requires.few)) c.in_ok-order.ensures c.deref-3.ensures.value

pub in_order-requires-clause-back : goal.in_order-requires-clause-back
in_order-requires-clause-back c =
    let steps = c.args.steps.items in
    all_back 0 (length steps) steps (omega arith) c.requires.back

pub index-requires : goal.index-requires
index-requires c = omega (arith, c.requires.first, ap length c.in_ok-heights.ensures.heights, length-map (trees_after [] c.deref.result.now) height, length-trees c.deref.result.now, ap length c.deref.ensures.value)

pub returns-clause-numbered : goal.returns-clause-numbered
returns-clause-numbered c =
    let steps = c.args.steps.items in
    finished steps c.deref-2.result.now c.args.first.0 c.in_ok-order.order.items c.deref-3.result.now c.in_ok-plan.plan.items c.deref-2.ensures.value c.requires.back (lone_root (length steps) c.args.first.0 c.requires.first) c.in_ok-order.ensures c.deref-3.ensures.value c.in_ok-plan.ensures

pub returns-clause-longest : goal.returns-clause-longest
returns-clause-longest c =
    let steps = c.args.steps.items in
    height_of steps c.in_ok-heights.heights.items c.args.first.0 c.index.result.now (c.in_ok-heights.ensures.heights ∙ ap (λ xs. map height (trees_after [] xs)) c.deref.ensures.value) c.index.ensures c.requires.first
