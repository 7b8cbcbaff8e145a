use Rattle.std.proofs.Common.{◌≡◌, ℕ, List, length, true, sym, ◌∙◌, subst}
use Rattle.plan_steps.specs.Numbering.{all_within}
use Rattle.plan_steps.specs.Stretches.{AreOrders}
use Rattle.plan_steps.proofs.Parted.{parted, reached_within, roots_are, roots_within}
use Rattle.plan_steps.proofs.in_parts.parts_order.Goals as goal

pub roots_of_rest-requires : goal.roots_of_rest-requires
roots_of_rest-requires c = reached_within c.args.steps.now c.args.first.0 c.in_ok-reached.reached.items c.deref.result.now c.in_ok-splits.splits.items c.deref-2.result.now c.requires.back c.requires.first c.in_ok-reached.ensures c.deref.ensures.value c.deref-2.ensures.value c.in_ok-splits.ensures

pub order_of_parts-requires-clause-reached : goal.order_of_parts-requires-clause-reached
order_of_parts-requires-clause-reached c = reached_within c.args.steps.now c.args.first.0 c.in_ok-reached.reached.items c.deref-3.result.now c.in_ok-splits.splits.items c.deref-4.result.now c.requires.back c.requires.first c.in_ok-reached.ensures c.deref-3.ensures.value c.deref-4.ensures.value c.in_ok-splits.ensures

pub order_of_parts-requires-clause-roots : goal.order_of_parts-requires-clause-roots
order_of_parts-requires-clause-roots c =
    let steps = c.args.steps.now in
    let is = roots_are steps c.args.parts.now c.in_ok-reached.reached.items c.deref.result.now c.in_ok-splits.splits.items c.deref-2.result.now c.in_ok-roots.roots.items c.deref.ensures.value c.deref-2.ensures.value c.in_ok-splits.ensures c.in_ok-roots.ensures in
    subst (λ (ks : List ℕ). all_within (length steps) ks ≡ true) (sym (c.deref-5.ensures.value ∙ is)) (roots_within steps c.args.first.0 c.args.parts.now c.in_ok-reached.reached.items c.requires.back c.requires.first c.requires.parts c.in_ok-reached.ensures)

pub returns : goal.returns
returns c =
    let steps = c.args.steps.now in
    let reached = c.in_ok-reached.reached.items in
    let order = c.in_ok-order.order.items in
    let is = roots_are steps c.args.parts.now reached c.deref.result.now c.in_ok-splits.splits.items c.deref-2.result.now c.in_ok-roots.roots.items c.deref.ensures.value c.deref-2.ensures.value c.in_ok-splits.ensures c.in_ok-roots.ensures in
    let all = subst (λ (rs : List ℕ). AreOrders steps reached c.args.parts.now rs order) (c.deref-5.ensures.value ∙ is) (subst (λ (ks : List ℕ). AreOrders steps ks c.args.parts.now c.deref-5.result.now order) c.deref-3.ensures.value c.in_ok-order.ensures) in
    parted steps c.args.first.0 c.args.parts.now reached order c.requires.back c.requires.first c.requires.few c.requires.parts c.in_ok-reached.ensures all
