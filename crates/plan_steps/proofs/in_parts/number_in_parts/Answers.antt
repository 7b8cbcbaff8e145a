use Rattle.std.proofs.Common.{◌≡◌, get_or, ℕ, List, length, ◌∙◌, ap, subst, arith}
use Rattle.plan_steps.specs.declared.step.Step.{Step}
use Rattle.plan_steps.specs.Numbering.{AreNumbers, AllNumbered}
use Rattle.plan_steps.specs.Stretches.{AreParted}
use Rattle.plan_steps.proofs.Finished.{all_back}
use Rattle.plan_steps.proofs.Parted.{parted_plan}
use Rattle.plan_steps.proofs.in_parts.number_in_parts.Goals as goal

pub numbered-requires-clause-back : goal.numbered-requires-clause-back
numbered-requires-clause-back c = all_back 0 (length c.args.steps.items) c.args.steps.items (omega arith) c.requires.back

pub returns-clause-numbered : goal.returns-clause-numbered
returns-clause-numbered c =
    let steps = c.args.steps.items in
    let first = c.args.first.0 in
    let parts = c.args.parts.now in
    let order = c.in_ok-order.order.items in
    let numbers = c.in_ok-numbers.numbers.items in
    let plan = c.in_ok-plan.plan.items in
    let h = subst (λ (xs : List Step). AreParted xs first parts order) c.deref-2.ensures.value c.in_ok-order.ensures in
    let many : c.len.result ≡ length steps = omega (arith, c.len.ensures) in
    let ns = subst (λ (n : ℕ). AreNumbers order n numbers) many (subst (λ (ks : List ℕ). AreNumbers ks c.len.result numbers) c.deref-3.ensures.value c.in_ok-numbers.ensures) in
    let all = subst (λ (ns : List ℕ). AllNumbered ns steps order plan) c.deref-6.ensures.value (subst (λ (ks : List ℕ). AllNumbered c.deref-6.result.now steps ks plan) c.deref-5.ensures.value c.in_ok-plan.ensures) in
    let read = λ (k : ℕ). ap (λ (ns : List ℕ). get_or ns k 0) c.deref-4.ensures.value in
    parted_plan steps first parts order numbers plan c.numbered_parts-told.result c.requires.back h ns all
    (c.numbered_parts-told.ensures.new ∙ read parts.new.0) (c.numbered_parts-told.ensures.old ∙ read parts.old.0)
    (c.numbered_parts-told.ensures.ready ∙ read parts.ready.0) (c.numbered_parts-told.ensures.back ∙ read parts.back.0)
