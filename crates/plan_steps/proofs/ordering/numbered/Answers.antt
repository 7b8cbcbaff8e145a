use Rattle.std.proofs.Common.{◌≡◌, ◌<◌, ◌+◌, ◌++◌, ◌∷◌, [], ℕ, List, Some, true, slice_get, length, get_or, take, sym, ◌∙◌, ap, subst, arith}
use Rattle.std.proofs.lemmas.List.{take_more, length-set}
use Rattle.std.proofs.lemmas.Option.{slice_get-get_or}
use Rattle.plan_steps.specs.declared.step.Step.{Step}
use Rattle.plan_steps.specs.Steps.{all_below}
use Rattle.plan_steps.specs.Numbering.{AllNumbered}
use Rattle.plan_steps.proofs.Distinct.{next_new, left_more}
use Rattle.plan_steps.proofs.Numbers.{within_at, all_at, all_numbered-push}
use Rattle.plan_steps.proofs.ordering.numbered.Goals as goal

pub take_numbered-requires : goal.take_numbered-requires
take_numbered-requires c =
    let old = c.args.steps.items in
    let order = c.args.order.now in
    let i = c.loop-place.place-index in
    let p : ℕ = get_or order i 0 in
    let s : Step = c.index_mut-step.result.now in
    let steps = c.loop-place.steps.items in
    let low : i < length order = omega arith in
    let within : p < length steps = omega (arith, within_at (length old) order i c.requires.within low, c.loop-place.invariant.count) in
    let here : slice_get old p ≡ Some s = sym (c.loop-place.invariant.left p (next_new order i c.requires.distinct low)) ∙ (slice_get-get_or steps p s within ∙ ap Some (sym c.index_mut-step.ensures.value)) in
    subst (λ (n : ℕ). all_below n s.edges.items ≡ true) (sym c.requires.numbers) (all_at (λ t. all_below (length old) t.edges.items) old p s c.requires.back here)

pub loop-place-preserved : goal.loop-place-preserved
loop-place-preserved c =
    let old = c.args.steps.items in
    let order = c.args.order.now in
    let numbers = c.args.numbers.now in
    let i = c.loop-place.place-index in
    let p : ℕ = get_or order i 0 in
    let s : Step = c.index_mut-step.result.now in
    let steps = c.loop-place.steps.items in
    let plan = c.loop-place.plan.items in
    let low : i < length order = omega arith in
    let within : p < length steps = omega (arith, within_at (length old) order i c.requires.within low, c.loop-place.invariant.count) in
    let here : slice_get old p ≡ Some s = sym (c.loop-place.invariant.left p (next_new order i c.requires.distinct low)) ∙ (slice_get-get_or steps p s within ∙ ap Some (sym c.index_mut-step.ensures.value)) in
    let n : Step = c.in_ok-take_numbered.field-0 in
    let pushed : c.push.new.self.items ≡ plan ++ n ∷ [] = c.in_ok-push.ensures.items in
    record {
      count = length-set steps p c.take_numbered.new.step ∙ c.loop-place.invariant.count;
      left = left_more old steps order i c.take_numbered.new.step low c.loop-place.invariant.left;
      taken =
          subst (AllNumbered numbers old (take (i + 1) order)) (sym pushed)
          (subst (λ (ks : List ℕ). AllNumbered numbers old ks (plan ++ n ∷ [])) (sym (take_more order i 0 low)) (all_numbered-push numbers old (take i order) plan p s n c.loop-place.invariant.taken here c.in_ok-take_numbered.ensures));
    }
