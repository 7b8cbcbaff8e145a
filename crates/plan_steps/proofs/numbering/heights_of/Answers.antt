use Rattle.std.proofs.Common.{◌≡◌, ◌+◌, ◌++◌, ◌∷◌, [], ℕ, List, true, length, get_or, map, take, refl, sym, ◌∙◌, ap, subst, arith, length-take}
use Rattle.std.proofs.lemmas.List.{length-map}
use Rattle.std.proofs.lemmas.Option.{slice_get_read}
use Rattle.call_laws.specs.Lengths.{height}
use Rattle.plan_steps.specs.Steps.{trees_after, all_below}
use Rattle.plan_steps.specs.Numbering.{highest_behind}
use Rattle.plan_steps.specs.declared.step.PlanEdge.{PlanEdge}
use Rattle.plan_steps.proofs.StepTrees.{length-trees, trees_after-nil, trees-more, back_at}
use Rattle.plan_steps.proofs.Heights.{height_more, highest_within, within_more}
use Rattle.plan_steps.proofs.numbering.heights_of.Goals as goal

pub loop-step-init : goal.loop-step-init
loop-step-init c =
    record {
      heights = c.in_ok-heights.ensures.items ∙ ap (map height) (sym trees_after-nil);
      within = λ k. omega (arith, ap (λ hs. get_or hs k 0) c.in_ok-heights.ensures.items);
    }

pub tallest_behind-tallest-requires : goal.tallest_behind-tallest-requires
tallest_behind-tallest-requires c =
    let steps = c.args.steps.now in
    let i = c.loop-step.step-index in
    let s = c.step-item.result in
    let many : length c.deref-in-loop-step.result.now ≡ 0 + i =
    ap length (c.deref-in-loop-step.ensures.value ∙ c.loop-step.invariant.heights) ∙ (length-map (trees_after [] (take i steps)) height ∙ (length-trees (take i steps) ∙ omega (arith, length-take i steps))) in
    let back = back_at 0 steps i s c.requires.back (slice_get_read steps (length steps) i s refl (omega arith) c.step-item.is) in
    subst (λ (es : List PlanEdge). all_below (length c.deref-in-loop-step.result.now) es ≡ true) (sym c.deref.ensures.value) (subst (λ (n : ℕ). all_below n s.edges.items ≡ true) (sym many) back)

pub overflow_add-tallest : goal.overflow_add-tallest
overflow_add-tallest c =
    let small = highest_within c.loop-step.step-index c.deref-in-loop-step.result.now c.deref.result.now
    (λ k. omega (arith, c.loop-step.invariant.within k, ap (λ hs. get_or hs k 0) c.deref-in-loop-step.ensures.value)) in
    omega (arith, small, c.requires.few, c.tallest_behind-tallest.ensures)

pub loop-step-preserved : goal.loop-step-preserved
loop-step-preserved c =
    let steps = c.args.steps.now in
    let i = c.loop-step.step-index in
    let s = c.step-item.result in
    let h = c.tallest_behind-tallest.result in
    let trees = trees_after [] (take i steps) in
    let read = c.deref-in-loop-step.ensures.value ∙ c.loop-step.invariant.heights in
    let tall : h ≡ highest_behind (map height trees) s.edges.items =
    c.tallest_behind-tallest.ensures ∙ (ap (λ hs. highest_behind hs c.deref.result.now) read ∙ ap (highest_behind (map height trees)) c.deref.ensures.value) in
    let small = highest_within i c.deref-in-loop-step.result.now c.deref.result.now
    (λ k. omega (arith, c.loop-step.invariant.within k, ap (λ hs. get_or hs k 0) c.deref-in-loop-step.ensures.value)) in
    record {
      heights =
          c.in_ok-push.ensures.items
          ∙ (ap (λ hs. hs ++ (h + 1) ∷ []) c.loop-step.invariant.heights ∙ (height_more trees s h tall ∙ ap (map height) (sym (trees-more steps i s (omega arith) c.step-item.is))));
      within = λ k.
          omega (arith, ap (λ hs. get_or hs k 0) c.in_ok-push.ensures.items, within_more i c.loop-step.heights.items (h + 1) c.loop-step.invariant.within (omega (arith, small, c.tallest_behind-tallest.ensures)) k);
    }

pub returns-clause-within : goal.returns-clause-within
returns-clause-within c = λ k. omega (arith, c.loop-step.invariant.within k, c.requires.few)
