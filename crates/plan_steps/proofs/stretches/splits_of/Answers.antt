use Rattle.std.proofs.Common.{◌≡◌, ◌+◌, ◌++◌, ◌∷◌, [], ℕ, List, true, length, get_or, map, take, refl, sym, ◌∙◌, ap, subst, arith, length-take}
use Rattle.std.proofs.lemmas.List.{length-map}
use Rattle.std.proofs.lemmas.Option.{slice_get_read}
use Rattle.plan_steps.specs.Steps.{trees_after, all_below}
use Rattle.plan_steps.specs.Stretches.{to_split, one_more, farthest_among}
use Rattle.plan_steps.specs.declared.step.PlanEdge.{PlanEdge}
use Rattle.plan_steps.proofs.StepTrees.{length-trees, trees_after-nil, trees-more, back_at}
use Rattle.plan_steps.proofs.Endings.{splits_more, farthest_within, one_more_le}
use Rattle.plan_steps.proofs.Heights.{within_more}
use Rattle.plan_steps.proofs.stretches.splits_of.Goals as goal

pub loop-step-init : goal.loop-step-init
loop-step-init c =
    record {
      splits = c.in_ok-splits.ensures.items ∙ ap (map to_split) (sym trees_after-nil);
      within = λ k. omega (arith, ap (λ hs. get_or hs k 0) c.in_ok-splits.ensures.items);
    }

pub farthest_behind-farthest-requires : goal.farthest_behind-farthest-requires
farthest_behind-farthest-requires c =
    let steps = c.args.steps.now in
    let i = c.loop-step.step-index in
    let s = c.step-item.result in
    let many : length c.deref-in-loop-step.result.now ≡ 0 + i =
    ap length (c.deref-in-loop-step.ensures.value ∙ c.loop-step.invariant.splits) ∙ (length-map (trees_after [] (take i steps)) to_split ∙ (length-trees (take i steps) ∙ omega (arith, length-take i steps))) in
    let back = back_at 0 steps i s c.requires.back (slice_get_read steps (length steps) i s refl (omega arith) c.step-item.is) in
    subst (λ (es : List PlanEdge). all_below (length c.deref-in-loop-step.result.now) es ≡ true) (sym c.deref.ensures.value) (subst (λ (n : ℕ). all_below n s.edges.items ≡ true) (sym many) back)

pub one_more-requires : goal.one_more-requires
one_more-requires c =
    let small = farthest_within c.loop-step.step-index c.deref-in-loop-step.result.now c.deref.result.now
    (λ k. omega (arith, c.loop-step.invariant.within k, ap (λ hs. get_or hs k 0) c.deref-in-loop-step.ensures.value)) in
    omega (arith, small, c.requires.few, c.farthest_behind-farthest.ensures)

pub loop-step-preserved : goal.loop-step-preserved
loop-step-preserved c =
    let steps = c.args.steps.now in
    let i = c.loop-step.step-index in
    let s = c.step-item.result in
    let h = c.farthest_behind-farthest.result in
    let trees = trees_after [] (take i steps) in
    let read = c.deref-in-loop-step.ensures.value ∙ c.loop-step.invariant.splits in
    let far : h ≡ farthest_among (map to_split trees) s.edges.items =
    c.farthest_behind-farthest.ensures ∙ (ap (λ hs. farthest_among hs c.deref.result.now) read ∙ ap (farthest_among (map to_split trees)) c.deref.ensures.value) in
    let small = farthest_within i c.deref-in-loop-step.result.now c.deref.result.now
    (λ k. omega (arith, c.loop-step.invariant.within k, ap (λ hs. get_or hs k 0) c.deref-in-loop-step.ensures.value)) in
    let value : c.one_more.result ≡ one_more h = c.one_more.ensures in
    record {
      splits =
          c.in_ok-push.ensures.items
          ∙ (ap (λ hs. hs ++ c.one_more.result ∷ []) c.loop-step.invariant.splits ∙ (ap (λ n. map to_split trees ++ n ∷ []) (value ∙ ap one_more far) ∙ (sym (splits_more trees s) ∙ ap (map to_split) (sym (trees-more steps i s (omega arith) c.step-item.is)))));
      within = λ k.
          omega (arith, ap (λ hs. get_or hs k 0) c.in_ok-push.ensures.items, within_more (i + 1) c.loop-step.splits.items c.one_more.result c.loop-step.invariant.within (omega (arith, value, one_more_le h, small, c.farthest_behind-farthest.ensures)) k);
    }
