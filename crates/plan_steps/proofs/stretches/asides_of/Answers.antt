use Rattle.std.proofs.Common.{◌≡◌, ◌+◌, get_or, ◌++◌, ◌∷◌, [], ℕ, List, Some, true, length, map, take, slice_get, refl, sym, ◌∙◌, ap, subst, arith}
use Rattle.std.proofs.lemmas.List.{length-map, length-take-le, take_all}
use Rattle.std.proofs.lemmas.Option.{slice_get_read}
use Rattle.call_laws.specs.Lengths.{height}
use Rattle.plan_steps.specs.declared.step.PlanEdge.{PlanEdge}
use Rattle.plan_steps.specs.Steps.{trees_after, all_below}
use Rattle.plan_steps.specs.Stretches.{to_split, aside, asides_among}
use Rattle.plan_steps.proofs.StepTrees.{length-trees, back_at}
use Rattle.plan_steps.proofs.Asides.{aside_more}
use Rattle.plan_steps.proofs.stretches.asides_of.Goals as goal

pub aside_behind-behind-requires : goal.aside_behind-behind-requires
aside_behind-behind-requires c =
    let steps = c.args.steps.now in
    let i = c.loop-place.place in
    let s = c.index-steps-place.result in
    let trees = trees_after [] steps in
    let many : length c.deref-in-loop-place.result.now ≡ 0 + i =
    ap length (c.deref-in-loop-place.ensures.value ∙ c.loop-place.invariant) ∙ (length-take-le i (map aside trees) (omega (arith, length-map trees aside, length-trees steps)) ∙ (let e : i ≡ 0 + i = omega arith in e)) in
    let back = back_at 0 steps i s c.requires.back (slice_get_read steps (length steps) i s refl (omega arith) c.index-steps-place.is) in
    subst (λ (es : List PlanEdge). all_below (length c.deref-in-loop-place.result.now) es ≡ true) (sym c.deref.ensures.value) (subst (λ (n : ℕ). all_below n s.edges.items ≡ true) (sym many) back)

pub bounds-splits-place : goal.bounds-splits-place
bounds-splits-place c = omega (arith, ap length c.requires.splits, length-map (trees_after [] c.args.steps.now) to_split, length-trees c.args.steps.now)

pub bounds-heights-place : goal.bounds-heights-place
bounds-heights-place c = omega (arith, ap length c.requires.heights, length-map (trees_after [] c.args.steps.now) height, length-trees c.args.steps.now)

pub loop-place-preserved : goal.loop-place-preserved
loop-place-preserved c =
    let steps = c.args.steps.now in
    let i = c.loop-place.place in
    let s = c.index-steps-place.result in
    let trees = trees_after [] steps in
    let at : slice_get steps i ≡ Some s = slice_get_read steps (length steps) i s refl (omega arith) c.index-steps-place.is in
    let below : all_below i s.edges.items ≡ true = subst (λ (n : ℕ). all_below n s.edges.items ≡ true) (let e : 0 + i ≡ i = omega arith in e) (back_at 0 steps i s c.requires.back at) in
    let behind : c.aside_behind-behind.result ≡ asides_among (take i (map aside trees)) s.edges.items =
    c.aside_behind-behind.ensures
    ∙ (ap (λ ns. asides_among ns c.deref.result.now) (c.deref-in-loop-place.ensures.value ∙ c.loop-place.invariant) ∙ ap (asides_among (take i (map aside trees))) c.deref.ensures.value) in
    c.in_ok-push.ensures.items
    ∙ (ap (λ ns. ns ++ c.aside_at.result ∷ []) c.loop-place.invariant
    ∙ (ap (λ n. take i (map aside trees) ++ n ∷ []) c.aside_at.ensures
    ∙ aside_more steps i s _ _ c.aside_behind-behind.result c.requires.back at (omega arith) below (ap (λ ns. get_or ns i 0) c.requires.splits) (ap (λ ns. get_or ns i 0) c.requires.heights) behind))

pub returns : goal.returns
returns c =
    let trees = trees_after [] c.args.steps.now in
    c.loop-place.invariant ∙ take_all c.loop-place.place (map aside trees) (omega (arith, length-map trees aside, length-trees c.args.steps.now))
