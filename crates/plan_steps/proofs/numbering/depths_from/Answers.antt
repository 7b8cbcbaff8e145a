use Rattle.std.proofs.Common.{◌≡◌, ◌+◌, ◌-◌, ◌<◌, ℕ, List, length, get_or, drop, true, refl, sym, ◌∙◌, ap, subst, arith}
use Rattle.std.proofs.lemmas.List.{take_at, get_or_read}
use Rattle.std.proofs.lemmas.Option.{slice_get_read}
use Rattle.plan_steps.specs.declared.step.PlanEdge.{PlanEdge}
use Rattle.plan_steps.specs.Steps.{all_below}
use Rattle.plan_steps.specs.Numbering.{deepened}
use Rattle.plan_steps.proofs.StepTrees.{back_at, all_below-le}
use Rattle.plan_steps.proofs.Depths.{AreDeepened, deepened_on, length-deepened}
use Rattle.plan_steps.proofs.numbering.depths_from.Goals as goal

pub deepen-requires : goal.deepen-requires
deepen-requires c =
    let steps = c.args.steps.now in
    let i : ℕ = c.loop-place.place - 1 in
    let s = c.index-steps-place.result in
    let back = back_at 0 steps i s c.requires.back (slice_get_read steps (length steps) i s refl (omega arith) c.index-steps-place.is) in
    subst (λ (es : List PlanEdge). all_below (length c.deref_mut.result.now) es ≡ true) (sym (c.deref.ensures.value ∙ ap (λ t. t.edges.items) (sym c.index-steps-place.is)))
    (all_below-le (0 + i) (length c.deref_mut.result.now) s.edges.items (omega (arith, c.deref_mut.ensures.len, c.loop-place.invariant.count)) back)

pub loop-place-preserved-then-depth-gt0 : goal.loop-place-preserved-then-depth-gt0
loop-place-preserved-then-depth-gt0 c =
    let steps = c.args.steps.now in
    let i : ℕ = c.loop-place.place - 1 in
    let s = c.index-steps-place.result in
    let depths = c.loop-place.depths.items in
    let low : i < length steps = omega arith in
    let here = slice_get_read steps (length steps) i s refl low c.index-steps-place.is in
    let back = subst (λ (n : ℕ). all_below n s.edges.items ≡ true) (let e : 0 + i ≡ i = omega arith in e) (back_at 0 steps i s c.requires.back here) in
    let depth : c.index-depth.result.now ≡ get_or depths i 0 = get_or_read depths i c.index-depth.result.now (omega (arith, c.loop-place.invariant.count)) c.index-depth.ensures 0 in
    let from = subst (λ (n : ℕ). AreDeepened steps c.args.roots.now n depths) (let e : c.loop-place.place ≡ i + 1 = omega arith in e) c.loop-place.invariant in
    let edges = c.deref.ensures.value ∙ ap (λ t. t.edges.items) (sym c.index-steps-place.is) in
    let new : c.deepen.new.depths ≡ deepened (get_or depths i 0 + 1) s.edges.items depths =
    c.deepen.ensures ∙ (ap (λ d. deepened (d + 1) c.deref.result.now c.deref_mut.result.now) depth ∙ (ap (λ es. deepened (get_or depths i 0 + 1) es c.deref_mut.result.now) edges ∙ ap (deepened (get_or depths i 0 + 1) s.edges.items) c.deref_mut.ensures.value)) in
    let many : length c.deepen.new.depths ≡ c.loop-place.depths.len = omega (arith, ap length new, length-deepened (get_or depths i 0 + 1) s.edges.items depths, c.loop-place.depths.ok.0) in
    subst (AreDeepened steps c.args.roots.now i) (sym (take_at c.deepen.new.depths (drop (length c.deepen.new.depths) depths) c.loop-place.depths.len many ∙ new))
    (deepened_on steps c.args.roots.now i s depths from here back low (omega (arith, depth)))
