use Rattle.std.proofs.Common.{◌≡◌, ◌≤◌, ℕ, List, [], length, map, get_or, refl, ◌∙◌, ap, arith}
use Rattle.std.proofs.lemmas.List.{length-map}
use Rattle.definitions.specs.Run.{Tree}
use Rattle.call_laws.specs.Lengths.{height}
use Rattle.plan_steps.specs.declared.step.Step.{Step}
use Rattle.plan_steps.specs.Steps.{at_place, trees_after}
use Rattle.plan_steps.specs.Stretches.{to_split, aside}
use Rattle.plan_steps.proofs.StepTrees.{length-trees}
use Rattle.plan_steps.proofs.Asides.{known_at, read_at, split_low, aside_low}
use Rattle.plan_steps.proofs.in_parts.longest_in_parts.Goals as goal

-- what is known of each step is as long as the steps
many : (f : Tree → ℕ) (steps : List Step) (known : List ℕ) → known ≡ map f (trees_after [] steps) → length known ≡ length steps
many f steps known e = ap length e ∙ (length-map (trees_after [] steps) f ∙ length-trees steps)

-- no tree of a draft is taller than a draft may have steps
tall : (steps : List Step) (heights : List ℕ) → heights ≡ map height (trees_after [] steps) →
    ((k : ℕ) → get_or heights k 0 ≤ 65536) → (k : ℕ) → height (at_place steps k) ≤ 65536
tall steps heights e within k = omega (arith, within k, ap (λ ns. get_or ns k 0) e, known_at height refl (trees_after [] steps) k)

pub index-requires-4 : goal.index-requires-4
index-requires-4 c = omega (arith, c.requires.parts.low.2, many height c.args.steps.now c.in_ok-heights.heights.items c.in_ok-heights.ensures.heights, c.in_ok-heights.heights.ok.0)

pub index-requires-5 : goal.index-requires-5
index-requires-5 c = omega (arith, c.requires.parts.low.3, many height c.args.steps.now c.in_ok-heights.heights.items c.in_ok-heights.ensures.heights, c.in_ok-heights.heights.ok.0)

pub index-requires-6 : goal.index-requires-6
index-requires-6 c = omega (arith, c.requires.first, many aside c.args.steps.now c.in_ok-asides.asides.items c.in_ok-asides.ensures, c.in_ok-asides.asides.ok.0)

pub overflow_add-result : goal.overflow_add-result
overflow_add-result c =
    let steps = c.args.steps.now in
    let first = c.args.first.0 in
    let parts = c.args.parts.now in
    let heights = c.in_ok-heights.heights.items in
    let is = c.in_ok-heights.ensures.heights in
    let lows = tall steps heights is c.in_ok-heights.ensures.within in
    let split = read_at to_split refl steps c.in_ok-splits.splits.items first c.index.result.now c.in_ok-splits.ensures c.requires.first c.index.ensures in
    let new = read_at height refl steps heights parts.new.0 c.index-2.result.now is c.requires.parts.low.0 c.index-2.ensures in
    let old = read_at height refl steps heights parts.old.0 c.index-3.result.now is c.requires.parts.low.1 c.index-3.ensures in
    omega (arith, split, new, old, split_low (at_place steps first), lows first, lows parts.new.0, lows parts.old.0)

pub overflow_add-result-2 : goal.overflow_add-result-2
overflow_add-result-2 c =
    let steps = c.args.steps.now in
    let first = c.args.first.0 in
    let parts = c.args.parts.now in
    let heights = c.in_ok-heights.heights.items in
    let is = c.in_ok-heights.ensures.heights in
    let lows = tall steps heights is c.in_ok-heights.ensures.within in
    let split = read_at to_split refl steps c.in_ok-splits.splits.items first c.index.result.now c.in_ok-splits.ensures c.requires.first c.index.ensures in
    let new = read_at height refl steps heights parts.new.0 c.index-2.result.now is c.requires.parts.low.0 c.index-2.ensures in
    let old = read_at height refl steps heights parts.old.0 c.index-3.result.now is c.requires.parts.low.1 c.index-3.ensures in
    let ready = read_at height refl steps heights parts.ready.0 c.index-4.result.now is c.requires.parts.low.2 c.index-4.ensures in
    let back = read_at height refl steps heights parts.back.0 c.index-5.result.now is c.requires.parts.low.3 c.index-5.ensures in
    let beside = read_at aside refl steps c.in_ok-asides.asides.items first c.index-6.result.now c.in_ok-asides.ensures c.requires.first c.index-6.ensures in
    omega (arith, split, new, old, ready, back, beside, split_low (at_place steps first), aside_low (at_place steps first), lows first, lows parts.new.0, lows parts.old.0, lows parts.ready.0, lows parts.back.0, c.max-rest.ensures, c.max.ensures)

pub returns : goal.returns
returns c =
    let steps = c.args.steps.now in
    let first = c.args.first.0 in
    let parts = c.args.parts.now in
    let heights = c.in_ok-heights.heights.items in
    let is = c.in_ok-heights.ensures.heights in
    let split = read_at to_split refl steps c.in_ok-splits.splits.items first c.index.result.now c.in_ok-splits.ensures c.requires.first c.index.ensures in
    let new = read_at height refl steps heights parts.new.0 c.index-2.result.now is c.requires.parts.low.0 c.index-2.ensures in
    let old = read_at height refl steps heights parts.old.0 c.index-3.result.now is c.requires.parts.low.1 c.index-3.ensures in
    let ready = read_at height refl steps heights parts.ready.0 c.index-4.result.now is c.requires.parts.low.2 c.index-4.ensures in
    let back = read_at height refl steps heights parts.back.0 c.index-5.result.now is c.requires.parts.low.3 c.index-5.ensures in
    let beside = read_at aside refl steps c.in_ok-asides.asides.items first c.index-6.result.now c.in_ok-asides.ensures c.requires.first c.index-6.ensures in
    omega (arith, split, new, old, ready, back, beside, c.max-rest.ensures, c.max.ensures)
