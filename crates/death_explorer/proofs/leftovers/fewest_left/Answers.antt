use Rattle.std.proofs.Common.{◌+◌, ◌∷◌, ℕ, Some, drop, sym, ap, ◌∙◌}
use Rattle.std.proofs.lemmas.List.{at_drop_more}
use Rattle.definitions.specs.Table.{Address}
use Rattle.death_explorer.specs.Leftovers.{fewer, fewest_after}
use Rattle.death_explorer.proofs.leftovers.fewest_left.Goals as goal

pub loop-address-preserved : goal.loop-address-preserved
loop-address-preserved c =
    let t = c.args.kernel.now.table in
    let all = c.args.addresses.now in
    let i = c.loop-address.address-index in
    let x = c.address-item.result in
    let before = c.loop-address.fewest in
    let rest = drop (i + 1) all in
    let moved = at_drop_more (fewest_after t before) all i x c.loop-address-test.true ∙ ap (λ (y : Address). fewest_after t before (y ∷ rest)) (sym c.address-item.is) in
    let found = c.fewer.ensures ∙ ap (fewer before x) c.ready_at.ensures in
    sym (moved ∙ ap (λ (f : Address × ℕ). fewest_after t (Some f) rest) (sym found)) ∙ c.loop-address.invariant
