use Rattle.std.proofs.Common.{◌≡◌, drop}
use Rattle.death_explorer.specs.Deaths.{deaths_by, counted_all}
use Rattle.death_explorer.proofs.exploring.explore_deaths.Given as goal

abbrev pub invariant-loop-order : goal.invariant-loop-order
invariant-loop-order l =
    let search = l.search in
    let r = search.state.now in
    let s = search.settings.now in
    counted_all r s (deaths_by r search.target.now 0 l.orders search.kernel.now.table) l.fn.counts
    ≡ counted_all r s (deaths_by r search.target.now l.order (drop l.order l.orders) search.kernel.now.table) l.counts
