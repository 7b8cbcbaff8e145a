use Rattle.std.proofs.Common.{drop}
use Rattle.order_explorer.specs.declared.totals.Totals.{Totals}
use Rattle.order_explorer.specs.Exploring.{AreAdded}
use Rattle.order_explorer.proofs.exploring.explore_orders.Given as goal

abbrev pub invariant-loop-order : goal.invariant-loop-order
invariant-loop-order g l =
    let search = l.search in
    (after : Totals) → AreAdded search.state.now search.target.now search.kernel.now.table search.pairs l.order (drop l.order l.orders) l.totals after
    → AreAdded search.state.now search.target.now search.kernel.now.table search.pairs 0 l.orders l.fn.totals after
