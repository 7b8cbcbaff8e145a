use Rattle.std.proofs.Common.{◌+◌, ◌∷◌, List, drop, sym, ap, ◌∙◌}
use Rattle.std.proofs.lemmas.List.{at_drop_more}
use Rattle.definitions.specs.Plans.{Turn}
use Rattle.lives.proofs.Lending.{lives-outlive}
use Rattle.death_explorer.specs.declared.counts.DeathCounts.{DeathCounts}
use Rattle.death_explorer.specs.Deaths.{deaths_of, deaths_by, counted_all}
use Rattle.death_explorer.proofs.Counting.{counted-both}
use Rattle.death_explorer.proofs.Surviving.{survived}
use Rattle.death_explorer.proofs.exploring.explore_deaths.Goals as goal

pub returns-clause-survived : goal.returns-clause-survived
returns-clause-survived c = survived lives-outlive c.args.search.now.settings.now c.args.search.now.kernel.now.table c.args.search.now.state.now c.args.search.now.target.now

pub returns-in_err-explore_order-clause-survived : goal.returns-in_err-explore_order-clause-survived
returns-in_err-explore_order-clause-survived c =
    survived lives-outlive c.args.search.now.settings.now c.args.search.now.kernel.now.table c.args.search.now.state.now c.args.search.now.target.now

pub loop-order-preserved : goal.loop-order-preserved
loop-order-preserved c =
    let search = c.args.search.now in
    let r = search.state.now in
    let s = search.settings.now in
    let target = search.target.now in
    let t = search.kernel.now.table in
    let all = search.orders.now in
    let n = c.loop-order.order in
    let x = c.index-orders-order.result in
    let rest = drop (n + 1) all in
    let moved = at_drop_more (λ orders. deaths_by r target n orders t) all n x c.loop-order-test.true ∙ ap (λ (y : List Turn). deaths_by r target n (y ∷ rest) t) (sym c.index-orders-order.is) in
    c.loop-order.invariant ∙ ap (λ ds. counted_all r s ds c.loop-order.counts) moved
    ∙ counted-both r s (deaths_of r target n x t) (deaths_by r target (n + 1) rest t) c.loop-order.counts
    ∙ ap (λ (counts : DeathCounts). counted_all r s (deaths_by r target (n + 1) rest t) counts) (sym c.in_ok-explore_order.ensures.counted)
