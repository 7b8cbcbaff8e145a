use Rattle.std.proofs.Common.{◌≡◌, ◌∙◌, ap}
use Rattle.std.proofs.lemmas.Result.{on_ok_weaker}
use Rattle.explorer.specs.declared.tally.Tally.{Tally}
use Rattle.explorer.specs.Explored.{explored_from}
use Rattle.explorer.specs.Searched.{Subject, AreFewest, AreMost}
use Rattle.order_explorer.specs.Exploring.{IsHopelessly}
use Rattle.order_explorer.proofs.Refusing.{refused, ended, both-ok}
use Rattle.order_explorer.proofs.exploring.explore_order.Goals as goal

pub returns-clause-added : goal.returns-clause-added
returns-clause-added g c =
    let search = c.args.search.now in
    let begun = c.new-found.result in
    let found = c.explore-explored.new.found in
    let s : Subject = record { state = search.state.now; target = search.target.now; turns = c.args.turns.now; table = search.kernel.now.table } in
    let counted : Type 0 = found.tally ≡ explored_from search.state.now search.target.now c.args.turns.now search.kernel.now.table search.pairs begun.tally in
    on_ok_weaker c.explore-explored.result
    (λ all. record {
      begun = c.new-found.result;
      no_least = c.new-found.ensures.least;
      no_most = c.new-found.ensures.most;
      found = c.explore-explored.new.found;
      tally = all.0 ∙ ap (λ (before : Tally). explored_from search.state.now search.target.now c.args.turns.now search.kernel.now.table search.pairs before) c.new-found.ensures.tally;
      least = all.1.0;
      most = all.1.1;
      added = c.in_ok-add.ensures;
    })
    (both-ok counted (AreFewest s search.pairs begun found × AreMost s search.pairs begun found) c.explore-explored.result c.explore-explored.ensures.counted
    (both-ok (AreFewest s search.pairs begun found) (AreMost s search.pairs begun found) c.explore-explored.result c.explore-explored.ensures.least c.explore-explored.ensures.most))

pub returns-clause-refused : goal.returns-clause-refused
returns-clause-refused g c = λ why is. refused c.explore-explored.result (IsHopelessly c.args.search.now) why (c.explore-explored.ensures.exact why) is

pub returns-clause-enough : goal.returns-clause-enough
returns-clause-enough g c = λ is why due. ended c.explore-explored.result (IsHopelessly c.args.search.now) why (c.explore-explored.ensures.exact why) is due
