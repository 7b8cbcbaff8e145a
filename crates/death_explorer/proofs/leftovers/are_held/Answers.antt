use Rattle.std.proofs.Common.{rules, tests}
use Rattle.std.proofs.lemmas.Iterator.{YieldsList-from_slice}
use Rattle.std.proofs.lemmas.Iterator.Search.{all_from_yields_List}
use Rattle.definitions.specs.After.{listens_on}
use Rattle.death_explorer.proofs.leftovers.are_held.Goals as goal

pub returns : goal.returns
returns c =
    all_from_yields_List (λ a. listens_on c.args.state.now.listeners a) _ _ c.all.result c.all.ensures.ran (YieldsList-from_slice c.args.addresses.now cc) (λ x b q k. search (rules, tests))
