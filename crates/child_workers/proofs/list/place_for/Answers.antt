use Rattle.std.proofs.Common.{nat_lt, length, sym, ap, ◌∙◌, Option, ℕ, rules, tests}
use Rattle.std.specs.Prelude.{unwrap_or}
use Rattle.std.proofs.lemmas.Iterator.{YieldsList-from_slice}
use Rattle.std.proofs.lemmas.Iterator.Search.{position_from_yields_List}
use Rattle.child_workers.specs.Workers.{Worker}
use Rattle.child_workers.proofs.list.place_for.Goals as goal

pub returns-in-Some-clause-place : goal.returns-in-Some-clause-place
returns-in-Some-clause-place c =
    let found = position_from_yields_List (λ (x : Worker). nat_lt c.args.nr x.nr) _ _ c.position.result c.position.ensures.ran (YieldsList-from_slice c.args.workers.now cc) (λ x b q k. search (rules, tests)) in
    ap (λ (o : Option ℕ). unwrap_or o (length c.args.workers.now)) (sym c.in-Some.is ∙ found)

pub returns-in-None-clause-place : goal.returns-in-None-clause-place
returns-in-None-clause-place c =
    let found = position_from_yields_List (λ (x : Worker). nat_lt c.args.nr x.nr) _ _ c.position.result c.position.ensures.ran (YieldsList-from_slice c.args.workers.now cc) (λ x b q k. search (rules, tests)) in
    ap (λ (o : Option ℕ). unwrap_or o (length c.args.workers.now)) (sym c.in-None.is ∙ found)
