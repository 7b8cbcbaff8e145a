use Rattle.std.proofs.Common.{nat_eq, not, rules, tests}
use Rattle.std.proofs.lemmas.Fn.{filter_same}
use Rattle.child_workers.specs.Workers.{Worker}
use Rattle.child_workers.proofs.list.drop_id.Goals as goal

pub returns-clause-left : goal.returns-clause-left
returns-clause-left c =
    filter_same _ (λ (w : Worker). not (nat_eq w.id c.args.id)) _ (λ x b q k. (search (rules, tests), search (rules, tests))) _ _ c.retain.ensures.filtered
