use Rattle.std.proofs.Common.{not, rules, tests}
use Rattle.std.proofs.lemmas.Fn.{filter_same}
use Rattle.child_workers.specs.declared.worker.Worker.{Worker}
use Rattle.child_workers.specs.Workers.{means}
use Rattle.child_edge.proofs.workers.drop_each.Goals as goal

pub returns-clause-left : goal.returns-clause-left
returns-clause-left c =
    filter_same _ (λ (w : Worker). not (means c.args.who w)) _ (λ x b q k. (search (rules, tests), search (rules, tests))) _ _ c.retain.ensures.filtered
