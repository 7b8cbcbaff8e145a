use Rattle.std.proofs.Common.{◌≡◌, ◌++◌, drop, take}
use Rattle.child_workers.specs.Workers.{without_first}
use Rattle.child_workers.proofs.list.drop_first.Given as goal

abbrev pub invariant-loop-at : goal.invariant-loop-at
invariant-loop-at l = record {
  same : l.workers ≡ l.initial.workers;
  left : take l.at l.workers.items ++ without_first l.who (drop l.at l.workers.items) ≡ without_first l.who l.initial.workers.items;
}
