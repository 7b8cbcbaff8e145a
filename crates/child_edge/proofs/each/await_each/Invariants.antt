use Rattle.std.proofs.Common.{List, ◌≤◌, ◌-◌, [], vec_len, vec_capacity, Bool, drop, take}
use Rattle.child_edge.specs.Each.{awaits_each}
use Rattle.child_workers.specs.declared.worker.Worker.{Worker}
use Rattle.child_edge.specs.Table.{Turn}
use Rattle.child_edge.specs.Turns.{GoesOn}
use Rattle.child_edge.proofs.each.await_each.Given as goal

abbrev pub invariant-loop-at : goal.invariant-loop-at
invariant-loop-at g l = record {
  within : l.at ≤ vec_len l.workers;
  goes : (rest : List Worker → Bool → Turn) → GoesOn (g.F.Family.told l.initial.family) (g.F.Family.told l.family) (awaits_each l.who [] l.initial.workers.items rest) (awaits_each l.who (take l.at l.workers.items) (drop l.at l.workers.items) rest);
  spare : vec_capacity l.initial.workers - vec_len l.initial.workers ≤ vec_capacity l.workers - vec_len l.workers;
}

abbrev pub decreases-loop-at : goal.decreases-loop-at
decreases-loop-at g l = vec_len l.workers - l.at
