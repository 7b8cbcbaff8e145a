use Rattle.std.proofs.Common.{◌≡◌}
use Rattle.worker_groups.specs.Crews.{descriptors_from}
use Rattle.worker_groups.proofs.posts.descriptors_from.Given as goal

abbrev pub invariant-loop-offset : goal.invariant-loop-offset
invariant-loop-offset l = l.set ≡ descriptors_from l.first l.offset
