use Rattle.std.proofs.Common.{◌≡◌, filter}
use Rattle.std.specs.Prelude.{◌==◌}
use Rattle.listener_set.specs.Numbers.{numbers_below}
use Rattle.worker_groups.specs.Groups.{group_of}
use Rattle.plan_rollout.proofs.spots.members_below.Given as goal

abbrev pub invariant-loop-number : goal.invariant-loop-number
invariant-loop-number l = l.members ≡ filter (λ k. group_of l.groups k == l.place) (numbers_below l.number)
