use Rattle.std.proofs.Common.{◌≡◌, map}
use Rattle.listener_set.specs.Numbers.{numbers_below}
use Rattle.plan_rollout.specs.Spots.{members_of}
use Rattle.plan_rollout.proofs.spots.all_members.Given as goal

abbrev pub invariant-loop-place : goal.invariant-loop-place
invariant-loop-place l = l.members.items ≡ map (members_of l.groups) (numbers_below l.place)
