use Rattle.std.proofs.Common.{◌≡◌, map}
use Rattle.listener_set.specs.Numbers.{numbers_below}
use Rattle.definitions.specs.Master.{layout_of}
use Rattle.plan_rollout.specs.Spots.{spots_of}
use Rattle.plan_rollout.proofs.spots.old_spots.Given as goal

abbrev pub invariant-loop-place : goal.invariant-loop-place
invariant-loop-place l = l.spots.items ≡ map (spots_of (layout_of l.state) l.addresses) (numbers_below l.place)
