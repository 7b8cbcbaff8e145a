use Rattle.std.proofs.Common.{◌≡◌, map}
use Rattle.listener_set.specs.Numbers.{numbers_below}
use Rattle.definitions.specs.Master.{layout_in}
use Rattle.plan_rollout.specs.Spots.{spots_of}
use Rattle.plan_rollout.proofs.spots.new_spots.Given as goal

abbrev pub invariant-loop-place : goal.invariant-loop-place
invariant-loop-place l = l.spots.items ≡ map (spots_of (layout_in l.settings.groups l.settings.listeners)
    l.addresses) (numbers_below l.place)
