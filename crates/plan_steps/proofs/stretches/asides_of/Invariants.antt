use Rattle.std.proofs.Common.{◌≡◌, [], map, take}
use Rattle.plan_steps.specs.Steps.{trees_after}
use Rattle.plan_steps.specs.Stretches.{aside}
use Rattle.plan_steps.proofs.stretches.asides_of.Given as goal

abbrev pub invariant-loop-place : goal.invariant-loop-place
invariant-loop-place l = l.asides.items ≡ take l.place (map aside (trees_after [] l.steps))
