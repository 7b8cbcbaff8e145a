use Rattle.std.proofs.Common.{◌≡◌, max, drop}
use Rattle.plan_steps.specs.Stretches.{farthest_among}
use Rattle.plan_steps.proofs.stretches.farthest_behind.Given as goal

abbrev pub invariant-loop-edge : goal.invariant-loop-edge
invariant-loop-edge l = max l.farthest (farthest_among l.splits (drop l.edge-index l.edges)) ≡ farthest_among l.splits l.edges
