use Rattle.std.proofs.Common.{◌≡◌, max, drop}
use Rattle.plan_steps.specs.Numbering.{highest_behind}
use Rattle.plan_steps.proofs.numbering.tallest_behind.Given as goal

abbrev pub invariant-loop-edge : goal.invariant-loop-edge
invariant-loop-edge l = max l.tallest (highest_behind l.heights (drop l.edge-index l.edges)) ≡ highest_behind l.heights l.edges
