use Rattle.std.proofs.Common.{◌≡◌, max, drop}
use Rattle.plan_steps.specs.Stretches.{asides_among}
use Rattle.plan_steps.proofs.stretches.aside_behind.Given as goal

abbrev pub invariant-loop-edge : goal.invariant-loop-edge
invariant-loop-edge l = max l.greatest (asides_among l.asides (drop l.edge-index l.edges)) ≡ asides_among l.asides l.edges
