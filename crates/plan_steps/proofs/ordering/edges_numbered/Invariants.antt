use Rattle.std.proofs.Common.{◌≡◌, map, take}
use Rattle.plan_steps.specs.Numbering.{edge_numbered}
use Rattle.plan_steps.proofs.ordering.edges_numbered.Given as goal

abbrev pub invariant-loop-edge : goal.invariant-loop-edge
invariant-loop-edge l = l.numbered.items ≡ map (edge_numbered l.numbers) (take l.edge-index l.edges)
