use Rattle.std.proofs.Common.{◌≡◌, drop}
use Rattle.plan_steps.specs.Numbering.{deepened}
use Rattle.plan_steps.proofs.numbering.deepen.Given as goal

abbrev pub invariant-loop-edge : goal.invariant-loop-edge
invariant-loop-edge l = deepened l.depth (drop l.edge-index l.edges) l.depths ≡ deepened l.depth l.edges l.fn.depths
