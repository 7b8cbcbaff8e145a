use Rattle.std.proofs.Common.{length, take}
use Rattle.plan_steps.proofs.Depths.{AreDeepened, AreLaid}
use Rattle.plan_steps.proofs.numbering.depths_from.Given as goal

abbrev pub invariant-loop-root : goal.invariant-loop-root
invariant-loop-root l = AreLaid (length l.steps) (take l.root-index l.roots) l.depths.items

abbrev pub invariant-loop-place : goal.invariant-loop-place
invariant-loop-place l = AreDeepened l.steps l.roots l.place l.depths.items
