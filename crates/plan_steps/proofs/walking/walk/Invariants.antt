use Rattle.std.proofs.Common.{◌+◌, length}
use Rattle.plan_steps.proofs.Walked.{work, AreWalked}
use Rattle.plan_steps.proofs.walking.walk.Given as goal

abbrev pub invariant-loop-place : goal.invariant-loop-place
invariant-loop-place l = AreWalked l.steps l.roots l.is_met.items l.met.items l.waiting.items

abbrev pub decreases-loop-place : goal.decreases-loop-place
decreases-loop-place l = work l.is_met.items l.steps + length l.waiting.items
