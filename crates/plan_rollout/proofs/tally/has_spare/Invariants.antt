use Rattle.std.proofs.Common.{ℕ, ◌+◌, ◌<◌, ◌≤◌, get_or}
use Rattle.plan_rollout.specs.Spots.{one_at}
use Rattle.plan_rollout.proofs.tally.has_spare.Given as goal

abbrev pub invariant-loop-place : goal.invariant-loop-place
invariant-loop-place l = (i : ℕ) → i < l.place → get_or l.least i 0 + one_at l.spots i ≤ get_or l.counts i 0
