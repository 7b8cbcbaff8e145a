use Rattle.std.proofs.Common.{◌≡◌, ℕ, ◌+◌, ◌<◌, ◌≤◌, get_or}
use Rattle.plan_rollout.specs.Spots.{one_at}
use Rattle.plan_rollout.proofs.tally.add_at.Given as goal

abbrev pub invariant-loop-place : goal.invariant-loop-place
invariant-loop-place l = record {
  done : (i : ℕ) → i < l.place → get_or l.counts i 0 ≡ get_or l.fn.counts i 0 + one_at l.spots i;
  rest : (i : ℕ) → l.place ≤ i → get_or l.counts i 0 ≡ get_or l.fn.counts i 0;
}
