use Rattle.std.proofs.Common.{◌≡◌, ℕ, ◌<◌, ◌≤◌, min, get_or}
use Rattle.plan_rollout.proofs.tally.lower.Given as goal

abbrev pub invariant-loop-place : goal.invariant-loop-place
invariant-loop-place l = record {
  done : (i : ℕ) → i < l.place → get_or l.counts i 0 ≡ min (get_or l.fn.counts i 0) (get_or l.others i 0);
  rest : (i : ℕ) → l.place ≤ i → get_or l.counts i 0 ≡ get_or l.fn.counts i 0;
}
