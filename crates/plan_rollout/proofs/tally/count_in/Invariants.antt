use Rattle.std.proofs.Common.{◌≡◌, ℕ, ◌+◌, ◌<◌, ◌++◌, length, get_or}
use Rattle.plan_rollout.specs.Spots.{serving_at}
use Rattle.plan_rollout.proofs.tally.count_in.Given as goal

abbrev pub invariant-loop-number : goal.invariant-loop-number
invariant-loop-number l = record {
  split : l.yielded ++ l.number-iterator ≡ l.numbers;
  same : length l.counts ≡ length l.fn.counts;
  each : (i : ℕ) → i < length l.fn.counts → get_or l.counts i 0 ≡
      get_or l.fn.counts i 0 + serving_at l.groups l.spots l.yielded i;
}
