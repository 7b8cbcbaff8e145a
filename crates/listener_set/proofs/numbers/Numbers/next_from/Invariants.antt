use Rattle.std.proofs.Common.{◌≡◌, ℕ, ◌*◌, ◌<◌, ◌≤◌, false}
use Rattle.listener_set.specs.NumberWords.{has_bit}
use Rattle.listener_set.proofs.numbers.Numbers.next_from.Given as goal

abbrev pub invariant-loop-place : goal.invariant-loop-place
invariant-loop-place l = (k : ℕ) → l.bound ≤ k → k < 64 * l.place → has_bit l.self-inside.words k ≡ false
