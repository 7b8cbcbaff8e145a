use Rattle.std.proofs.Common.{◌≡◌, ℕ, ◌*◌, ◌<◌, ◌≤◌, false}
use Rattle.listener_set.specs.NumberWords.{has_bit}
use Rattle.listener_set.proofs.numbers.Numbers.highest.Given as goal

abbrev pub invariant-loop-place : goal.invariant-loop-place
invariant-loop-place l = (k : ℕ) → 64 * l.place ≤ k → k < 1024 → has_bit l.self-inside.words k ≡ false
