use Rattle.std.proofs.Common.{◌≡◌, ◌*◌, ◌≤◌}
use Rattle.listener_set.proofs.NumberSearch.{bits_below}
use Rattle.listener_set.proofs.numbers.Numbers.len.Given as goal

abbrev pub invariant-loop-word : goal.invariant-loop-word
invariant-loop-word l = (l.count ≡ bits_below l.word-items (64 * l.word-index)) × (l.count ≤ 64 * l.word-index)
