use Rattle.std.proofs.Common.{◌≡◌}
use Rattle.listener_set.specs.Numbers.{numbers_below}
use Rattle.listener_set.proofs.numbers.Numbers.below.Given as goal

abbrev pub invariant-loop-nr : goal.invariant-loop-nr
invariant-loop-nr l = l.all ≡ numbers_below l.nr
