use Rattle.listener_set.proofs.NumberBits.{AreCleared}
use Rattle.listener_set.proofs.numbers.Numbers.minus.Given as goal

abbrev pub invariant-loop-place : goal.invariant-loop-place
invariant-loop-place l = AreCleared l.initial.words l.other-inside.words l.words l.place
