use Rattle.plan_steps.proofs.Numbers.{AreNumbered}
use Rattle.plan_steps.proofs.ordering.numbers_of.Given as goal

abbrev pub invariant-loop-i : goal.invariant-loop-i
invariant-loop-i l = AreNumbered l.order l.places l.i l.numbers.items
