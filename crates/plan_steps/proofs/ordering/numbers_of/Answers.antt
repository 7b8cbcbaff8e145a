use Rattle.std.proofs.Common.{arith}
use Rattle.plan_steps.proofs.Numbers.{numbered_more, within_at}
use Rattle.plan_steps.proofs.ordering.numbers_of.Goals as goal

pub loop-i-preserved : goal.loop-i-preserved
loop-i-preserved c = numbered_more c.args.order.now c.args.places c.loop-i.i c.loop-i.numbers.items c.loop-i.invariant (omega arith) (within_at c.args.places c.args.order.now c.loop-i.i c.requires.within (omega arith))
