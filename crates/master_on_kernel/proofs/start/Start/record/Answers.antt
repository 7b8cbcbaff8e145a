use Rattle.std.proofs.Common.{◌<◌, sym, subst, arith}
use Rattle.std.specs.List.{AllByRecursion}
use Rattle.reload_planner.proofs.Sets.{low_below}
use Rattle.master_on_kernel.proofs.start.Start.record.Goals as goal

pub start-requires-clause-ready : goal.start-requires-clause-ready
start-requires-clause-ready c = subst (AllByRecursion (λ k. k < c.args.self.now.wanted)) (sym c.below-ready.ensures) (low_below c.args.self.now.running c.args.self.now.wanted (omega (arith, c.if-self.false)))
