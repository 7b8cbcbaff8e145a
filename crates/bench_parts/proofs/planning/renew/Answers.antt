use Rattle.std.proofs.Common.{◌<◌, sym, subst, arith}
use Rattle.std.specs.List.{AllByRecursion}
use Rattle.reload_planner.proofs.Sets.{low_below}
use Rattle.bench_parts.proofs.planning.renew.Goals as goal

pub start-state-requires-clause-ready : goal.start-state-requires-clause-ready
start-state-requires-clause-ready c =
    subst (AllByRecursion (λ k. k < c.args.workers)) (sym c.below-ready.ensures)
    (low_below c.args.workers c.args.workers (omega arith))
