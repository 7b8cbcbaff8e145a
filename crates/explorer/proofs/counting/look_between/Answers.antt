use Rattle.std.proofs.Common.{sym, subst}
use Rattle.explorer.specs.declared.events.Mishap.{Mishap}
use Rattle.explorer.specs.Looking.{IsSeenBetween, IsSeenIn}
use Rattle.explorer.proofs.Keeping.{none-needed}
use Rattle.explorer.proofs.counting.look_between.Goals as goal

pub returns-in_ok-_ready-clause-seen : goal.returns-in_ok-_ready-clause-seen
returns-in_ok-_ready-clause-seen c =
    subst (λ (m : Mishap). IsSeenBetween c.args.point.now c.args.gone m c.look.new.self) (sym c.in-Exit.is)
    (subst (IsSeenIn c.look.new.self) c.in_ok-kernel.ensures (c.in_ok-_ready.ensures.seen (none-needed c.args.found.now.common.items c.in_ok-kernel.kernel.table)))
