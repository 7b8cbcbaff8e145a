use Rattle.std.proofs.Common.{arith}
use Rattle.listener_set.proofs.PaddedLists.{set-padded}
use Rattle.worker_groups.proofs.shortfalls.Shortfalls.add.Goals as goal

pub invariant_of-self : goal.invariant_of-self
invariant_of-self c = record {
  padded = set-padded c.args.count c.self.invariant.padded (omega (arith, c.self.invariant.padded.fits, c.if-self-eq-MOST_GROUPS.false));
  some = omega arith;
}
