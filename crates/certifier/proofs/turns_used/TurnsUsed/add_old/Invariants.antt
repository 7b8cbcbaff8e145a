use Rattle.std.proofs.Common.{◌≡◌}
use Rattle.certifier.specs.Turns.{used_in}
use Rattle.certifier.proofs.turns_used.TurnsUsed.add_old.Given as goal

abbrev pub invariant-loop-self : goal.invariant-loop-self
invariant-loop-self l = used_in l.self ≡ used_in l.fn.self

abbrev pub decreases-loop-self : goal.decreases-loop-self
decreases-loop-self l = l.self.late
