use Rattle.std.proofs.Common.{◌≡◌}
use Rattle.kernel_model.specs.Boot.{first_pairs}
use Rattle.kernel_model.proofs.boot.first_holds.Given as goal

abbrev pub invariant-loop-socket : goal.invariant-loop-socket
invariant-loop-socket l = l.holds ≡ first_pairs l.socket
