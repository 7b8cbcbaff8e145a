use Rattle.std.proofs.Common.{◌≡◌, ℕ, List}
use Rattle.kernel_rows.specs.Holds.{seen_holds}
use Rattle.kernel_rows.specs.Seen.{seen_rows}
use Rattle.call_laws.specs.Start.{first_rows}
use Rattle.kernel_model.proofs.boot.holders.Given as goal

abbrev pub invariant-loop-nr : goal.invariant-loop-nr
invariant-loop-nr l = (addresses : List (List ℕ)) → seen_rows addresses l.holders.items ≡ first_rows l.posts (seen_holds addresses l.holds) l.nr
