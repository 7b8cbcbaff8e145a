use Rattle.std.proofs.Common.{◌≡◌, None, drop}
use Rattle.death_explorer.specs.Leftovers.{fewest_after}
use Rattle.death_explorer.proofs.leftovers.fewest_left.Given as goal

abbrev pub invariant-loop-address : goal.invariant-loop-address
invariant-loop-address l = fewest_after l.kernel.table l.fewest (drop l.address-index l.addresses) ≡ fewest_after l.kernel.table None l.addresses
