use Rattle.std.proofs.Common.{◌≡◌, None, map, drop}
use Rattle.kernel_service.specs.Served.{seen_served}
use Rattle.explorer.specs.Readiness.{fewest_from}
use Rattle.explorer.proofs.findings.fewest_at.Given as goal

abbrev pub invariant-loop-address : goal.invariant-loop-address
invariant-loop-address l = fewest_from (map seen_served l.entries) l.fewest (drop l.address-index l.addresses) ≡ fewest_from (map seen_served l.entries) None l.addresses
