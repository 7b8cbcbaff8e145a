use Rattle.std.proofs.Common.{◌≡◌, map, drop}
use Rattle.std.specs.FinMap.{find}
use Rattle.kernel_service.specs.Services.{address_cmp}
use Rattle.kernel_service.specs.Served.{seen_served}
use Rattle.explorer.proofs.findings.ready_at.Given as goal

abbrev pub invariant-loop-entry : goal.invariant-loop-entry
invariant-loop-entry l = find address_cmp l.address (map seen_served (drop l.entry-index l.entries)) ≡ find address_cmp l.address (map seen_served l.entries)
