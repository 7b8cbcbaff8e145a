use Rattle.std.proofs.Common.{◌≡◌, ◌||◌, Bool, drop, is_some}
use Rattle.std.specs.FinMap.{find}
use Rattle.listener_set.specs.AddressList.{has}
use Rattle.definitions.specs.Table.{Address}
use Rattle.kernel_service.specs.Services.{address_cmp}
use Rattle.explorer.proofs.Common.{kept}
use Rattle.explorer.proofs.findings.shared_addresses.Given as goal

abbrev pub invariant-loop-entry : goal.invariant-loop-entry
invariant-loop-entry l =
    let wanted : Address → Bool = λ a. is_some (find address_cmp a l.wanted) in
    (a : Address) → (has l.shared.items a || kept wanted (drop l.entry-index l.entries) a) ≡ kept wanted l.entries a
