use Rattle.std.proofs.Common.{◌≡◌, cond, ◌&&◌, Some, None, take, bytes_eq, count_by}
use Rattle.std.specs.List.{list_any}
use Rattle.definitions.specs.Table.{Address, has_address}
use Rattle.call_laws.specs.Pieces.{is_live_with, is_serving_as}
use Rattle.kernel_rows.specs.Seen.{seen_rows}
use Rattle.kernel_service.specs.Services.{at}
use Rattle.kernel_model.proofs.service.service_of.Given as goal

abbrev pub invariant-loop-address : goal.invariant-loop-address
invariant-loop-address l =
    (a : Address) → at l.service a
    ≡ cond (list_any (λ b. bytes_eq b a) (take l.address-index l.addresses)
    && list_any (is_live_with (has_address a)) (seen_rows l.addresses l.holders.items))
    (Some (λ g. count_by (is_serving_as a g) (seen_rows l.addresses l.holders.items))) None
