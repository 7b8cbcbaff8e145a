use Rattle.std.proofs.Common.{refl, arith}
use Rattle.std.proofs.lemmas.List.{length-map}
use Rattle.std.proofs.lemmas.Result.{IfOk-weaker}
use Rattle.definitions.specs.Table.{service, IsSame}
use Rattle.kernel_service.specs.Services.{at}
use Rattle.kernel_rows.specs.Seen.{seen_rows, seen_holder}
use Rattle.kernel_table.specs.Seen.{seen}
use Rattle.kernel_model.proofs.Serving.{IsWhole, length-ascending, service-whole}
use Rattle.kernel_model.proofs.kernel.Kernel.service.Goals as goal

pub service_of-requires : goal.service_of-requires
service_of-requires c =
    let s = c.self.inside.store in
    let rows = seen_rows s.addresses.items s.holders.items in
    let below = length-ascending rows 0 s.next_process c.self.invariant.kept.formed.ascending in
    let numbers = c.self.invariant.room.process_numbers in
    omega (arith, length-map s.holders.items (seen_holder s.addresses.items))

pub returns : goal.returns
returns c =
    let s = c.self.inside.store in
    let said = rw c.deref.ensures.value at c.service_of.ensures in
    rw (← c.self.view_is) (IfOk-weaker c.service_of.result (IsWhole s.addresses.items s.holders.items) (λ v. IsSame (at v) (service (seen s))) (λ v p. service-whole (seen s) s.addresses.items s.holders.items v refl c.self.invariant.kept.sockets p) said)
