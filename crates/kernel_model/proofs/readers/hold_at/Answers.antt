use Rattle.std.proofs.Common.{ℕ, Some, sym, ap, ◌∙◌}
use Rattle.std.specs.Option.{option_map}
use Rattle.definitions.specs.Table.{number_of}
use Rattle.kernel_rows.specs.Holds.{seen_hold, seen_holds}
use Rattle.kernel_rows.specs.Seen.{seen_holder}
use Rattle.kernel_model.specs.Readers.{hold_row}
use Rattle.kernel_model.proofs.Reading.{hold-at, address-found, address-there}
use Rattle.kernel_model.proofs.readers.hold_at.Goals as goal

pub returns-in_err-address : goal.returns-in_err-address
returns-in_err-address c =
    absurd (address-there c.args.addresses.now c.args.holder.now c.args.i c.in_ok-descriptor.descriptor c.in_ok-descriptor.socket c.requires (sym c.pair_at.ensures ∙ c.in_ok-descriptor.was) (sym c.address_at.ensures ∙ c.in_err-address.was))

pub returns : goal.returns
returns c =
    let addresses = c.args.addresses.now in
    let h = c.args.holder.now in
    let number = c.number.ensures (seen_holds addresses h.holds) in
    let address = address-found addresses c.in_ok-descriptor.socket c.in_ok-address.address (sym c.address_at.ensures ∙ c.in_ok-address.was) in
    let found = hold-at addresses h c.args.i ∙ ap (option_map (λ (p : ℕ × ℕ). hold_row (number_of (seen_holder addresses h)) (seen_hold addresses p))) (sym c.pair_at.ensures ∙ c.in_ok-descriptor.was) in
    (λ i. Some (record { process = number i; descriptor = c.in_ok-descriptor.descriptor; socket = c.in_ok-descriptor.socket; address = address i })) ∙ sym found
