use Rattle.std.proofs.Common.{inl, inr, map, sym, arith}
use Rattle.std.proofs.lemmas.List.{length-map}
use Rattle.definitions.specs.Table.{has_address}
use Rattle.kernel_rows.specs.Seen.{seen_rows, seen_holder}
use Rattle.kernel_service.specs.Served.{seen_count}
use Rattle.kernel_model.proofs.Serving.{serving-below, service-kept, service-added}
use Rattle.kernel_model.proofs.service.service_of.Goals as goal
use Rattle.kernel_model.proofs.service.service_of.Goals.{then-not-has+then-is_offered+in_ok-counts+in_ok-insert}
use Rattle.kernel_model.proofs.service.service_of.Goals.{else-not-has, else-not-has-via-then-not-has+else-is_offered}
use Rattle.kernel_model.proofs.service.service_of.Goals.{else-not-has-via-else-not-has}

pub ready_counts-requires : goal.ready_counts-requires
ready_counts-requires c = λ g.
    let rows = seen_rows c.args.addresses.now c.args.holders.now.items in
    let below = serving-below (has_address c.address-item.result) c.address-item.result g rows (sym c.if-is_offered.ensures) in
    omega (arith, length-map c.args.holders.now.items (seen_holder c.args.addresses.now), c.requires)

pub loop-address-preserved : goal.loop-address-preserved
loop-address-preserved c =
    let addresses = c.args.addresses.now in
    let rows = seen_rows addresses c.args.holders.now.items in
    let i = c.loop-address.address-index in
    let x = c.address-item.result in
    let s = c.loop-address.service in
    elim c.if-not-has.branch [
      | then-not-has+then-is_offered+in_ok-counts+in_ok-insert w ↦
          rw (w.service-is, w.in_ok-insert.ensures.ok) (service-added rows addresses i x c.loop-address-test.true c.address-item.is s c.loop-address.invariant (map seen_count w.in_ok-counts.counts.items) (sym w.if-is_offered.ensures) w.in_ok-counts.ensures.counts)
      | else-not-has w ↦
          rw w.service-is (service-kept rows addresses i x c.loop-address-test.true c.address-item.is s c.loop-address.invariant (elim w.else-not-has.branch [
            | else-not-has-via-then-not-has+else-is_offered v ↦ inl (sym v.if-is_offered.ensures)
            | else-not-has-via-else-not-has v ↦ inr (sym v.if-not-has.ensures)
          ]))
    ]
