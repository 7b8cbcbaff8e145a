use Rattle.std.proofs.Common.{◌+◌, ◌<◌, length, drop, ap, sym, ◌∙◌, arith}
use Rattle.std.proofs.lemmas.List.{drop_all}
use Rattle.listener_set.specs.AddressList.{AreDistinct}
use Rattle.definitions.specs.After.{with_added}
use Rattle.master_listeners.proofs.Listed.{opened_each, opened_each-is, skipped_one, opened_one, none_left}
use Rattle.master_listeners.proofs.listeners.Listeners.opened.Goals as goal
use Rattle.master_listeners.proofs.listeners.Listeners.opened.Goals.{then-not-holds+else-as_slice-eq-MOST_DESCRIPTORS, else-not-holds}

pub loop-address-preserved : goal.loop-address-preserved
loop-address-preserved c =
    let all = c.as_slice-all.result.now in
    let i = c.loop-address.address-index in
    elim c.if-not-holds.branch [
      | then-not-holds+else-as_slice-eq-MOST_DESCRIPTORS w ↦
          let room : length c.loop-address.listeners < 64 = omega (arith, ap length w.as_slice.ensures.items, w.as_slice.ensures.most, w.if-as_slice-eq-MOST_DESCRIPTORS.false) in
          ap (opened_each (drop (i + 1) all)) (w.listeners-is ∙ w.open.ensures)
          ∙ opened_one all c.loop-address.listeners i c.address-item.result c.loop-address-test.true c.address-item.is (sym c.holds.ensures ∙ w.if-not-holds.true) room
          ∙ c.loop-address.invariant
      | else-not-holds w ↦
          ap (opened_each (drop (i + 1) all)) w.listeners-is
          ∙ skipped_one all c.loop-address.listeners i c.address-item.result c.loop-address-test.true c.address-item.is (sym c.holds.ensures ∙ w.if-not-holds.false)
          ∙ c.loop-address.invariant
    ]

pub returns-then-as_slice-eq-MOST_DESCRIPTORS : goal.returns-then-as_slice-eq-MOST_DESCRIPTORS
returns-then-as_slice-eq-MOST_DESCRIPTORS c =
    let all = c.as_slice-all.result.now in
    let distinct : AreDistinct all = rw (← c.as_slice-all.ensures.items) at c.as_slice-all.ensures.distinct in
    sym (none_left all c.loop-address.listeners c.loop-address.address-index c.address-item.result c.loop-address-test.true c.address-item.is (sym c.holds.ensures ∙ c.if-not-holds.true) (omega (arith, ap length c.as_slice.ensures.items, c.if-as_slice-eq-MOST_DESCRIPTORS.true)))
    ∙ c.loop-address.invariant
    ∙ opened_each-is all c.args.self.now distinct
    ∙ ap (λ bs. with_added bs c.args.self.now) c.as_slice-all.ensures.items

pub returns : goal.returns
returns c =
    let all = c.as_slice-all.result.now in
    let distinct : AreDistinct all = rw (← c.as_slice-all.ensures.items) at c.as_slice-all.ensures.distinct in
    ap (λ more. opened_each more c.loop-address.listeners) (sym (drop_all c.loop-address.address-index all c.loop-address-test.false))
    ∙ c.loop-address.invariant
    ∙ opened_each-is all c.args.self.now distinct
    ∙ ap (λ bs. with_added bs c.args.self.now) c.as_slice-all.ensures.items
