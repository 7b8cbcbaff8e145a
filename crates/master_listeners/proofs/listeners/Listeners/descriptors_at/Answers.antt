use Rattle.std.proofs.Common.{ap, sym, ◌∙◌, map, arith}
use Rattle.vocabulary.specs.declared.table.Listener.{Listener}
use Rattle.listener_set.specs.AddressList.{has}
use Rattle.listener_set.specs.Numbers.{with_number}
use Rattle.master_listeners.specs.Listeners.{AreListed}
use Rattle.master_listeners.proofs.Listed.{descriptor_within, descriptors-kept, filter_more_left}
use Rattle.master_listeners.proofs.listeners.Listeners.descriptors_at.Goals as goal
use Rattle.master_listeners.proofs.listeners.Listeners.descriptors_at.Goals.{then-contains, else-contains}

pub add-requires : goal.add-requires
add-requires c =
    let listed : AreListed c.as_slice-all.result.now = rw (← c.as_slice-all.ensures.items) at c.as_slice-all.ensures.listed in
    descriptor_within 3 c.as_slice-all.result.now c.loop-listener.listener-index c.listener-item.result (omega arith) listed c.loop-listener-test.true c.listener-item.is

pub loop-listener-preserved : goal.loop-listener-preserved
loop-listener-preserved c =
    let all = c.as_slice-all.result.now in
    let i = c.loop-listener.listener-index in
    let l = c.listener-item.result in
    let listed : AreListed all = rw (← c.as_slice-all.ensures.items) at c.as_slice-all.ensures.listed in
    elim c.if-contains.branch [
      | then-contains w ↦
          w.set-is ∙ w.add.ensures ∙ ap (λ fds. with_number fds l.descriptor) c.loop-listener.invariant
          ∙ descriptors-kept (λ (m : Listener). has c.args.addresses.now m.address) all i l c.loop-listener-test.true c.listener-item.is listed (sym c.contains.ensures.value ∙ w.if-contains.true)
      | else-contains w ↦
          w.set-is ∙ c.loop-listener.invariant
          ∙ ap (map (λ (m : Listener). m.descriptor)) (filter_more_left (λ (m : Listener). has c.args.addresses.now m.address) all i l c.loop-listener-test.true c.listener-item.is (sym c.contains.ensures.value ∙ w.if-contains.false))
    ]
