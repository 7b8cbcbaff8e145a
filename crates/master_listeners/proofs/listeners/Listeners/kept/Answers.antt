use Rattle.std.proofs.Common.{◌≤◌, length, ap, sym, arith}
use Rattle.vocabulary.specs.declared.table.Listener.{Listener}
use Rattle.listener_set.specs.AddressList.{has}
use Rattle.master_listeners.proofs.Listed.{filter-room, listed_more}
use Rattle.master_listeners.proofs.listeners.Listeners.kept.Goals as goal

pub push-requires-clause-room : goal.push-requires-clause-room
push-requires-clause-room c =
    let most : length c.as_slice-all.result.now ≤ 64 = rw (← c.as_slice-all.ensures.items) at c.as_slice-all.ensures.most in
    let room = filter-room (λ (l : Listener). has c.args.addresses.now l.address) c.as_slice-all.result.now c.loop-listener.listener-index c.loop-listener-test.true most in
    omega (arith, ap length c.loop-listener.invariant, room)

pub push-requires-clause-listed : goal.push-requires-clause-listed
push-requires-clause-listed c =
    listed_more (λ (l : Listener). has c.args.addresses.now l.address) c.as_slice-all.result.now _ c.loop-listener.listener-index c.listener-item.result
    c.loop-listener.invariant c.loop-listener-test.true c.listener-item.is (sym c.if-holds.ensures.value) (rw (← c.as_slice-all.ensures.items) at c.as_slice-all.ensures.listed)
