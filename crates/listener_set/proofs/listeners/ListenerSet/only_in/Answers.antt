use Rattle.std.proofs.Common.{◌≤◌, ◌<◌, List, ℕ, Bool, ap, arith, filter, take, length, not}
use Rattle.listener_set.specs.AddressList.{has}
use Rattle.listener_set.proofs.AddressLists.{in_filter, not_before, filter-room}
use Rattle.listener_set.proofs.listeners.ListenerSet.only_in.Goals as goal

pub push-requires-clause-new : goal.push-requires-clause-new
push-requires-clause-new c found =
    not_before c.as_slice-all.result.now c.loop-address.address-index c.address-item.result
    (rw (← c.as_slice-all.ensures.items) at c.as_slice-all.ensures.distinct) c.loop-address-test.true c.address-item.is
    (in_filter (λ a. not (has c.args.other.now a)) c.address-item.result _ (rw c.loop-address.invariant at found))

pub push-requires-clause-room : goal.push-requires-clause-room
push-requires-clause-room c =
    let kept : List ℕ → Bool = (λ a. not (has c.args.other.now a)) in
    let most : length c.as_slice-all.result.now ≤ 64 = rw (← c.as_slice-all.ensures.items) at c.as_slice-all.ensures.most in
    let room : length (filter kept (take c.loop-address.address-index c.as_slice-all.result.now)) < 64 =
    filter-room kept c.as_slice-all.result.now c.loop-address.address-index c.loop-address-test.true most in
    omega (arith, ap length c.loop-address.invariant, room)
