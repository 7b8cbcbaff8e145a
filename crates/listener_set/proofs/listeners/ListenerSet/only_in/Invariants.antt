use Rattle.std.proofs.Common.{◌≡◌, filter, take, not}
use Rattle.listener_set.specs.AddressList.{has}
use Rattle.listener_set.proofs.listeners.ListenerSet.only_in.Given as goal

abbrev pub invariant-loop-address : goal.invariant-loop-address
invariant-loop-address l = l.rest ≡ filter (λ a. not (has l.other a)) (take l.address-index l.all)
