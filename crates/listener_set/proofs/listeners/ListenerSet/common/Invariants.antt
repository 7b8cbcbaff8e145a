use Rattle.std.proofs.Common.{◌≡◌, filter, take}
use Rattle.listener_set.specs.AddressList.{has}
use Rattle.listener_set.proofs.listeners.ListenerSet.common.Given as goal

abbrev pub invariant-loop-address : goal.invariant-loop-address
invariant-loop-address l = l.both ≡ filter (has l.other) (take l.address-index l.all)
