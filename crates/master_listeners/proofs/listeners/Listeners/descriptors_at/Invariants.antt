use Rattle.std.proofs.Common.{◌≡◌, take}
use Rattle.definitions.specs.After.{descriptors_at}
use Rattle.master_listeners.proofs.listeners.Listeners.descriptors_at.Given as goal

abbrev pub invariant-loop-listener : goal.invariant-loop-listener
invariant-loop-listener l = l.set ≡ descriptors_at (take l.listener-index l.all) l.addresses
