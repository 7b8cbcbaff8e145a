use Rattle.std.proofs.Common.{◌≡◌, map, take}
use Rattle.vocabulary.specs.declared.table.Listener.{Listener}
use Rattle.master_listeners.proofs.listeners.Listeners.addresses.Given as goal

abbrev pub invariant-loop-listener : goal.invariant-loop-listener
invariant-loop-listener l = l.addresses ≡ map (λ (m : Listener). m.address) (take l.listener-index l.all)
