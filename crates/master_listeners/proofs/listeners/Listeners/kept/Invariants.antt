use Rattle.std.proofs.Common.{◌≡◌, take}
use Rattle.definitions.specs.After.{still_wanted}
use Rattle.master_listeners.proofs.listeners.Listeners.kept.Given as goal

abbrev pub invariant-loop-listener : goal.invariant-loop-listener
invariant-loop-listener l = l.listeners ≡ still_wanted l.addresses (take l.listener-index l.all)
