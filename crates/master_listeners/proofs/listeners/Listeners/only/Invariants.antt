use Rattle.std.proofs.Common.{◌≡◌, take}
use Rattle.master_listeners.specs.Listeners.{only_under}
use Rattle.master_listeners.proofs.listeners.Listeners.only.Given as goal

abbrev pub invariant-loop-listener : goal.invariant-loop-listener
invariant-loop-listener l = l.listeners ≡ only_under l.set (take l.listener-index l.all)
