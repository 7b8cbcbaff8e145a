use Rattle.std.proofs.Common.{◌≡◌, drop}
use Rattle.master_listeners.proofs.Listed.{opened_each}
use Rattle.master_listeners.proofs.listeners.Listeners.opened.Given as goal

abbrev pub invariant-loop-address : goal.invariant-loop-address
invariant-loop-address l = opened_each (drop l.address-index l.all) l.listeners ≡ opened_each l.all l.fn.self
