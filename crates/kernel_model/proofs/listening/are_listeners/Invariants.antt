use Rattle.std.proofs.Common.{◌≡◌, ◌↔◌, map, drop}
use Rattle.call_laws.specs.Pieces.{listener_of}
use Rattle.kernel_rows.specs.Holds.{seen_holds}
use Rattle.kernel_model.proofs.listening.are_listeners.Given as goal

-- All are the same where what is left is.
abbrev pub invariant-loop-listener : goal.invariant-loop-listener
invariant-loop-listener l =
    (map listener_of (seen_holds l.addresses l.pairs) ≡ drop l.listener-index l.listeners)
    ↔ (map listener_of (seen_holds l.addresses l.holds) ≡ l.listeners)
