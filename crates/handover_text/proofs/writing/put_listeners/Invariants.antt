use Rattle.std.proofs.Common.{◌≡◌, ◌++◌, true, take}
use Rattle.std.specs.List.{flat_map, list_all}
use Rattle.handover_text.specs.Spelling.{listener_line}
use Rattle.handover_text.specs.Reading.{is_address}
use Rattle.vocabulary.specs.declared.table.Listener.{Listener}
use Rattle.handover_text.proofs.writing.put_listeners.Given as goal

abbrev pub invariant-loop-listener : goal.invariant-loop-listener
invariant-loop-listener l =
    (l.text.items ≡ l.fn.text.items ++ flat_map listener_line (take l.listener-index l.all))
    × (list_all (λ (m : Listener). is_address m.address) (take l.listener-index l.all) ≡ true)
