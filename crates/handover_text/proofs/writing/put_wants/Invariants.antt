use Rattle.std.proofs.Common.{◌≡◌, ◌++◌, true, take}
use Rattle.std.specs.List.{flat_map, list_all}
use Rattle.handover_text.specs.Spelling.{want_line}
use Rattle.handover_text.specs.Reading.{is_address}
use Rattle.handover_text.proofs.writing.put_wants.Given as goal

abbrev pub invariant-loop-address : goal.invariant-loop-address
invariant-loop-address l =
    (l.text.items ≡ l.fn.text.items ++ flat_map want_line (take l.address-index l.fn.addresses))
    × (list_all is_address (take l.address-index l.fn.addresses) ≡ true)
