use Rattle.std.proofs.Common.{◌≡◌, ◌++◌, length, drop}
use Rattle.std.specs.List.{list_all}
use Rattle.worker_groups.specs.Groups.{addresses_in}
use Rattle.handover_text.specs.Spelling.{group_lines}
use Rattle.handover_text.specs.Reading.{is_address}
use Rattle.handover_text.proofs.writing.put_groups.Given as goal

abbrev pub invariant-loop-group : goal.invariant-loop-group
invariant-loop-group l =
    (l.text.items ++ group_lines (drop l.group-index l.all) l.rest ≡ l.fn.text.items ++ group_lines l.all l.fn.addresses)
    × (addresses_in (drop l.group-index l.all) ≡ length l.rest)
    × (list_all is_address l.fn.addresses ≡ list_all is_address l.rest)
