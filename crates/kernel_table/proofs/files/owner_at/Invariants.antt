use Rattle.std.proofs.Common.{◌≡◌, map, drop}
use Rattle.definitions.specs.Table.{owner_at}
use Rattle.kernel_table.specs.Seen.{seen_file}
use Rattle.kernel_table.proofs.files.owner_at.Given as goal

abbrev pub invariant-loop-file : goal.invariant-loop-file
invariant-loop-file l = owner_at l.path (map seen_file (drop l.file-index l.files)) ≡ owner_at l.path (map seen_file l.files)
