-- What the store stands for: the table of the definitions.
use Rattle.std.specs.Prelude.{◌+◌, map, length}
use Rattle.definitions.specs.Table.{File, Table}
use Rattle.kernel_rows.specs.Seen.{seen_rows}
use Rattle.kernel_table.specs.declared.file_row.FileRow.{FileRow}
use Rattle.kernel_table.specs.declared.store.Store.{Store}

abbrev pub seen_file : FileRow → File
seen_file f = record { path = f.path; owner = f.owner }

-- What the store stands for. Socket numbers count the addresses.
abbrev pub seen : Store → Table
seen s = record {
  rows = seen_rows s.addresses.items s.holders.items;
  files = map seen_file s.files.items;
  next_process = s.next_process;
  next_socket = length s.addresses.items + 1;
  limits = s.limits;
}
