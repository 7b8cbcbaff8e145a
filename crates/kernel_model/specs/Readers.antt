-- Rows, holds and files of a table as the readers give them.
use Rattle.std.specs.Prelude.{ℕ, List, map}
use Rattle.std.specs.List.{flat_map}
use Rattle.definitions.specs.Table.{Hold, Process, Master, Worker, Foreign, File, number_of, holds_of}
use Rattle.kernel_rows.specs.declared.process.Row.{Row}
use Rattle.kernel_rows.specs.declared.process.Row.TheVariants as row
use Rattle.kernel_model.specs.declared.readers.HoldRow.{HoldRow}
use Rattle.kernel_table.specs.declared.file_row.FileRow.{FileRow}

-- A process without its holds.
abbrev pub row_of : Process → Row
row_of (Master n q image live hs) = row.Master n q image live
row_of (Worker n q g k s hs) = row.Worker n q g k s
row_of (Foreign n hs) = row.Foreign n

abbrev pub hold_row : ℕ → Hold → HoldRow
hold_row number h = record { process = number; descriptor = h.fd; socket = h.socket; address = h.address }

abbrev pub holds_in : Process → List HoldRow
holds_in p = map (hold_row (number_of p)) (holds_of p)

-- The holds of all processes, in the order of the rows and of the descriptors.
abbrev pub hold_rows : List Process → List HoldRow
hold_rows rows = flat_map holds_in rows

abbrev pub file_row : File → FileRow
file_row f = record { path = f.path; owner = f.owner }
