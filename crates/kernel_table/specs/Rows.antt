-- Rows among the others.
use Rattle.std.specs.Prelude.{Contains}
use Rattle.kernel_rows.specs.declared.process.Caller.{Caller}
use Rattle.kernel_rows.specs.Seen.{caller_row}
use Rattle.kernel_table.specs.declared.store.Store.{Store}
use Rattle.kernel_table.specs.Seen.{seen}

-- the caller is one of the rows
abbrev pub IsOwn : Store → Caller → Type 0
IsOwn s c = Contains (seen s).rows (caller_row s.addresses.items c)
