-- Names that no worker bears.
use Rattle.std.specs.Prelude.{ℕ, ◌≡◌, ◌≤◌, false, List}
use Rattle.std.specs.List.{list_any}
use Rattle.definitions.specs.Table.{Process, is_active, is_worker}
use Rattle.kernel_table.specs.declared.free_names.FreeNames.{FreeNames}
use Rattle.kernel_rows.specs.declared.process.WorkerName.{WorkerName}

-- From the first number on no worker of the master and generation is Starting or Ready.
abbrev pub AreFree : FreeNames → List Process → Type 0
AreFree free rows = (k : ℕ) → free.first ≤ k → list_any (is_worker is_active free.parent free.generation k) rows ≡ false

-- The name is one of these.
abbrev pub IsAmong : WorkerName → FreeNames → Type 0
IsAmong name free = (free.parent ≡ name.parent) × (free.generation ≡ name.generation) × (free.first ≤ name.nr)
