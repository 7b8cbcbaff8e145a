-- The most workers that live at once.
use Rattle.std.specs.Prelude.{ℕ, ◌≡◌, ◌≤◌, nat_lt, not, Bool, true, false, Option, Some, None, IsTrue, count_by, ◌⊎◌}
use Rattle.definitions.specs.Table.{Process, Worker, Table, Exited, same_stance}
use Rattle.kernel_rows.specs.declared.process.Row.{Row}
use Rattle.kernel_rows.specs.declared.process.Row.TheVariants as row
use Rattle.explorer.specs.declared.events.Tried.{Tried}
use Rattle.explorer.specs.declared.findings.Findings.{Findings}
use Rattle.explorer.specs.declared.findings.Most.{Most}

-- A worker lives until it has exited: also while it starts, and while it drains.
abbrev pub is_living : Process → Bool
is_living (Worker n q g k s hs) = not (same_stance Exited s)
is_living _ = false

-- how many workers live in a table
abbrev pub living_in : Table → ℕ
living_in t = count_by is_living t.rows

-- the same of a row that is read
abbrev pub is_living_row : Row → Bool
is_living_row (row.Worker n q g k s) = not (same_stance Exited s)
is_living_row _ = false

-- Whether so many are more than were found. The first ones are.
abbrev pub exceeds : ℕ → Option Most → Bool
exceeds n None = true
exceeds n (Some most) = nat_lt most.workers n

-- So many are no more than were found.
abbrev pub IsAtMost : ℕ → Option Most → Type 0
IsAtMost n None = ⊥
IsAtMost n (Some most) = n ≤ most.workers

-- They live in this table: more than before, after so many calls of the run in which this goes wrong.
pub record IsMostIn (t : Table) (run : Tried) (calls : ℕ) (before : Findings) (most : Most) : Type 0 where
  pub workers : most.workers ≡ living_in t
  pub more : IsTrue (exceeds most.workers before.most)
  pub tried : most.tried ≡ run
  pub made : most.made ≡ calls

-- The most are the same as before, or live in this table.
abbrev pub IsMostSince : Table → Tried → ℕ → Findings → Findings → Type 0
IsMostSince t run calls before after = (after.most ≡ before.most) ⊎ ((most : Most) × (after.most ≡ Some most) × IsMostIn t run calls before most)
