-- What a contract sees of a kernel.
use Rattle.std.specs.Prelude.{ℕ}
use Rattle.definitions.specs.Table.{Table}

-- The table, and for how many calls there is room.
pub record State : Type 0 where
  pub table : Table
  pub room : ℕ
