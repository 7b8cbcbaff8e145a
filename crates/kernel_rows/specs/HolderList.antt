-- What contracts see of a list of processes.
use Rattle.std.specs.Prelude.{ℕ, List}
use Rattle.kernel_rows.specs.declared.process.Holder.{Holder}

-- the processes in their order, and how many there is memory for
pub record HolderList : Type 0 where
  pub items : List Holder
  pub capacity : ℕ
