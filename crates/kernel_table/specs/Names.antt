-- What a store knows of names.
use Rattle.std.specs.Prelude.{ℕ, ◌≤◌, count_by, IfSome}
use Rattle.definitions.specs.Table.{is_worker}
use Rattle.call_laws.specs.Pieces.{is_any}
use Rattle.kernel_rows.specs.declared.process.WorkerName.{WorkerName}
use Rattle.kernel_table.specs.declared.store.Store.{Store}
use Rattle.kernel_table.specs.Seen.{seen}
use Rattle.kernel_rows.specs.Places.{IsWorkerAt}
use Rattle.kernel_table.specs.Free.{AreFree}
use Rattle.kernel_table.specs.Lone.{AreLone}

-- The names that it takes for free are, and of those that it takes for lone one worker at most bears each.
pub record KnowsNames (s : Store) : Type 0 where
  pub free : AreFree s.free (seen s).rows
  pub lone : IfSome s.lone (λ l. AreLone l (seen s).rows)

-- At the place is the only worker of the name.
pub record IsLoneAt (s : Store) (name : WorkerName) (place : ℕ) : Type 0 where
  pub found : IsWorkerAt s.holders.items name place
  pub alone : count_by (is_worker is_any name.parent name.generation name.nr) (seen s).rows ≤ 1
