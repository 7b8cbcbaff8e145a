-- The codes of the refusals, as they are printed.
use Rattle.std.specs.Prelude.{ℕ, List, codes}
use Rattle.worker_table.specs.declared.refusal.TableRefusal.{TableRefusal}
use Rattle.worker_table.specs.declared.refusal.TableRefusal.TheVariants.{Taken, TooHigh, NoSuch, Backwards}

abbrev pub table_code : TableRefusal → List ℕ
table_code Taken = codes "T1"
table_code TooHigh = codes "T2"
table_code NoSuch = codes "T3"
table_code Backwards = codes "T4"
