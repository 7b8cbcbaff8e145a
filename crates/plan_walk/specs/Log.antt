-- What a contract sees of a log.
use Rattle.std.specs.Prelude.{List, ℕ}
use Rattle.vocabulary.specs.declared.reports.Entry.{Entry}

-- the entries, and for how many more there is room
pub record Told : Type 0 where
  pub entries : List Entry
  pub room : ℕ
