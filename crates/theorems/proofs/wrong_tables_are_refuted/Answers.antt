use Rattle.theorems.proofs.WrongTables.{wrong_tables}
use Rattle.theorems.proofs.wrong_tables_are_refuted.Goals as goal

pub returns : goal.returns
returns c = wrong_tables
