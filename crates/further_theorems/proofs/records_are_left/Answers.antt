use Rattle.further_theorems.proofs.Left.{records-are-left}
use Rattle.further_theorems.proofs.records_are_left.Goals as goal

pub returns : goal.returns
returns c = records-are-left
