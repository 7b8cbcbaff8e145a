use Rattle.upgrade_theorems.proofs.Asked.{operators-are-asked}
use Rattle.upgrade_theorems.proofs.operators_are_asked.Goals as goal

pub returns : goal.returns
returns c = operators-are-asked
