use Rattle.further_theorems.proofs.Bound.{operators-are-obeyed}
use Rattle.further_theorems.proofs.operators_are_obeyed.Goals as goal

pub returns : goal.returns
returns c = operators-are-obeyed
