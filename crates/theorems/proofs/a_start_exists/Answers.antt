use Rattle.theorems.proofs.Examples.{has_start}
use Rattle.theorems.proofs.a_start_exists.Goals as goal

pub returns : goal.returns
returns c = has_start
