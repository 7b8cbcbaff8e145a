use Rattle.theorems.proofs.Starts.{starts-agree}
use Rattle.theorems.proofs.starts_agree.Goals as goal

pub returns : goal.returns
returns c = starts-agree
