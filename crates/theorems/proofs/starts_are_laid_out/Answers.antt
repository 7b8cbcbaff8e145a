use Rattle.theorems.proofs.LaidOut.{starts-laid-out}
use Rattle.theorems.proofs.starts_are_laid_out.Goals as goal

pub returns : goal.returns
returns c = starts-laid-out
