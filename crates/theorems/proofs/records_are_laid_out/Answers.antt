use Rattle.theorems.proofs.LaidOut.{records-laid-out}
use Rattle.theorems.proofs.records_are_laid_out.Goals as goal

pub returns : goal.returns
returns c = records-laid-out
