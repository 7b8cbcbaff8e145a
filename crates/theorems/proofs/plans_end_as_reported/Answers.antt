use Rattle.theorems.proofs.Promise.{headline}
use Rattle.theorems.proofs.plans_end_as_reported.Goals as goal

pub returns : goal.returns
returns c = headline
