use Rattle.further_theorems.proofs.Peace.{workers-end-in-peace}
use Rattle.further_theorems.proofs.workers_end_in_peace.Goals as goal

pub returns : goal.returns
returns c = workers-end-in-peace
