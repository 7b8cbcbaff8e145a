use Rattle.further_theorems.proofs.Named.{workers-end-by-name}
use Rattle.further_theorems.proofs.workers_end_by_name.Goals as goal

pub returns : goal.returns
returns c = workers-end-by-name
