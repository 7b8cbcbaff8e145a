use Rattle.theorems.proofs.WorkedRuns.{worked_runs}
use Rattle.theorems.proofs.worked_runs_hold.Goals as goal

pub returns : goal.returns
returns c = worked_runs
