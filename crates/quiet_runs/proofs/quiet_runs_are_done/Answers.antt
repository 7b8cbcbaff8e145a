use Rattle.quiet_runs.proofs.Done.{quiet-is-done}
use Rattle.quiet_runs.proofs.quiet_runs_are_done.Goals as goal

pub returns : goal.returns
returns c = quiet-is-done
