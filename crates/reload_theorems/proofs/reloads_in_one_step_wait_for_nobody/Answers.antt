use Rattle.reload_theorems.proofs.Waits.{reloads-wait-for-nobody}
use Rattle.reload_theorems.proofs.reloads_in_one_step_wait_for_nobody.Goals as goal

pub returns : goal.returns
returns c = reloads-wait-for-nobody
