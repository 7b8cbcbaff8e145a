use Rattle.reload_theorems.proofs.Waits.{reloads-leave-all}
use Rattle.reload_theorems.proofs.reloads_in_one_step_leave_all.Goals as goal

pub returns : goal.returns
returns c = reloads-leave-all
