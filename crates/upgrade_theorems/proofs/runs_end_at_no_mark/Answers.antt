use Rattle.upgrade_theorems.proofs.Marks.{runs-end-at-no-mark}
use Rattle.upgrade_theorems.proofs.runs_end_at_no_mark.Goals as goal

pub returns : goal.returns
returns c = runs-end-at-no-mark
