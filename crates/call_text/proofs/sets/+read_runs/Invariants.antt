use Rattle.std.proofs.Common.{length}
use Rattle.call_text.proofs.sets.+read_runs.Given as goal

abbrev pub decreases-read_runs : goal.decreases-read_runs
decreases-read_runs l = length l.text.now
