use Rattle.std.proofs.Common.{length}
use Rattle.call_text.proofs.shortfalls.+with_counts.Given as goal

abbrev pub decreases-with_counts : goal.decreases-with_counts
decreases-with_counts l = length l.text.now
