use Rattle.std.proofs.Common.{length}
use Rattle.ipv6_text.proofs.groups.+zero_run.Given as goal

abbrev pub decreases-zero_run : goal.decreases-zero_run
decreases-zero_run l = length l.groups.now
