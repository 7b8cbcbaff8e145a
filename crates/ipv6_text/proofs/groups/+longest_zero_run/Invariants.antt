use Rattle.std.proofs.Common.{length}
use Rattle.ipv6_text.proofs.groups.+longest_zero_run.Given as goal

abbrev pub decreases-longest_zero_run : goal.decreases-longest_zero_run
decreases-longest_zero_run l = length l.groups.now
