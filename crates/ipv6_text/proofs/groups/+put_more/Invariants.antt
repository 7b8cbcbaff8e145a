use Rattle.std.proofs.Common.{length}
use Rattle.ipv6_text.proofs.groups.+put_more.Given as goal

abbrev pub decreases-put_more : goal.decreases-put_more
decreases-put_more l = length l.groups.now
