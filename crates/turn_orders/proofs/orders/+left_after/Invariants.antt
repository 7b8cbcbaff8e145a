use Rattle.std.proofs.Common.{◌+◌}
use Rattle.turn_orders.proofs.orders.+left_after.Given as goal

abbrev pub decreases-left_after : goal.decreases-left_after
decreases-left_after l = l.olds + l.news
