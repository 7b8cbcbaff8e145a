use Rattle.std.proofs.Common.{◌+◌}
use Rattle.turn_orders.proofs.orders.+add_orders.Given as goal

abbrev pub decreases-add_orders : goal.decreases-add_orders
decreases-add_orders l = l.olds + l.news
