use Rattle.std.proofs.Common.{◌≡◌, take}
use Rattle.turn_orders.proofs.orders.turns_from.Given as goal

abbrev pub invariant-loop-turn : goal.invariant-loop-turn
invariant-loop-turn l = l.copy ≡ take l.turn-index l.turns
