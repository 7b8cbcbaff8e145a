use Rattle.std.proofs.Common.{◌≡◌, ◌++◌}
use Rattle.plan_pieces.proofs.listing.listed.Given as goal

abbrev pub invariant-loop-number : goal.invariant-loop-number
invariant-loop-number l = l.list.items ++ l.number-iterator ≡ l.numbers
