use Rattle.std.proofs.Common.{◌≡◌}
use Rattle.master_on_children.specs.TakingTurns.{in_turn}
use Rattle.master_on_children.proofs.taking_turns.turns_by_turns.Given as goal

abbrev pub invariant-loop : goal.invariant-loop
invariant-loop l = l.turns ≡ in_turn l.counter
