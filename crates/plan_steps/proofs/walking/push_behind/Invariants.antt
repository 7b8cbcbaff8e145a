use Rattle.std.proofs.Common.{◌≡◌, ◌++◌, map}
use Rattle.plan_steps.specs.Numbering.{places_behind}
use Rattle.plan_steps.proofs.walking.push_behind.Given as goal

abbrev pub invariant-loop-edge : goal.invariant-loop-edge
invariant-loop-edge l = l.waiting.items ≡ l.fn.waiting.items ++ places_behind (map (λ e. e.now) l.yielded)
