use Rattle.std.proofs.Common.{◌≡◌, ◌+◌, ◌++◌, drop}
use Rattle.plan_text.specs.Graph.{drawn_steps}
use Rattle.plan_text.proofs.graph.draw_steps.Given as goal

abbrev pub invariant-loop-place : goal.invariant-loop-place
invariant-loop-place l =
    l.out.items ++ drawn_steps (l.place + 1) (drop l.place l.steps) ≡ l.fn.out.items ++ drawn_steps 1 l.steps
