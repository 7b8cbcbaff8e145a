use Rattle.std.proofs.Common.{◌≡◌, ◌+◌, ◌++◌, drop}
use Rattle.plan_text.specs.PlanText.{steps_text}
use Rattle.plan_text.proofs.plans.write_steps.Given as goal

abbrev pub invariant-loop-place : goal.invariant-loop-place
invariant-loop-place l =
    l.out.items ++ steps_text (l.place + 1) (drop l.place l.steps) ≡ l.fn.out.items ++ steps_text 1 l.steps
