use Rattle.std.proofs.Common.{◌≡◌, ◌≤◌, ◌+◌, ℕ, [], map, take, get_or}
use Rattle.plan_steps.specs.Steps.{trees_after}
use Rattle.plan_steps.specs.Stretches.{to_split}
use Rattle.plan_steps.proofs.stretches.splits_of.Given as goal

abbrev pub invariant-loop-step : goal.invariant-loop-step
invariant-loop-step l =
    record {
      splits : l.splits.items ≡ map to_split (trees_after [] (take l.step-index l.steps));
      within : (k : ℕ) → get_or l.splits.items k 0 ≤ l.step-index + 1;
    }
