use Rattle.std.proofs.Common.{◌≡◌, ◌≤◌, ℕ, [], map, take, get_or}
use Rattle.call_laws.specs.Lengths.{height}
use Rattle.plan_steps.specs.Steps.{trees_after}
use Rattle.plan_steps.proofs.numbering.heights_of.Given as goal

abbrev pub invariant-loop-step : goal.invariant-loop-step
invariant-loop-step l =
    record {
      heights : l.heights.items ≡ map height (trees_after [] (take l.step-index l.steps));
      within : (k : ℕ) → get_or l.heights.items k 0 ≤ l.step-index;
    }
