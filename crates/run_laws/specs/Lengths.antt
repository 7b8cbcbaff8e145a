-- How long a run is.
use Rattle.std.specs.Prelude.{ℕ, ◌+◌, ◌*◌, ◌≤◌, List, length}
use Rattle.vocabulary.specs.Settings.{Settings}
use Rattle.definitions.specs.Master.{Record, Target, Upgrade, Attended, numbers_wanted, addresses_wanted}
use Rattle.definitions.specs.Run.{Tree, run_with, Pattern, Progress}
use Rattle.call_laws.specs.Lengths.{height}
use Rattle.definitions.specs.Plans.{Turn, plan_tree}
use Rattle.call_laws.specs.Lengths.{plan_length}
use Rattle.definitions.specs.Calls.{Handed}

-- A run makes no more calls than the longest path of its plan has steps; and under any turns a plan has no longer one
-- than its stretches have together.
abbrev pub PlansFit : Type 0
PlansFit = (r : Record) (target : Target) (turns : List Turn) → height (plan_tree r target turns) ≤ plan_length r target

-- That is bounded, attended or not.
abbrev pub most_calls : Record → Target → ℕ
most_calls r target =
    9 * (length r.ready + length (numbers_wanted r target))
    + 3 * (length r.listeners + length (addresses_wanted r target)) + 16 * r.retries + 48

abbrev pub UpgradesAreShort : Type 0
UpgradesAreShort =
    (r : Record) (s : Settings) →
    (plan_length r (Upgrade s) ≤ most_calls r (Upgrade s)) × (plan_length r (Attended s) ≤ most_calls r (Attended s))

abbrev pub RunsWithin : Type 0
RunsWithin =
    (handed : Handed) (plan : Tree) (pattern : Pattern) (p : Progress) →
    length (run_with handed plan pattern p).entries ≤ height plan
