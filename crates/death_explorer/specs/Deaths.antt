-- The deaths of executing masters in runs in which nothing else goes wrong, and what each leaves.
use Rattle.std.specs.Prelude.{ℕ, ◌+◌, List, [], ◌∷◌, ◌++◌, map, None}
use Rattle.vocabulary.specs.Settings.{Settings}
use Rattle.vocabulary.specs.declared.targets.Target.{Target}
use Rattle.vocabulary.specs.declared.reports.Entry.{Entry}
use Rattle.definitions.specs.Table.{Table}
use Rattle.definitions.specs.Calls.{after_exits, step_with, Handed}
use Rattle.definitions.specs.Master.{Record, handover_for}
use Rattle.definitions.specs.Plans.{Turn}
use Rattle.definitions.specs.Claims.{heirs_of, run_of}
use Rattle.call_laws.specs.Pieces.{executing_at, executing_after, quiet}
use Rattle.death_explorer.specs.declared.counts.Death.{Death}
use Rattle.death_explorer.specs.declared.counts.DeathCounts.{DeathCounts}
use Rattle.death_explorer.specs.Counts.{ended, least_with}
use Rattle.death_explorer.specs.Leftovers.{exits_of, fewest_left, has_room, are_held}

-- A death, and the table that it leaves.
pub record Left : Type 0 where
  pub death : Death
  pub table : Table

-- The master exits in this table, and whoever is left of it goes with it.
abbrev pub left_by : Table → Death → Left
left_by t death = record { death = death; table = after_exits (exits_of death.image) t }

-- The deaths of these masters before the n-th call of the run of an order.
abbrev pub deaths_at : ℕ → ℕ → Table → List ℕ → List Left
deaths_at order n t images = map (λ i. left_by t (record { order = order; number = n; image = i })) images

-- The deaths at these calls, of the masters that execute at each: the first call is number n + 1, and this is the table
-- before it.
abbrev pub deaths_met : Handed → ℕ → List ℕ → List ℕ → ℕ → Table → List Entry → List Left
deaths_met handed order executing heirs n t [] = []
deaths_met handed order executing heirs n t (e ∷ entries) =
    deaths_at order (n + 1) t (executing_at e.call executing heirs)
    ++ deaths_met handed order (executing_after e.call executing heirs) heirs (n + 1) (step_with handed e.by e.call None t).table entries

-- Those in the run of a target by these turns, in which nothing else goes wrong.
abbrev pub deaths_of : Record → Target → ℕ → List Turn → Table → List Left
deaths_of r target order turns t =
    deaths_met (handover_for r target) order (r.generation.image ∷ []) (heirs_of r target) 0 t (run_of r target turns (λ n. quiet) t).entries

-- Those in its runs by these orders, of which the first is at place n.
abbrev pub deaths_by : Record → Target → ℕ → List (List Turn) → Table → List Left
deaths_by r target n [] t = []
deaths_by r target n (turns ∷ orders) t = deaths_of r target n turns t ++ deaths_by r target (n + 1) orders t

---- What is found of each

-- One death more of the record's masters.
abbrev pub counted : Record → Settings → Left → DeathCounts → DeathCounts
counted r s left c =
    let e = ended left.death (are_held s.listeners r) (has_room s left.table) c in
    record e { least = least_with left.death (fewest_left s.listeners left.table) e.least }

abbrev pub counted_all : Record → Settings → List Left → DeathCounts → DeathCounts
counted_all r s [] c = c
counted_all r s (left ∷ more) c = counted_all r s more (counted r s left c)
