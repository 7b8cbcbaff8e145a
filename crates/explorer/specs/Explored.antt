-- What the runs of a target come to by given turns, under no event, each single one that its run meets, and each pair of those.
use Rattle.std.specs.Prelude.{ℕ, ◌≡◌, ◌≢◌, ◌≤◌, ◌<◌, Bool, List, [], ◌∷◌, ◌++◌, map, Option, Some, None, if◌then◌else◌, ◌⊎◌, ⊤}
use Rattle.std.specs.List.{AllPairs, AllByRecursion}
use Rattle.vocabulary.specs.declared.targets.Target.{Target}
use Rattle.definitions.specs.Table.{Table}
use Rattle.definitions.specs.Master.{Record, sides_of, handover_for}
use Rattle.definitions.specs.Plans.{Turn}
use Rattle.definitions.specs.Run.{Report, report_of}
use Rattle.definitions.specs.Claims.{run_of, heirs_of}
use Rattle.explorer.specs.declared.events.Mishap.{Mishap}
use Rattle.explorer.specs.declared.events.Mishap.TheVariants.{Exit, Fail}
use Rattle.explorer.specs.declared.events.Event.{Event}
use Rattle.explorer.specs.declared.events.Tried.{Tried}
use Rattle.explorer.specs.declared.events.Tried.TheVariants.{Nothing, One, Two}
use Rattle.explorer.specs.declared.tally.Tally.{Tally}
use Rattle.explorer.specs.Events.{pattern_of, events_in, met}
use Rattle.explorer.specs.Tallies.{counted}

-- What the run of a target reports where this goes wrong.
abbrev pub report_under : Record → Target → List Turn → Table → Tried → Report
report_under r target turns t tried = report_of (sides_of r target) (run_of r target turns (pattern_of tried) t)

---- Which runs there are

abbrev pub last_of : Tried → Option Event
last_of Nothing = None
last_of (One e) = Some e
last_of (Two e f) = Some f

-- What more can go wrong in the run in which this goes wrong: the events that it meets behind the last one.
abbrev pub events_after : Record → Target → List Turn → Table → Tried → List Event
events_after r target turns t tried =
    met (handover_for r target) (last_of tried) (pattern_of tried) (heirs_of r target) 0 t
    (run_of r target turns (pattern_of tried) t).entries

-- The run in which this goes wrong and, where pairs are asked for, each in which one thing more does.
abbrev pub with_pairs : Record → Target → List Turn → Table → Bool → Event → List Tried
with_pairs r target turns t pairs e = One e ∷ (if pairs then map (Two e) (events_after r target turns t (One e)) else [])

abbrev pub each_with_pairs : Record → Target → List Turn → Table → Bool → List Event → List Tried
each_with_pairs r target turns t pairs [] = []
each_with_pairs r target turns t pairs (e ∷ es) = with_pairs r target turns t pairs e ++ each_with_pairs r target turns t pairs es

-- All runs of a target: under no event, under each that this run meets, and under each pair of those.
abbrev pub all_tried : Record → Target → List Turn → Table → Bool → List Tried
all_tried r target turns t pairs = Nothing ∷ each_with_pairs r target turns t pairs (events_after r target turns t Nothing)

---- That none comes twice

-- What goes wrong beside an exit before the same call: the exit of a process with a higher number, or the call's failure.
abbrev pub IsBeside : Mishap → Mishap → Type 0
IsBeside (Exit n p) (Exit m q) = p < q
IsBeside (Exit n p) (Fail f) = ⊤
IsBeside (Fail f) m = ⊥

-- The second event comes behind the first: at a later call, or beside it.
abbrev pub IsBehind : Event → Event → Type 0
IsBehind e f = (e.number < f.number) ⊎ ((e.number ≡ f.number) × IsBeside e.mishap f.mishap)

abbrev pub IsInOrder : Tried → Type 0
IsInOrder Nothing = ⊤
IsInOrder (One e) = ⊤
IsInOrder (Two e f) = IsBehind e f

-- how many events a run has at most
abbrev pub most_events : Bool → ℕ
most_events pairs = if pairs then 2 else 1

-- No two of these runs are the same, nor do two have the same events in another order: each has its events in the one order that
-- they can have. Each has so many at most.
pub record AreOnce (most : ℕ) (runs : List Tried) : Type 0 where
  pub distinct : AllPairs (λ a b. a ≢ b) runs
  pub in_order : AllByRecursion IsInOrder runs
  pub few : AllByRecursion (λ tried. events_in tried ≤ most) runs

---- How they are counted

-- These runs, counted one after another by what they report.
abbrev pub with_runs : Record → Target → List Turn → Table → List Tried → Tally → Tally
with_runs r target turns t [] tally = tally
with_runs r target turns t (tried ∷ more) tally = with_runs r target turns t more (counted tried (report_under r target turns t tried).outcome tally)

abbrev pub explored_from : Record → Target → List Turn → Table → Bool → Tally → Tally
explored_from r target turns t pairs tally = with_runs r target turns t (all_tried r target turns t pairs) tally
