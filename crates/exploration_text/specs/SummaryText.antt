-- What all runs came to.
use Rattle.std.specs.Prelude.{ℕ, Bool, List, [], ◌∷◌, ◌++◌, Option, Some, None, unwrap_or, slice_get, codes, if◌then◌else◌}
use Rattle.definitions.specs.Plans.{Turn}
use Rattle.pattern_text.specs.TurnsText.{letters}
use Rattle.std.specs.Fmt.{decimal}
use Rattle.explorer.specs.declared.events.Tried.{Tried}
use Rattle.explorer.specs.declared.events.Tried.TheVariants.{Nothing, One, Two}
use Rattle.explorer.specs.declared.findings.Least.{Least}
use Rattle.order_explorer.specs.declared.totals.OrderedRun.{OrderedRun}
use Rattle.order_explorer.specs.declared.totals.Ends.{Ends}
use Rattle.order_explorer.specs.declared.totals.OrderedLeast.{OrderedLeast}
use Rattle.order_explorer.specs.declared.totals.OrderedMost.{OrderedMost}
use Rattle.order_explorer.specs.declared.totals.Totals.{Totals}
use Rattle.exploration_text.specs.RunText.{event_text}

-- the events of a run, on one line
abbrev pub tried_text : Tried → List ℕ
tried_text Nothing = codes "no event"
tried_text (One e) = event_text e
tried_text (Two e f) = event_text e ++ codes ", " ++ event_text f

-- the turns of an order that has some, as their line is without its newline
abbrev pub order_text : List Turn → List ℕ
order_text turns = codes "turns " ++ letters turns

-- the section of a run, on one line: its turns, where there are any, and its events
abbrev pub section_text : List Turn → Tried → List ℕ
section_text [] tried = tried_text tried
section_text (turn ∷ turns) Nothing = order_text (turn ∷ turns)
section_text (turn ∷ turns) (One e) = order_text (turn ∷ turns) ++ codes ", " ++ tried_text (One e)
section_text (turn ∷ turns) (Two e f) = order_text (turn ∷ turns) ++ codes ", " ++ tried_text (Two e f)

-- the turns of the order at a place, and none where there is no such order
abbrev pub turns_at : List (List Turn) → ℕ → List Turn
turns_at orders n = unwrap_or (slice_get orders n) []

-- the section of a run by one of these orders
abbrev pub run_section : List (List Turn) → OrderedRun → List ℕ
run_section orders run = section_text (turns_at orders run.order) run.tried

-- in which run something is so
unfoldable pub under_text : List (List Turn) → OrderedRun → List ℕ
under_text orders run = codes " under " ++ run_section orders run

abbrev pub shortest_text : List (List Turn) → Option OrderedRun → List ℕ
shortest_text orders None = []
shortest_text orders (Some run) = under_text orders run

-- a number behind what it counts
unfoldable pub count_text : List ℕ → ℕ → List ℕ
count_text name n = name ++ codes " " ++ decimal n

-- how many runs ended so, and in which of them fewest things went wrong
unfoldable pub end_line : List (List Turn) → List ℕ → Ends → List ℕ
end_line orders name ends = count_text name ends.count ++ shortest_text orders ends.shortest ++ codes "\n"

unfoldable pub shortfall_line : ℕ → List ℕ
shortfall_line shortfall = count_text (codes "largest shortfall") shortfall ++ codes "\n"

-- the runs after which all workers are there
unfoldable pub full_text : List (List Turn) → Totals → List ℕ
full_text orders totals = end_line orders (codes "done") totals.done ++ end_line orders (codes "rolled-back") totals.rolled_back

-- and those after which some are lacking
unfoldable pub degraded_text : List (List Turn) → Totals → List ℕ
degraded_text orders totals = end_line orders (codes "degraded old") totals.degraded_old ++ end_line orders (codes "degraded target") totals.degraded_target

-- A run is never lost (the headline of its theorem says so), and no line tells of such runs.
unfoldable pub ends_text : List (List Turn) → Totals → List ℕ
ends_text orders totals = full_text orders totals ++ degraded_text orders totals ++ shortfall_line totals.shortfall

-- which address had the fewest Ready workers, and after which call
unfoldable pub place_text : Least → List ℕ
place_text least = codes " at " ++ least.address ++ count_text (codes " after call") least.made

-- how many these are
unfoldable pub ready_text : ℕ → List ℕ
ready_text ready = count_text (codes "least ready") ready

-- the run of the fewest Ready workers
abbrev pub run_of_least : OrderedLeast → OrderedRun
run_of_least found = record { order = found.order; tried = found.least.tried }

-- all of that, and in which run
unfoldable pub least_line : List (List Turn) → Option OrderedLeast → List ℕ
least_line orders None = codes "least ready none\n"
least_line orders (Some found) =
    ready_text found.least.ready ++ place_text found.least ++ under_text orders (run_of_least found) ++ codes "\n"

-- the run in which most workers lived at once
abbrev pub run_of_most : OrderedMost → OrderedRun
run_of_most found = record { order = found.order; tried = found.most.tried }

-- how many these are
unfoldable pub living_text : ℕ → List ℕ
living_text workers = count_text (codes "most workers") workers

-- after which call
unfoldable pub call_text : ℕ → List ℕ
call_text made = count_text (codes " after call") made

-- all of that, and in which run
unfoldable pub most_line : List (List Turn) → Option OrderedMost → List ℕ
most_line orders None = codes "most workers none\n"
most_line orders (Some found) =
    living_text found.most.workers ++ call_text found.most.made ++ under_text orders (run_of_most found) ++ codes "\n"

-- the fewest ready workers, and the most that lived
unfoldable pub extremes_text : List (List Turn) → Totals → List ℕ
extremes_text orders totals = least_line orders totals.least ++ most_line orders totals.most

unfoldable pub tables_line : ℕ → List ℕ
tables_line tables = count_text (codes "tables") tables ++ codes "\n"

-- behind all lines, where runs were left out
abbrev pub cut_text : Bool → List ℕ
cut_text is_cut = if is_cut then codes "cut: there are more runs than the limit\n" else []

abbrev pub summary_text : List (List Turn) → Totals → Bool → List ℕ
summary_text orders totals is_cut = ends_text orders totals ++ extremes_text orders totals ++ tables_line totals.tables ++ cut_text is_cut
