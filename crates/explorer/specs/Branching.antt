-- Where runs branch off another one, and how they are counted.
use Rattle.std.specs.Prelude.{◌≡◌, ◌+◌, Bool, List, map}
use Rattle.std.specs.List.{AllByRecursion}
use Rattle.definitions.specs.Calls.{after_exits}
use Rattle.definitions.specs.Run.{Report}
use Rattle.call_laws.specs.Pieces.{quiet}
use Rattle.definitions.specs.Master.{handover_for}
use Rattle.plan_walk.specs.Course.{turns_of, trail_on}
use Rattle.plan_walk.specs.Walk.{AsksFor}
use Rattle.plan_executor.specs.Naming.{listed}
use Rattle.explorer.specs.declared.branching.BranchPoint.{BranchPoint}
use Rattle.explorer.specs.declared.events.Event.{Event}
use Rattle.explorer.specs.declared.events.Mishap.{Mishap}
use Rattle.explorer.specs.declared.events.Tried.{Tried}
use Rattle.explorer.specs.declared.events.Tried.TheVariants.{One, Two}
use Rattle.explorer.specs.declared.position.Position.{Position}
use Rattle.explorer.specs.declared.tally.Tally.{Tally}
use Rattle.explorer.specs.Events.{event_at, with_mishap, beside, waiting}
use Rattle.explorer.specs.Explored.{report_under, with_runs, with_pairs, each_with_pairs}
use Rattle.explorer.specs.Known.{IsKnownAt}

-- The call is due in the run.
abbrev pub IsDue : BranchPoint → Type 0
IsDue point = AsksFor (trail_on point.run.now.course) point.due.now.by point.due.now.call

-- What is known is the report of a run in which a process exits before the call.
abbrev pub AreKnown : BranchPoint → Type 0
AreKnown point = AllByRecursion (IsKnownAt point.run.now (point.run.now.made + 1)) point.known.now

---- Which runs branch off

-- The mishap, at the call.
abbrev pub event_here : BranchPoint → Mishap → Event
event_here point m = event_at (point.run.now.made + 1) m

-- what the target's run reports in which this goes wrong
abbrev pub report_of_run : Position → Tried → Report
report_of_run run tried = report_under run.state.now run.target.now (turns_of run.course) run.first.now.table tried

-- The same of the run with this mishap at the call.
abbrev pub report_with : BranchPoint → Mishap → Report
report_with point m = report_of_run point.run.now (One (event_here point m))

-- The run in which this goes wrong at the call and, where pairs are asked for, each in which one thing more does.
abbrev pub runs_with : BranchPoint → Bool → Mishap → List Tried
runs_with point pairs m =
    with_pairs point.run.now.state.now point.run.now.target.now
    (turns_of point.run.now.course) point.run.now.first.now.table pairs (event_here point m)

-- The same for each of these events of a run.
abbrev pub runs_with_each : Position → Bool → List Event → List Tried
runs_with_each run pairs events = each_with_pairs run.state.now run.target.now (turns_of run.course) run.first.now.table pairs events

-- The same for each of these mishaps at the call.
abbrev pub runs_with_all : BranchPoint → Bool → List Mishap → List Tried
runs_with_all point pairs ms = runs_with_each point.run.now pairs (map (event_here point) ms)

-- The pairs of an event with each of these mishaps at the call.
abbrev pub pairs_here : BranchPoint → Event → List Mishap → List Tried
pairs_here point first ms = map (Two first) (map (event_here point) ms)

-- What more can go wrong at the call, where this does.
abbrev pub beside_here : BranchPoint → Mishap → List Mishap
beside_here point m =
    let run = point.run.now in
    let due = point.due.now in
    beside (handover_for run.state.now run.target.now) due.by due.call (waiting due.call (listed run.heir)) m
    (after_exits (with_mishap m quiet).exits run.kernel.table)

-- The pairs of an event at the call with what more can go wrong there.
abbrev pub pairs_beside : BranchPoint → Event → List Tried
pairs_beside point first = pairs_here point first (beside_here point first.mishap)

---- How they are counted

-- These runs of the target are counted, after those that were.
abbrev pub AreCounted : Position → List Tried → Tally → Tally → Type 0
AreCounted run runs before after = after ≡ with_runs run.state.now run.target.now (turns_of run.course) run.first.now.table runs before

abbrev pub AreCountedHere : BranchPoint → List Tried → Tally → Tally → Type 0
AreCountedHere point runs before after = AreCounted point.run.now runs before after

-- The runs with each of these mishaps at the call are.
abbrev pub AreAllCounted : BranchPoint → Bool → List Mishap → Tally → Tally → Type 0
AreAllCounted point pairs ms before after = AreCountedHere point (runs_with_all point pairs ms) before after
