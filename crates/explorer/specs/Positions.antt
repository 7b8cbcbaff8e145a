-- Runs on their way.
use Rattle.std.specs.Prelude.{ℕ, ◌≡◌, ◌≤◌, ◌<◌, ◌+◌, ◌^◌, ◌++◌, ◌∷◌, List, map, Option, Some, None}
use Rattle.vocabulary.specs.declared.names.Name.{Name}
use Rattle.vocabulary.specs.declared.plans.PidNote.{PidNote}
use Rattle.vocabulary.specs.declared.targets.Target.{Target}
use Rattle.handover_text.specs.Reading.{handed_by}
use Rattle.definitions.specs.Table.{Table}
use Rattle.definitions.specs.Master.{Record, sides_of, handover_for}
use Rattle.definitions.specs.Calls.{after_exits, step_with, Handed}
use Rattle.plan_walk.specs.Path.{rest_after}
use Rattle.call_laws.specs.Pieces.{branch, quiet, ends_at, answered, noted}
use Rattle.definitions.specs.Run.{Tree, Ends, Does, reply_of, Moment, Pattern, Progress, start_at, Ran, Lost, run_with}
use Rattle.definitions.specs.Run.{after_moment, after_call}
use Rattle.definitions.specs.Plans.{Turn}
use Rattle.definitions.specs.Claims.{run_of, heirs_of}
use Rattle.kernel_pattern.specs.Pattern.{with_exit}
use Rattle.plan_walk.specs.Fit.{height_next}
use Rattle.plan_walk.specs.Course.{turns_of, trail_on, sides_on}
use Rattle.plan_walk.specs.declared.walk.Due.{Due}
use Rattle.plan_executor.specs.Lawful.{trail_at}
use Rattle.plan_executor.specs.Naming.{listed}
use Rattle.explorer.specs.declared.events.Event.{Event}
use Rattle.explorer.specs.declared.events.Tried.TheVariants.{Nothing}
use Rattle.explorer.specs.declared.position.Position.{Position}
use Rattle.explorer.specs.Explored.{events_after}
use Rattle.explorer.specs.Events.{pattern_of, open_at, event_at, met, waiting}

-- The run of what is left of a plan, under a pattern, from here.
abbrev pub rest_run : Handed → Option Tree → Pattern → Progress → Ran
rest_run handed None pattern p = ends_at Lost p
rest_run handed (Some tree) pattern p = run_with handed tree pattern p

-- The second pattern is the first one up to the n-th call.
abbrev pub IsSameUpTo : ℕ → Pattern → Pattern → Type 0
IsSameUpTo n p q = (m : ℕ) → m ≤ n → q m ≡ p m

-- Nothing goes wrong behind the n-th call.
abbrev pub IsQuietFrom : ℕ → Pattern → Type 0
IsQuietFrom n p = (m : ℕ) → n < m → p m ≡ quiet

pub record EndsAlike (a b : Ran) : Type 0 where
  pub ending : a.ending ≡ b.ending
  pub last : a.last ≡ b.last

-- After n calls of a target's run, by these turns and under a pattern, this is left of its plan, these have yet to take over, and so far has it come:
-- each run that is the same so far goes on from here, and meets the same events.
pub record HasCome (r : Record) (target : Target) (turns : List Turn) (t : Table) (pattern : Pattern) (n : ℕ)
    (rest : Option Tree) (heirs : List ℕ) (p : Progress) : Type 0 where
  pub calls : p.calls ≡ n
  pub ends : (q : Pattern) → IsSameUpTo n pattern q → EndsAlike (run_of r target turns q t) (rest_run (handover_for r target) rest q p)
  pub meets : (q : Pattern) (e : Event) → IsSameUpTo n pattern q → n < e.number →
      met (handover_for r target) (Some e) q (heirs_of r target) 0 t (run_of r target turns q t).entries
      ≡ met (handover_for r target) (Some e) q heirs n p.table (rest_run (handover_for r target) rest q p).entries
  pub passes : (q : Pattern) → IsSameUpTo n pattern q →
      (before : List Progress) × ((run_of r target turns q t).passed ≡ before ++ (rest_run (handover_for r target) rest q p).passed)

-- There is room for all calls that can be left.
pub record IsFit (run : Position) : Type 0 where
  pub room : height_next (trail_on run.course).rest ≤ run.kernel.room
  pub countable : run.made + run.kernel.room < 2 ^ 32

-- The run has come so far.
pub record IsAt (run : Position) (p : Progress) : Type 0 where
  pub trail : trail_at (trail_on run.course).rest p ≡ trail_on run.course
  pub table : p.table ≡ run.kernel.table
  pub handed : handed_by run.text.now ≡ handover_for run.state.now run.target.now
  pub sides : sides_on run.course ≡ sides_of run.state.now run.target.now
  pub come : HasCome run.state.now run.target.now (turns_of run.course) run.first.now.table
      (pattern_of run.tried) run.made (trail_on run.course).rest (listed run.heir) p

-- The events that are left for it to meet, behind an event where there is one.
abbrev pub left : Position → Progress → Option Event → List Event
left run p last =
    let handed = handover_for run.state.now run.target.now in
    met handed last (pattern_of run.tried) (listed run.heir) run.made run.kernel.table
    (rest_run handed (trail_on run.course).rest (pattern_of run.tried) p).entries

---- One call more

abbrev pub onward : Option (Option PidNote × Tree) → Progress → Progress
onward None p = p
onward (Some edge) p = noted edge.0 p

-- how far it has come after the call that is due, in this moment
abbrev pub moved : Handed → Option Tree → Moment → Progress → Progress
moved handed None moment p = p
moved handed (Some (Ends end)) moment p = p
moved handed (Some (Does by order set branches)) moment p =
    let middle = after_moment moment.exits p in
    let s = answered handed by order moment.fate middle in
    onward (branch branches (reply_of set s.answer)) (after_call by order set s middle)

-- what is left of the plan then
abbrev pub rest_moved : Handed → Option Tree → Moment → Progress → Option Tree
rest_moved handed None moment p = None
rest_moved handed (Some (Ends end)) moment p = None
rest_moved handed (Some (Does by order set branches)) moment p =
    rest_after (branch branches (reply_of set (answered handed by order moment.fate (after_moment moment.exits p)).answer))

abbrev pub after_due : Position → Moment → Progress → Progress
after_due run moment p = moved (handover_for run.state.now run.target.now) (trail_on run.course).rest moment p

-- what can go wrong at the call that is due, in this moment
abbrev pub open_now : Position → Due → Moment → Option Event → List Event
open_now run due moment last =
    map (event_at (run.made + 1))
    (open_at (handover_for run.state.now run.target.now) due.by due.call (waiting due.call (listed run.heir)) last
    (run.made + 1) (after_exits moment.exits run.kernel.table))

-- The same run, after the call that was due, in this moment.
pub record IsLater (before : Position) (due : Due) (moment : Moment) (after : Position) : Type 0 where
  pub first : after.first.now ≡ before.first.now
  pub state : after.state.now ≡ before.state.now
  pub target : after.target.now ≡ before.target.now
  pub turns : turns_of after.course ≡ turns_of before.course
  pub tried : after.tried ≡ before.tried
  pub made : after.made ≡ before.made + 1
  pub fit : IsFit after
  pub lower : height_next (trail_on after.course).rest + 1 ≤ height_next (trail_on before.course).rest
  pub rest : (p : Progress) → IsAt before p →
      (trail_on after.course).rest
      ≡ rest_moved (handover_for before.state.now before.target.now) (trail_on before.course).rest moment p
  pub at : (p : Progress) → IsAt before p → IsAt after (after_due before moment p)
  pub left : (p : Progress) (last : Option Event) → IsAt before p →
      left before p last ≡ open_now before due moment last ++ left after (after_due before moment p) last
  pub table : after.kernel.table
      ≡ (step_with (handed_by before.text.now) due.by due.call moment.fate (after_exits moment.exits before.kernel.table)).table
  pub passes : (p : Progress) (q : Pattern) → IsAt before p → q (before.made + 1) ≡ moment →
      (rest_run (handover_for before.state.now before.target.now) (trail_on before.course).rest q p).passed
      ≡ p ∷ after_moment moment.exits p
      ∷ (rest_run (handover_for before.state.now before.target.now) (trail_on after.course).rest q (after_due before moment p)).passed

---- Beginnings

-- the run of this target by these turns, from this table
pub record IsOf (t : Table) (r : Record) (to : Target) (given : List Turn) (run : Position) : Type 0 where
  pub first : run.first.now.table ≡ t
  pub state : run.state.now ≡ r
  pub target : run.target.now ≡ to
  pub turns : turns_of run.course ≡ given

pub record IsStartOf (t : Table) (r : Record) (target : Target) (turns : List Turn) (run : Position) : Type 0 where
  pub fit : IsFit run
  pub at : IsAt run (start_at t r.note)
  pub of : IsOf t r target turns run
  pub tried : run.tried ≡ Nothing
  pub meets : left run (start_at t r.note) None ≡ events_after r target turns t Nothing
  pub whole : (q : Pattern) →
      (run_of r target turns q t).passed ≡ (rest_run (handover_for r target) (trail_on run.course).rest q (start_at t r.note)).passed

-- The process that exits at a call already, where there is one.
abbrev pub moment_of : Option Name → Moment
moment_of None = quiet
moment_of (Some name) = with_exit name quiet
