-- Runs that are known from the call before.
use Rattle.std.specs.Prelude.{ℕ, ◌≡◌, ◌+◌, Bool, true, false, not}
use Rattle.listener_set.specs.declared.generation.Generation.{Generation}
use Rattle.definitions.specs.Table.{bears}
use Rattle.definitions.specs.Calls.{Name, Call, Fork, AwaitReady, Quit, Kill, AwaitGone, Usr1}
use Rattle.vocabulary.specs.declared.names.Name.TheVariants as name
use Rattle.plan_walk.specs.Course.{turns_of}
use Rattle.explorer.specs.declared.events.Mishap.TheVariants.{Exit}
use Rattle.explorer.specs.declared.events.Tried.TheVariants.{One}
use Rattle.explorer.specs.declared.known.Known.{Known}
use Rattle.explorer.specs.declared.position.Position.{Position}
use Rattle.explorer.specs.Events.{event_at}
use Rattle.explorer.specs.Explored.{report_under}

-- the call is of a worker by its name
abbrev pub names_worker : Call → (Generation → ℕ → Bool) → Bool
names_worker (Fork g k fds) test = test g k
names_worker (AwaitReady g k) test = test g k
names_worker (Quit g k) test = test g k
names_worker (Kill g k) test = test g k
names_worker (AwaitGone g k) test = test g k
names_worker (Usr1 g k) test = test g k
names_worker _ test = false

-- A call of a worker by its name, and another than this: whether that one exits before it or behind it makes no difference.
abbrev pub passes_by : Call → Name → Bool
passes_by call (name.Worker g k) = names_worker call (λ h j. not (bears g k h j))
passes_by call (name.Draining g k) = false
passes_by call (name.Master i) = false

-- What is known is the report of the run in which the process exits before the n-th call.
abbrev pub IsKnownAt : Position → ℕ → Known → Type 0
IsKnownAt run n k =
    k.rest.report ≡ report_under run.state.now run.target.now (turns_of run.course) run.first.now.table
    (One (event_at n (Exit k.name k.process)))

-- It is known of a run in which the worker exits before the next call, and the call passes it by.
abbrev pub IsPassed : Position → Call → Known → Type 0
IsPassed run call k = (passes_by call k.name ≡ true) × IsKnownAt run (run.made + 1) k
