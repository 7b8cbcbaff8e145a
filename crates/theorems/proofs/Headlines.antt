-- What is shown of each target; together they are the headline.
use Rattle.std.specs.Prelude.{ℕ, Bool, List}
use Rattle.vocabulary.specs.Settings.{Settings}
use Rattle.std.specs.List.{AllByRecursion}
use Rattle.definitions.specs.Table.{Table, service}
use Rattle.definitions.specs.Master.{Record, Target, Workers, Mend, Reopen, Reload, Upgrade, Attended, Stop, want}
use Rattle.definitions.specs.Master.{sides_of}
use Rattle.definitions.specs.Plans.{Turn}
use Rattle.definitions.specs.Run.{Pattern, Ran, report_of}
use Rattle.definitions.specs.Claims.{IsAccepted, Says, IsSucceeded, Kept, IsBlamed, HasCause, IsPaid, HasFloor, Manner, run_of}

-- What is promised of a run, but for the floor and the manner.
pub record EndsAsReported (t : Table) (r : Record) (target : Target) (ran : Ran) : Type 0 where
  pub says : Says r target (report_of (sides_of r target) ran).outcome t ran.last.table
  pub after : IsSucceeded r target t ran
  pub kept : AllByRecursion (λ p. Kept (service t) (want r target) t p.table) ran.passed
  pub blamed : AllByRecursion IsBlamed ran.passed
  pub cause : HasCause (report_of (sides_of r target) ran).outcome ran.last.cause
  pub paid : IsPaid r.retries (report_of (sides_of r target) ran).outcome ran.last

-- Each headline: whatever fails and whoever exits but an executing master, the target's plan ends as it reports.
abbrev pub WorkersHeadline : Type 0
WorkersHeadline =
    (t : Table) (r : Record) (n : ℕ) (turns : List Turn) (pattern : Pattern) → IsAccepted t r (Workers n) turns pattern →
    EndsAsReported t r (Workers n) (run_of r (Workers n) turns pattern t) × HasFloor t r (Workers n) (run_of r (Workers n) turns pattern t)

abbrev pub MendHeadline : Type 0
MendHeadline =
    (t : Table) (r : Record) (overdue : List ℕ) (turns : List Turn) (pattern : Pattern) → IsAccepted t r (Mend overdue) turns pattern →
    EndsAsReported t r (Mend overdue) (run_of r (Mend overdue) turns pattern t)

abbrev pub ReopenHeadline : Type 0
ReopenHeadline =
    (t : Table) (r : Record) (turns : List Turn) (pattern : Pattern) → IsAccepted t r Reopen turns pattern →
    EndsAsReported t r Reopen (run_of r Reopen turns pattern t)

-- And keeps the floor: it touches no worker, and starts what is lacking.
abbrev pub ReopenFloor : Type 0
ReopenFloor =
    (t : Table) (r : Record) (turns : List Turn) (pattern : Pattern) → IsAccepted t r Reopen turns pattern →
    HasFloor t r Reopen (run_of r Reopen turns pattern t)

abbrev pub ReloadHeadline : Type 0
ReloadHeadline =
    (t : Table) (r : Record) (s : Settings) (turns : List Turn) (pattern : Pattern) → IsAccepted t r (Reload s) turns pattern →
    EndsAsReported t r (Reload s) (run_of r (Reload s) turns pattern t) × HasFloor t r (Reload s) (run_of r (Reload s) turns pattern t)

abbrev pub StopHeadline : Type 0
StopHeadline =
    (t : Table) (r : Record) (quick : Bool) (turns : List Turn) (pattern : Pattern) →
    IsAccepted t r (Stop quick) turns pattern → EndsAsReported t r (Stop quick) (run_of r (Stop quick) turns pattern t)

abbrev pub UpgradeHeadline : Type 0
UpgradeHeadline =
    (t : Table) (r : Record) (s : Settings) (turns : List Turn) (pattern : Pattern) → IsAccepted t r (Upgrade s) turns pattern →
    EndsAsReported t r (Upgrade s) (run_of r (Upgrade s) turns pattern t) × HasFloor t r (Upgrade s) (run_of r (Upgrade s) turns pattern t)

abbrev pub AttendedHeadline : Type 0
AttendedHeadline =
    (t : Table) (r : Record) (s : Settings) (turns : List Turn) (pattern : Pattern) → IsAccepted t r (Attended s) turns pattern →
    EndsAsReported t r (Attended s) (run_of r (Attended s) turns pattern t) × HasFloor t r (Attended s) (run_of r (Attended s) turns pattern t)

-- And its run has the target's manner.
abbrev pub InManner : Target → Type 0
InManner target =
    (t : Table) (r : Record) (turns : List Turn) (pattern : Pattern) → IsAccepted t r target turns pattern →
    Manner r target (report_of (sides_of r target) (run_of r target turns pattern t)).outcome t (run_of r target turns pattern t)
