-- What the record that a report leaves has of the one before and of its target.
use Rattle.vocabulary.specs as vocabulary
use Rattle.std.specs.Prelude.{◌≡◌}
use vocabulary.Words.{ℕ, Some, Settings}
use vocabulary.declared.plans.Side.TheVariants as side
use vocabulary.declared.reports.Outcome.TheVariants as outcome
use vocabulary.declared.reports.Outcome.{Outcome}
use vocabulary.declared.reports.Report.{Report}
use Rattle.definitions.specs.Master.{Record, Target, Workers, Mend, Reopen, Reload, Upgrade, Attended, Stop}
use Rattle.definitions.specs.Master.{generation_wanted}
use Rattle.definitions.specs.After.{record_after}

-- how many workers a target has the master want, how often it retries, and how long it waits for a beat
pub record Wants : Type 0 where
  pub workers : ℕ
  pub retries : ℕ
  pub timeout : ℕ

abbrev pub wants_now : Record → Wants
wants_now r = record { workers = r.wanted; retries = r.retries; timeout = r.timeout }

abbrev pub wants_of : Settings → Wants
wants_of s = record { workers = s.workers; retries = s.retries; timeout = s.timeout }

abbrev pub wants_then : Record → Target → Wants
wants_then r (Workers n) = record { workers = n; retries = r.retries; timeout = r.timeout }
wants_then r (Mend overdue) = wants_now r
wants_then r Reopen = wants_now r
wants_then r (Reload s) = wants_of s
wants_then r (Upgrade s) = wants_of s
wants_then r (Attended s) = wants_of s
wants_then r (Stop quick) = wants_now r

-- of the side that an outcome names
abbrev pub told : {X : Type 0} → Outcome → X → X → X
told outcome.Done old target = target
told outcome.RolledBack old target = old
told (outcome.Degraded side.Old shortfalls) old target = old
told (outcome.Degraded side.Target shortfalls) old target = target
told outcome.Lost old target = old

pub record IsLeft (r : Record) (target : Target) (report : Report) (pid : ℕ) (left : Record) : Type 0 where
  pub wants : wants_now left ≡ told report.outcome (wants_now r) (wants_then r target)
  pub generation : left.generation ≡ told report.outcome r.generation (generation_wanted r target)
  pub pid_path : left.pid_path ≡ r.pid_path
  pub ready : left.ready ≡ report.ready
  pub note : left.note ≡ report.note
  pub pid_is : left.pid ≡ pid

abbrev pub RecordsAreLeft : Type 0
RecordsAreLeft =
    (r : Record) (target : Target) (report : Report) (pid : ℕ) (left : Record) →
    record_after r target report pid ≡ Some left → IsLeft r target report pid left
