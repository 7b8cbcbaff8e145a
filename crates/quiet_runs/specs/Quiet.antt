-- That plans work: what a target needs, and where a run ends under no event.
--
-- Our own. A promise that a plan keeps by going back each time would say little: under no event none goes back.

use Rattle.vocabulary.specs as vocabulary
use Rattle.definitions.specs as above
use Rattle.std.specs.Prelude.{◌≡◌, ◌≤◌, ◌+◌, ◌||◌, ◌∷◌}
use vocabulary.Words.{refl, ℕ, not, List, [], length, None, filter, count_by, AllByRecursion, numbers_below}
use vocabulary.Words.{is_in, has, ⊤, false}
use vocabulary.declared.reports.Outcome.TheVariants as outcome
use above.Table.{Address, Table, is_own, is_held, service, IsSame}
use above.Master.{Record, Target, Workers, Mend, Reopen, Reload, Upgrade, Attended, Stop, addresses_of}
use above.Master.{addresses_wanted}
use above.Master.{want, sides_of}
use above.Plans.{Turn, only_in}
use above.Run.{Pattern, Ran, report_of}
use above.Claims.{IsStart, Accepts, run_of}

-- No process exits, and no call is made to fail.
abbrev pub no_event : Pattern
no_event n = record { exits = []; fate = None }

---- What a target needs, and the kernel may not have

-- the addresses that a target opens
abbrev pub addresses_opened : Record → Target → List Address
addresses_opened r target = only_in (addresses_wanted r target) (addresses_of r)

-- the processes that a target starts
abbrev pub processes_started : Record → Target → ℕ
processes_started r (Workers n) = length (filter (λ k. not (is_in r.ready k)) (numbers_below n))
processes_started r (Mend overdue) =
    length (filter (λ k. not (is_in r.ready k) || is_in overdue k) (numbers_below r.wanted))
processes_started r Reopen = 0
processes_started r (Reload s) = s.workers
processes_started r (Upgrade s) = s.workers + 1
processes_started r (Attended s) = s.workers + 1
processes_started r (Stop quick) = 0

-- no address is in the list twice
abbrev pub HasNoneTwice : List Address → Type 0
HasNoneTwice [] = ⊤
HasNoneTwice (a ∷ more) = (has more a ≡ false) × HasNoneTwice more

-- There is room for the processes that the target starts and for the descriptors of the addresses that it opens, which
-- nobody holds.
pub record HasResources (t : Table) (r : Record) (target : Target) : Type 0 where
  pub processes : count_by is_own t.rows + processes_started r target ≤ t.limits.processes
  pub descriptors : length r.listeners + length (addresses_opened r target) ≤ t.limits.descriptors
  pub unheld : AllByRecursion (λ a. is_held a t.rows ≡ false) (addresses_opened r target)
  pub apart : HasNoneTwice (addresses_opened r target)

---- The claim

-- A run ends Done, no call of it went wrong, and the service is the target's.
pub record IsDone (r : Record) (target : Target) (ran : Ran) : Type 0 where
  pub outcome : (report_of (sides_of r target) ran).outcome ≡ outcome.Done
  pub cause : (report_of (sides_of r target) ran).cause ≡ None
  pub service : IsSame (service ran.last.table) (want r target)

-- THAT IT WORKS. From every start, under no event and with the resources that a target needs, each target ends Done,
-- whatever the turns are.
abbrev pub QuietIsDone : Type 0
QuietIsDone =
    (t : Table) (r : Record) (target : Target) (turns : List Turn) → IsStart t r → Accepts t r target →
    HasResources t r target → IsDone r target (run_of r target turns no_event t)

---- An example: a reopening starts no process

example : (r : Record) → processes_started r Reopen ≡ 0
example r = refl
