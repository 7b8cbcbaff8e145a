-- Which tables the runs pass, and what is found in them.
use Rattle.std.specs.Prelude.{ℕ, ◌≡◌, ◌≤◌, ◌+◌, Bool, true, List, [], ◌∷◌, Option, Some, Contains, IsTrue, ◌⊎◌}
use Rattle.std.specs.List.{AllByRecursion}
use Rattle.vocabulary.specs.declared.targets.Target.{Target}
use Rattle.definitions.specs.Table.{Address, Table}
use Rattle.definitions.specs.Calls.{Call, Name}
use Rattle.definitions.specs.Master.{Record, handover_for}
use Rattle.definitions.specs.Plans.{Turn}
use Rattle.definitions.specs.Run.{Progress, Pattern, after_moment}
use Rattle.definitions.specs.Claims.{run_of}
use Rattle.plan_walk.specs.Course.{turns_of, trail_on}
use Rattle.explorer.specs.declared.branching.BranchPoint.{BranchPoint}
use Rattle.explorer.specs.declared.events.Mishap.TheVariants.{Exit}
use Rattle.explorer.specs.declared.events.Tried.{Tried}
use Rattle.explorer.specs.declared.events.Tried.TheVariants.{One}
use Rattle.explorer.specs.declared.exploring.Search.{Search}
use Rattle.explorer.specs.declared.findings.Findings.{Findings}
use Rattle.explorer.specs.declared.findings.Least.{Least}
use Rattle.explorer.specs.declared.findings.Most.{Most}
use Rattle.explorer.specs.declared.known.Known.{Known}
use Rattle.explorer.specs.declared.position.Position.{Position}
use Rattle.explorer.specs.Events.{pattern_of, event_at}
use Rattle.explorer.specs.Explored.{all_tried}
use Rattle.explorer.specs.Positions.{rest_run, IsSameUpTo, moment_of}
use Rattle.explorer.specs.Known.{passes_by}
use Rattle.explorer.specs.Readiness.{ready_at, is_common}
use Rattle.explorer.specs.Least.{bound_of}
use Rattle.explorer.specs.Most.{living_in, IsAtMost}
use Rattle.explorer.specs.Looking.{IsSeenIn}

-- What is explored: the runs of a target by these turns, from a table and what its master knows of itself.
pub record Subject : Type 0 where
  pub state : Record
  pub target : Target
  pub turns : List Turn
  pub table : Table

-- how far the run in which this goes wrong has come at each table that it passes, those between exits and their call too
abbrev pub passed_under : Subject → Tried → List Progress
passed_under s tried = (run_of s.state s.target s.turns (pattern_of tried) s.table).passed

---- The fewest ready workers, and the most that live, of all tables of all runs

-- So many ready workers has an address of both services in a table of the run that is named, after so many calls.
pub record IsPlaceOfLeast (s : Subject) (least : Least) : Type 0 where
  pub passed : Progress
  pub there : Contains (passed_under s least.tried) passed
  pub calls : least.made ≡ passed.calls
  pub common : IsTrue (is_common s.table s.state s.target least.address)
  pub ready : least.ready ≡ ready_at passed.table least.address

-- So many workers live in a table of the run that is named, after so many calls.
pub record IsPlaceOfMost (s : Subject) (most : Most) : Type 0 where
  pub passed : Progress
  pub there : Contains (passed_under s most.tried) passed
  pub calls : most.made ≡ passed.calls
  pub workers : most.workers ≡ living_in passed.table

-- In each table of each run each address of both services has as many ready workers at least as were found; and what is found
-- was found before, or is so in one of them.
pub record AreFewest (s : Subject) (pairs : Bool) (before after : Findings) : Type 0 where
  pub place : (least : Least) → after.least ≡ Some least → (before.least ≡ Some least) ⊎ IsPlaceOfLeast s least
  pub fewest : AllByRecursion (λ tried. AllByRecursion (λ (p : Progress). (a : Address)
      → IsTrue (is_common s.table s.state s.target a) → bound_of after.least ≤ ready_at p.table a) (passed_under s tried))
      (all_tried s.state s.target s.turns s.table pairs)

-- In each table of each run live as many workers at most as were found; and what is found was found before, or is so in one of
-- them.
pub record AreMost (s : Subject) (pairs : Bool) (before after : Findings) : Type 0 where
  pub place : (most : Most) → after.most ≡ Some most → (before.most ≡ Some most) ⊎ IsPlaceOfMost s most
  pub most : AllByRecursion (λ tried. AllByRecursion (λ (p : Progress). IsAtMost (living_in p.table) after.most) (passed_under s tried))
      (all_tried s.state s.target s.turns s.table pairs)

---- How they are found

abbrev pub subject_of : Position → Subject
subject_of run = record { state = run.state.now; target = run.target.now; turns = turns_of run.course; table = run.first.now.table }

abbrev pub subject_in : Search → Subject
subject_in search = record { state = search.state.now; target = search.target.now; turns = search.turns.now; table = search.kernel.now.table }

abbrev pub IsSeenAt : Findings → Progress → Type 0
IsSeenAt found p = IsSeenIn found p.table

-- All tables of these runs were seen.
abbrev pub AreSeen : Subject → Findings → List Tried → Type 0
AreSeen s found runs = AllByRecursion (λ tried. AllByRecursion (IsSeenAt found) (passed_under s tried)) runs

-- What was seen stays so.
pub record IsWider (before after : Findings) : Type 0 where
  pub common : after.common ≡ before.common
  pub fewer : bound_of after.least ≤ bound_of before.least
  pub more : (n : ℕ) → IsAtMost n before.most → IsAtMost n after.most

-- So many ready workers has one of the addresses that are looked at.
pub record IsLeastAt (s : Subject) (found : Findings) (least : Least) : Type 0 where
  pub passed : Progress
  pub there : Contains (passed_under s least.tried) passed
  pub calls : least.made ≡ passed.calls
  pub address : Contains found.common.items least.address
  pub ready : least.ready ≡ ready_at passed.table least.address

-- More tables of the subject's runs were looked at.
pub record IsOnward (s : Subject) (before after : Findings) : Type 0 where
  pub wider : IsWider before after
  pub least : (least : Least) → after.least ≡ Some least → (before.least ≡ Some least) ⊎ IsLeastAt s after least
  pub most : (most : Most) → after.most ≡ Some most → (before.most ≡ Some most) ⊎ IsPlaceOfMost s most

-- Each table up to here was seen: once those that are left are, all of the run are.
abbrev pub HasSeen : Position → Progress → Findings → Type 0
HasSeen run p found =
    (later : Findings) → IsWider found later → (q : Pattern) → IsSameUpTo run.made (pattern_of run.tried) q →
    AllByRecursion (IsSeenAt later) (rest_run (handover_for run.state.now run.target.now) (trail_on run.course).rest q p).passed →
    AllByRecursion (IsSeenAt later) (run_of run.state.now run.target.now (turns_of run.course) q run.first.now.table).passed

-- From here on the tables of these runs were looked at.
pub record AreSearched (run : Position) (p : Progress) (runs : List Tried) (before after : Findings) : Type 0 where
  pub onward : IsOnward (subject_of run) before after
  pub seen : HasSeen run p before → AreSeen (subject_of run) after runs

-- The same of runs that branch off here, behind the exit of a process where one is given.
pub record AreSearchedBehind (run : Position) (p : Progress) (gone : Option Name) (runs : List Tried) (before after : Findings) : Type 0 where
  pub onward : IsOnward (subject_of run) before after
  pub seen : HasSeen run p before → IsSeenAt before p → IsSeenAt before (after_moment (moment_of gone).exits p) →
      AreSeen (subject_of run) after runs

-- The same behind a first event, all of whose run was seen.
pub record AreSearchedBeside (run : Position) (p : Progress) (first : Tried) (runs : List Tried) (before after : Findings) : Type 0 where
  pub onward : IsOnward (subject_of run) before after
  pub seen : HasSeen run p before → IsSeenAt before p → AreSeen (subject_of run) before (first ∷ []) →
      AreSeen (subject_of run) after runs

-- The tables of a run that is known were seen.
abbrev pub IsSeenKnown : Subject → Findings → ℕ → Known → Type 0
IsSeenKnown s found n k = AreSeen s found (One (event_at n (Exit k.name k.process)) ∷ [])

abbrev pub AreSeenKnown : BranchPoint → Findings → Type 0
AreSeenKnown point found = AllByRecursion (IsSeenKnown (subject_of point.run.now) found (point.run.now.made + 1)) point.known.now

-- The tables of these runs were looked at, but of those that are known.
pub record AreSearchedHere (point : BranchPoint) (p : Progress) (runs : List Tried) (before after : Findings) : Type 0 where
  pub onward : IsOnward (subject_of point.run.now) before after
  pub seen : HasSeen point.run.now p before → IsSeenAt before p → AreSeenKnown point before → AreSeen (subject_of point.run.now) after runs

-- It is seen of a run in which the worker exits before the next call, and the call passes it by.
abbrev pub IsSeenPassed : Position → Call → Findings → Known → Type 0
IsSeenPassed run call found k = (passes_by call k.name ≡ true) × IsSeenKnown (subject_of run) found (run.made + 1) k

-- Of what is known at the next call, the same.
abbrev pub ArePassedSeen : BranchPoint → Progress → Findings → Findings → List Known → Type 0
ArePassedSeen point p before after next =
    HasSeen point.run.now p before → IsSeenAt before p → AreSeenKnown point before →
    AllByRecursion (IsSeenPassed point.run.now point.due.now.call after) next
