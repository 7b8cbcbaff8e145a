-- Tables and runs that break a claim, one for each.
use Rattle.std.specs.Prelude.{ℕ, true, List, [], ◌∷◌, ◌++◌, Option, Some, None}
use Rattle.listener_set.specs.Numbers.{is_in}
use Rattle.vocabulary.specs.declared.table.Stance.TheVariants.{Starting, Ready}
use Rattle.vocabulary.specs.declared.calls.Call.TheVariants.{Kill, RemovePid, Leave, Census, Adopt}
use Rattle.vocabulary.specs.declared.calls.Answer.TheVariants as answer
use Rattle.vocabulary.specs.declared.plans.End.TheVariants as end
use Rattle.vocabulary.specs.declared.plans.PidNote.TheVariants.{InPlace, Left, NoFile}
use Rattle.vocabulary.specs.declared.plans.Side.TheVariants as side
use Rattle.vocabulary.specs.declared.reports.Entry.{Entry}
use Rattle.vocabulary.specs.declared.reports.Outcome.TheVariants.{Done, RolledBack, Degraded, Lost}
use Rattle.vocabulary.specs.declared.targets.Target.TheVariants.{Workers, Reload, Stop}
use Rattle.definitions.specs.Table.{Master, Worker, Table, Caller, IsFormed, service}
use Rattle.call_laws.specs.Aside.{LeavesAlone}
use Rattle.definitions.specs.Run.{Tree, Ends, faults_since, Progress, Ran, At, start_at}
use Rattle.definitions.specs.Plans.{Turn, Old, weave, joined, tries, old_part}
use Rattle.theorems.specs.Apart.{WalksAll}
use Rattle.definitions.specs.Master.{layout_in, Agrees, FilesAre, crew_of, layout_of, want}
use Rattle.theorems.specs.Settling.{IsSettled, HasSide}
use Rattle.definitions.specs.Claims.{Stays, Goes, KillsOnlyLate, LeavesLast, Says, Kept, Floor, IsBlamed, HasCause}
use Rattle.definitions.specs.Claims.{IsPaid, StopNote, IsSucceeded}
use Rattle.theorems.specs.GroupRuns.{both_holds, first_hold, grouped, grouped_with, three_workers, three_ready, two_groups}
use Rattle.theorems.specs.Layouts.{IsSameLayout}
use Rattle.theorems.specs.Examples.{first, port, other_port, pid_file, holds, two_workers, two_without_file, two_ready}
use Rattle.theorems.specs.Examples.{table_with, pid_files, own_rows, two_masters, m1, m2}

---- Tables

abbrev pub one_left : Table
one_left = table_with (Master 100 1 1 true holds ∷ Worker 101 100 first 0 Ready holds ∷ []) pid_files 65535

abbrev pub none_left : Table
none_left = table_with (Master 100 1 1 true holds ∷ []) pid_files 65535

abbrev pub one_starts : Table
one_starts = table_with (own_rows ++ Worker 103 100 first 2 Starting holds ∷ []) pid_files 65535

-- an address more than there was
abbrev pub left_open : Table
left_open =
    table_with
    (Master 100 1 1 true (record { fd = 3; socket = 1; address = port } ∷ record { fd = 4; socket = 2; address = other_port } ∷ []) ∷ [])
    pid_files 65535

-- the address on another socket
abbrev pub opened_anew : Table
opened_anew = table_with (Master 100 1 1 true (record { fd = 3; socket = 2; address = port } ∷ []) ∷ []) pid_files 65535

-- a worker is Ready whose parent is no live master
abbrev pub orphaned : Table
orphaned = record {
  rows = own_rows ++ Worker 103 77 first 0 Ready holds ∷ [];
  files = pid_files;
  next_process = 104;
  next_socket = 2;
  limits = record { processes = 65535; descriptors = 64 };
}

-- the other group's worker is gone
abbrev pub other_unserved : Table
other_unserved = record {
  rows = Master 100 1 1 true both_holds ∷ Worker 101 100 first 0 Ready (first_hold ∷ []) ∷ Worker 102 100 first 1 Ready (first_hold ∷ []) ∷ [];
  files = pid_files;
  next_process = 104;
  next_socket = 3;
  limits = record { processes = 65535; descriptors = 64 };
}

-- of the old master's workers one is gone, beside the new master
abbrev pub one_taken : Table
one_taken = record two_masters { rows = Master 100 1 1 true holds ∷ Worker 101 100 first 0 Ready holds ∷ Master 103 100 2 true holds ∷ [] }

abbrev pub heir : Caller
heir = record { number = 103; holds = holds }

---- Two parts of a step each

abbrev pub both_steps : List Turn → Tree
both_steps turns =
    weave (joined (Ends end.Done) (Ends end.RolledBack)) (tries 2 Adopt [] (Ends end.JoinReady) (Ends end.JoinBack))
    turns (old_part 1 (crew_of (two_ready 3)) (0 ∷ 1 ∷ []) 0)

-- the old master comes first
abbrev pub old_first : List Entry
old_first = m1 (Census first) (answer.Counted (0 ∷ 1 ∷ [])) ∷ m2 Adopt answer.Adopted ∷ []

abbrev pub WalkUnder : List Turn → Type 0
WalkUnder turns = WalksAll (both_steps turns) [] old_first (Ends end.Done)

---- Runs

abbrev pub progress : Table → ℕ → ℕ → Option ℕ → Progress
progress t faults losses cause = record {
  table = t;
  calls = 1;
  ready = [];
  lacked = [];
  faults = faults;
  losses = losses;
  returns = [];
  cause = cause;
  note = InPlace;
}

-- The operator went back at a question, after a number of faults.
abbrev pub went_back : Progress → ℕ → ℕ → Progress
went_back p question faults = record p { returns = (record { question = question; faults = faults }) ∷ [] }

abbrev pub FloorThen : Progress → Type 0
FloorThen p = Floor (λ q. faults_since 2 q.returns q.faults) two_workers (two_ready 3) (Workers 2) p

-- of one call, from one table to another
abbrev pub ran_from : Table → Entry → Table → Ran
ran_from t e t' = record {
  entries = e ∷ [];
  passed = start_at t InPlace ∷ start_at t InPlace ∷ start_at t' InPlace ∷ [];
  ending = At end.Done;
  last = start_at t' InPlace;
}

-- the last count lacked one
abbrev pub lacks_one : Table → ℕ → Progress
lacks_one t faults = record {
  table = t;
  calls = 1;
  ready = [];
  lacked = record { by = 1; numbers = 1 ∷ [] } ∷ [];
  faults = faults;
  losses = 0;
  returns = [];
  cause = Some 1;
  note = InPlace;
}

abbrev pub Refuted : Type 0 → Type 0
Refuted claim = claim → ⊥

pub record WrongTables : Type 0 where
  -- Two workers where three are wanted.
  pub done : Refuted (Says (two_ready 3) (Workers 3) Done two_workers two_workers)
  -- An address was left open.
  pub rolled_back : Refuted (Says (two_ready 3) (Workers 3) RolledBack none_left left_open)
  -- Two are lacking, and one is named.
  pub degraded : Refuted (Says (two_ready 3) (Workers 3) (Degraded side.Old (1 ∷ [])) two_workers none_left)
  pub lost : Refuted (Says (two_ready 3) (Workers 3) Lost two_workers two_workers)
  -- An address that both services name was closed and opened anew.
  pub kept : Refuted (Kept (service two_workers) (want (two_ready 3) (Workers 2)) two_workers opened_anew)
  -- The old workers went before new ones were ready.
  pub floor :
      Refuted
      (Floor (λ q. 0) two_workers (two_ready 3) (Workers 2) (progress one_left 0 0 None))
  -- The operator went back at the second question, and the new master ended before the old workers were started again. A fault
  -- before that question does not count, and none counts where the operator went back at the first.
  pub ended_first : Refuted (FloorThen (went_back (progress none_left 0 0 (Some 15)) 2 0))
  pub faults_before : Refuted (FloorThen (went_back (progress one_left 1 0 (Some 9)) 2 1))
  pub first_question : Refuted (FloorThen (went_back (progress one_left 1 0 (Some 10)) 1 0))
  -- A call of the new master took one of the old one's workers away, or a file; or it was gone, and the table is another.
  pub aside : Refuted (LeavesAlone 2 (Some heir) two_masters one_taken)
  pub aside_files : Refuted (LeavesAlone 2 (Some heir) two_masters (record two_masters { files = [] }))
  pub aside_gone : Refuted (LeavesAlone 2 None two_masters one_taken)
  -- The old master made the first call, which is a walk where it was its turn, and none where it was not.
  pub turn_ignored : WalkUnder (Old ∷ []) × Refuted (WalkUnder [])
  -- A worker is left Starting.
  pub agrees : Refuted (Agrees one_starts (two_ready 3))
  -- A worker is Ready that no master has, which the record does not see.
  pub orphan : Agrees orphaned (two_ready 3) × Refuted (IsFormed orphaned)
  -- The note says that the file is in its place.
  pub files : Refuted (FilesAre InPlace (Some pid_file) 100 [])
  pub stop_note : Refuted (StopNote NoFile (Some pid_file) two_workers (ran_from two_workers (m1 Leave answer.Fine) two_workers))
  -- The removal failed, and yet the file is gone.
  pub file_gone : Refuted (StopNote Left (Some pid_file) two_workers (ran_from two_workers (m1 (RemovePid pid_file) answer.IoFault) two_without_file))
  -- After a stop the master is still there.
  pub stopped : Refuted (IsSucceeded (two_ready 3) (Stop true) two_workers (ran_from two_workers (m1 (Kill first 1) answer.Fine) none_left))
  -- A fault without a cause, and a cause without a fault or a loss.
  pub blamed : Refuted (IsBlamed (progress two_workers 1 0 None))
  pub blamed_falsely : Refuted (IsBlamed (progress two_workers 0 0 (Some 1)))
  pub cause : Refuted (HasCause RolledBack None)
  -- It gave up at its first failure, with three retries.
  pub paid : Refuted (IsPaid 3 (Degraded side.Old (1 ∷ [])) (progress one_left 1 0 (Some 1)))
  -- A worker went that was no loss.
  pub stays : Refuted (Stays two_workers (λ k. true) (ran_from two_workers (m1 (Kill first 1) answer.Fine) one_left))
  -- An overdue worker is still there.
  pub goes : Refuted (Goes two_workers (is_in (0 ∷ [])) (ran_from two_workers (m1 (Kill first 1) answer.Fine) one_left))
  -- A worker was killed that was never told to quit.
  pub kills : Refuted (KillsOnlyLate two_workers (ran_from two_workers (m1 (Kill first 1) answer.Fine) one_left))
  -- A master left without waiting for its workers.
  pub leaves : Refuted (LeavesLast (two_ready 3) (ran_from two_workers (m1 Leave answer.Fine) none_left))
  -- A settle said full while a worker was missing; said short by one while two were; gave up at its first failure.
  pub settled : Refuted (IsSettled side.Target 3 100 first (0 ∷ 1 ∷ []) (start_at two_workers InPlace) (At end.Done) (progress one_left 0 1 None))
  pub settled_by_count : Refuted (IsSettled side.Target 0 100 first (0 ∷ 1 ∷ []) (start_at two_workers InPlace) (At end.ShortTarget) (lacks_one none_left 2))
  pub settled_early : Refuted (IsSettled side.Target 3 100 first (0 ∷ 1 ∷ []) (start_at two_workers InPlace) (At end.ShortTarget) (lacks_one one_left 1))
  -- A worker is left Starting after it.
  pub side_after : Refuted (HasSide one_starts 1 100 holds (crew_of (two_ready 3)) (0 ∷ 1 ∷ 2 ∷ []))
  -- Of two groups' workers one holds all that its master holds.
  pub shares : Refuted (Agrees (grouped_with both_holds) three_ready)
  -- Two groups, and one shortfall for both.
  pub summed : Refuted (Says (two_ready 3) (Reload grouped) (Degraded side.Target (1 ∷ [])) two_workers three_workers)
  -- A worker of the other group holds the first one's address.
  pub misplaced : Refuted (Says three_ready (Workers 3) Done three_workers (grouped_with (first_hold ∷ [])))
  -- A worker of the other group is lacking, and the first one is named.
  pub named_wrongly : Refuted (Says three_ready (Workers 3) (Degraded side.Old (1 ∷ 0 ∷ [])) three_workers other_unserved)
  -- Each of two groups listens where the other should.
  pub swapped :
      Refuted
      (IsSameLayout
      (layout_of
      (record three_ready { posts = record { groups = two_groups; descriptors = (4 ∷ []) ∷ (3 ∷ []) ∷ [] } }))
      (layout_in grouped.groups grouped.listeners))
