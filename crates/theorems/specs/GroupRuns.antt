-- Worked examples of several groups: plans that are run on a small table, call by call.
use Rattle.std.specs.Prelude.{ℕ, true, ◌≡◌, List, [], ◌∷◌, Some, None}
use Rattle.vocabulary.specs.declared.table.Stance.TheVariants.{Ready}
use Rattle.vocabulary.specs.declared.names.Name.TheVariants as name
use Rattle.vocabulary.specs.declared.calls.Call.TheVariants.{OpenAt, Fork, AwaitReady, AwaitGone, Quit, Census, SpawnMaster, Adopt, Alive, Leave}
use Rattle.vocabulary.specs.declared.calls.Answer.TheVariants as answer
use Rattle.vocabulary.specs.declared.plans.PidNote.TheVariants.{InPlace, NoFile}
use Rattle.vocabulary.specs.declared.plans.Side.TheVariants as side
use Rattle.vocabulary.specs.declared.reports.Outcome.TheVariants.{Done, Degraded}
use Rattle.vocabulary.specs.Settings.{Settings}
use Rattle.definitions.specs.Table.{Hold, Master, Worker, Table}
use Rattle.definitions.specs.Master.{Group, Record, Workers, Reload, Upgrade}
use Rattle.definitions.specs.Run.{Pattern, Ran}
use Rattle.definitions.specs.Claims.{run_of, IsStart}
use Rattle.theorems.specs.Examples.{first, second, second_image, port, other_port, pid_file, pid_files, two_workers}
use Rattle.theorems.specs.Examples.{two_ready, no_fault, exits, m1, m2, report, Gives, count_at}

---- A master with two groups

-- two workers at the first address, one at the other
abbrev pub two_groups : List Group
two_groups = (record { addresses = 1; workers = 2 }) ∷ (record { addresses = 1; workers = 1 }) ∷ []

abbrev pub grouped : Settings
grouped = record { listeners = port ∷ other_port ∷ []; workers = 3; groups = two_groups; timeout = 60; retries = 3; surge = 0; pid = Some pid_file }

abbrev pub first_hold : Hold
first_hold = record { fd = 3; socket = 1; address = port }

abbrev pub other_hold : Hold
other_hold = record { fd = 4; socket = 2; address = other_port }

abbrev pub both_holds : List Hold
both_holds = first_hold ∷ other_hold ∷ []

-- The third worker is the other group's, and holds these.
abbrev pub grouped_with : List Hold → Table
grouped_with holds = record {
  rows =
      Master 100 1 1 true both_holds ∷ Worker 101 100 first 0 Ready (first_hold ∷ [])
      ∷ Worker 102 100 first 1 Ready (first_hold ∷ []) ∷ Worker 103 100 first 2 Ready holds ∷ [];
  files = pid_files;
  next_process = 104;
  next_socket = 3;
  limits = record { processes = 65535; descriptors = 64 };
}

abbrev pub three_workers : Table
three_workers = grouped_with (other_hold ∷ [])

abbrev pub grouped_record : List ℕ → ℕ → Record
grouped_record ready wanted = record {
  listeners = (record { descriptor = 3; address = port }) ∷ (record { descriptor = 4; address = other_port }) ∷ [];
  posts = record { groups = two_groups; descriptors = (3 ∷ []) ∷ (4 ∷ []) ∷ [] };
  generation = first;
  ready = ready;
  wanted = wanted;
  retries = 3;
  timeout = 60;
  pid_path = Some pid_file;
  note = InPlace;
  pid = 100;
}

abbrev pub three_ready : Record
three_ready = grouped_record (0 ∷ 1 ∷ 2 ∷ []) 3

-- the same without a pid file
abbrev pub three_without_file : Table
three_without_file = record three_workers { files = [] }

abbrev pub three_ready_without_file : Record
three_ready_without_file = record three_ready { pid_path = None; note = NoFile }

---- Its runs

-- from one group to two
abbrev pub splits : Pattern → Ran
splits pattern = run_of (two_ready 0) (Reload grouped) [] pattern two_workers

-- The last of them exits before the last count.
abbrev pub one_lost : Pattern
one_lost = exits 11 (name.Worker second 2) no_fault

-- the same groups, by a new master
abbrev pub handed_on : Ran
handed_on = run_of three_ready_without_file (Upgrade grouped) [] no_fault three_without_file

pub record GroupRuns : Type 0 where
  -- The premises can be met.
  pub start : IsStart three_workers three_ready
  -- A reload to two groups: each worker gets its group's descriptor.
  pub splits_in_two :
      Gives (two_ready 0) (Reload grouped) no_fault two_workers
      (m1 (OpenAt other_port) (answer.Opened 4) ∷ m1 (Fork second 0 (Some (3 ∷ []))) answer.Forked
      ∷ m1 (Fork second 1 (Some (3 ∷ []))) answer.Forked ∷ m1 (Fork second 2 (Some (4 ∷ []))) answer.Forked
      ∷ m1 (AwaitReady second 0) answer.IsReady ∷ m1 (AwaitReady second 1) answer.IsReady
      ∷ m1 (AwaitReady second 2) answer.IsReady ∷ m1 (Census second) (answer.Counted (0 ∷ 1 ∷ 2 ∷ []))
      ∷ m1 (Quit first 1) answer.Fine ∷ m1 (Quit first 0) answer.Fine
      ∷ m1 (Census second) (answer.Counted (0 ∷ 1 ∷ 2 ∷ [])) ∷ [])
      (report Done None InPlace (0 ∷ 1 ∷ 2 ∷ [])) × (count_at (splits no_fault) port second ≡ Some 2) ×
      (count_at (splits no_fault) other_port second ≡ Some 1)
  -- One group falls short, and its address is served by none.
  pub one_group_short :
      Gives (two_ready 0) (Reload grouped) one_lost two_workers
      (m1 (OpenAt other_port) (answer.Opened 4) ∷ m1 (Fork second 0 (Some (3 ∷ []))) answer.Forked
      ∷ m1 (Fork second 1 (Some (3 ∷ []))) answer.Forked ∷ m1 (Fork second 2 (Some (4 ∷ []))) answer.Forked
      ∷ m1 (AwaitReady second 0) answer.IsReady ∷ m1 (AwaitReady second 1) answer.IsReady
      ∷ m1 (AwaitReady second 2) answer.IsReady ∷ m1 (Census second) (answer.Counted (0 ∷ 1 ∷ 2 ∷ []))
      ∷ m1 (Quit first 1) answer.Fine ∷ m1 (Quit first 0) answer.Fine
      ∷ m1 (Census second) (answer.Counted (0 ∷ 1 ∷ [])) ∷ [])
      (report (Degraded side.Target (0 ∷ 1 ∷ [])) (Some 11) InPlace (0 ∷ 1 ∷ [])) ×
      (count_at (splits one_lost) port second ≡ Some 2) × (count_at (splits one_lost) other_port second ≡ Some 0)
  -- One worker less, and one more again: it is of the other group.
  pub one_less :
      Gives three_ready (Workers 2) no_fault three_workers
      (m1 (Quit first 2) answer.Fine ∷ m1 (Census first) (answer.Counted (0 ∷ 1 ∷ [])) ∷ [])
      (report Done None InPlace (0 ∷ 1 ∷ []))
  pub one_more :
      Gives (grouped_record (0 ∷ 1 ∷ []) 2) (Workers 3) no_fault
      (run_of three_ready (Workers 2) [] no_fault three_workers).last.table
      (m1 (Fork first 2 (Some (4 ∷ []))) answer.Forked ∷ m1 (AwaitReady first 2) answer.IsReady ∷ m1 (Census first) (answer.Counted (0 ∷ 1 ∷ 2 ∷ [])) ∷ [])
      (report Done None InPlace (0 ∷ 1 ∷ 2 ∷ []))
  -- An upgrade: the new master has both addresses, and each of its workers gets its group's descriptor.
  pub upgrades :
      Gives three_ready_without_file (Upgrade grouped) no_fault three_without_file
      (m1 (SpawnMaster 2) answer.Spawned ∷ m2 Adopt answer.Adopted
      ∷ m2 (Fork second_image 0 (Some (3 ∷ []))) answer.Forked
      ∷ m2 (Fork second_image 1 (Some (3 ∷ []))) answer.Forked ∷ m2 (Fork second_image 2 (Some (4 ∷ []))) answer.Forked
      ∷ m2 (AwaitReady second_image 0) answer.IsReady ∷ m2 (AwaitReady second_image 1) answer.IsReady
      ∷ m2 (AwaitReady second_image 2) answer.IsReady ∷ m1 (Census first) (answer.Counted (0 ∷ 1 ∷ 2 ∷ []))
      ∷ m2 (Census second_image) (answer.Counted (0 ∷ 1 ∷ 2 ∷ [])) ∷ m1 (Quit first 2) answer.Fine
      ∷ m1 (Quit first 1) answer.Fine ∷ m1 (Quit first 0) answer.Fine ∷ m1 (AwaitGone first 2) answer.Gone
      ∷ m1 (AwaitGone first 1) answer.Gone ∷ m1 (AwaitGone first 0) answer.Gone ∷ m1 (Alive 2) answer.IsAlive
      ∷ m1 Leave answer.Fine ∷ m2 (Census second_image) (answer.Counted (0 ∷ 1 ∷ 2 ∷ [])) ∷ [])
      (report Done None NoFile (0 ∷ 1 ∷ 2 ∷ [])) × (count_at handed_on port second_image ≡ Some 2) ×
      (count_at handed_on other_port second_image ≡ Some 1)
