-- Worked examples: plans that are run on a small table, call by call.
use Rattle.std.specs.Prelude.{ℕ, true, false, ◌≡◌, List, [], ◌∷◌, ◌++◌, Option, Some, None}
use Rattle.vocabulary.specs.declared.names.Name.TheVariants as name
use Rattle.vocabulary.specs.declared.calls.Call.TheVariants.{OpenAt, CloseAt, Fork, AwaitReady, Quit, Kill, Census}
use Rattle.vocabulary.specs.declared.calls.Call.TheVariants.{AwaitGone, SpawnMaster, Adopt, WritePid, MovePid}
use Rattle.vocabulary.specs.declared.calls.Call.TheVariants.{RemovePid, Alive, Leave, Usr1, TermMaster, Ask}
use Rattle.vocabulary.specs.declared.calls.Answer.TheVariants as answer
use Rattle.vocabulary.specs.declared.calls.Fate.TheVariants as fate
use Rattle.vocabulary.specs.declared.plans.PidNote.TheVariants.{InPlace, AtOldbin, OldbinLeft, Left, NoFile}
use Rattle.vocabulary.specs.declared.plans.Side.TheVariants as side
use Rattle.vocabulary.specs.declared.reports.Outcome.TheVariants.{Done, RolledBack, Degraded}
use Rattle.vocabulary.specs.declared.reports.Entry.{Entry}
use Rattle.vocabulary.specs.declared.targets.Target.{Target}
use Rattle.vocabulary.specs.declared.targets.Target.TheVariants.{Workers, Mend, Reopen, Reload, Upgrade, Attended, Stop}
use Rattle.definitions.specs.Master.{Record, oldbin, Sides, sides_of, handover_for}
use Rattle.definitions.specs.Calls.{Handover}
use Rattle.listener_set.specs.Numbers.{numbers_below}
use Rattle.call_laws.specs.Lengths.{height}
use Rattle.definitions.specs.Plans.{Turn, New, Old, plan_tree}
use Rattle.definitions.specs.Run.{Pattern, Ran, faults_since, report_of}
use Rattle.definitions.specs.After.{record_after}
use Rattle.definitions.specs.Claims.{run_of, refused_among}
use Rattle.theorems.specs.GroupRuns.{GroupRuns}
use Rattle.theorems.specs.Examples.{first, second, second_image, port, other_port, pid_file, two_workers}
use Rattle.theorems.specs.Examples.{two_without_file, full_table, other_held, record_with, two_ready}
use Rattle.theorems.specs.Examples.{two_ready_without_file, settings_of, no_fault, fails, exits, m1, m2, one_group}
use Rattle.theorems.specs.Examples.{report, GivesIn, Gives, count_at}

-- the record after a reload to no workers
abbrev pub empty_record : Record
empty_record = record {
  listeners = record { descriptor = 3; address = port } ∷ [];
  posts = one_group 0;
  generation = second;
  ready = [];
  wanted = 0;
  retries = 3;
  timeout = 60;
  pid_path = Some pid_file;
  note = InPlace;
  pid = 100;
}

-- The same settings by an upgrade.
abbrev pub same_upgrade : Target
same_upgrade = Upgrade (settings_of (port ∷ []) 2)

-- what its new master is handed
abbrev pub handed : Handover
handed = record {
  old_pid = 100;
  generation = second_image;
  listeners = record { descriptor = 3; address = port } ∷ [];
  want = port ∷ [];
  groups = record { addresses = 1; workers = 2 } ∷ [];
  pid_file = Some pid_file;
}

abbrev pub upgrade_run_by : List Turn → Pattern → Ran
upgrade_run_by turns pattern = run_of (two_ready 3) same_upgrade turns pattern two_workers

abbrev pub upgrade_run : Pattern → Ran
upgrade_run pattern = upgrade_run_by [] pattern

abbrev pub upgrade_sides : Sides
upgrade_sides = sides_of (two_ready 3) same_upgrade

abbrev pub refused_with : Pattern → Option ℕ
refused_with pattern = refused_among (1 ∷ []) (2 ∷ []) pattern 0 (upgrade_run pattern).entries

-- The whole of an upgrade.
abbrev pub Upgrades : Type 0
Upgrades =
    GivesIn upgrade_sides (upgrade_run no_fault)
    (m1 (MovePid pid_file (oldbin pid_file)) answer.Fine ∷ m1 (SpawnMaster 2) answer.Spawned ∷ m2 Adopt answer.Adopted ∷ m2 (Fork second_image 0 None) answer.Forked ∷ m2 (Fork second_image 1 None) answer.Forked ∷ m2 (AwaitReady second_image 0) answer.IsReady ∷ m2 (AwaitReady second_image 1) answer.IsReady ∷ m1 (Census first) (answer.Counted (0 ∷ 1 ∷ [])) ∷ m2 (WritePid pid_file) answer.Fine ∷ m2 (Census second_image) (answer.Counted (0 ∷ 1 ∷ [])) ∷ m1 (Quit first 1) answer.Fine ∷ m1 (Quit first 0) answer.Fine ∷ m1 (AwaitGone first 1) answer.Gone ∷ m1 (AwaitGone first 0) answer.Gone ∷ m1 (Alive 2) answer.IsAlive ∷ m1 Leave answer.Fine ∷ m2 (RemovePid (oldbin pid_file)) answer.Fine ∷ m2 (Census second_image) (answer.Counted (0 ∷ 1 ∷ [])) ∷ [])
    (report Done None InPlace (0 ∷ 1 ∷ [])) × (count_at (upgrade_run no_fault) port second_image ≡ Some 2)

-- The old master counts its workers first.
abbrev pub CountsFirst : Type 0
CountsFirst =
    GivesIn upgrade_sides (upgrade_run_by (Old ∷ []) no_fault)
    (m1 (MovePid pid_file (oldbin pid_file)) answer.Fine ∷ m1 (SpawnMaster 2) answer.Spawned ∷ m1 (Census first) (answer.Counted (0 ∷ 1 ∷ [])) ∷ m2 Adopt answer.Adopted ∷ m2 (Fork second_image 0 None) answer.Forked ∷ m2 (Fork second_image 1 None) answer.Forked ∷ m2 (AwaitReady second_image 0) answer.IsReady ∷ m2 (AwaitReady second_image 1) answer.IsReady ∷ m2 (WritePid pid_file) answer.Fine ∷ m2 (Census second_image) (answer.Counted (0 ∷ 1 ∷ [])) ∷ m1 (Quit first 1) answer.Fine ∷ m1 (Quit first 0) answer.Fine ∷ m1 (AwaitGone first 1) answer.Gone ∷ m1 (AwaitGone first 0) answer.Gone ∷ m1 (Alive 2) answer.IsAlive ∷ m1 Leave answer.Fine ∷ m2 (RemovePid (oldbin pid_file)) answer.Fine ∷ m2 (Census second_image) (answer.Counted (0 ∷ 1 ∷ [])) ∷ [])
    (report Done None InPlace (0 ∷ 1 ∷ []))

-- The old master starts one that is gone, beside the new master's first step.
abbrev pub MendsBeside : Type 0
MendsBeside =
    GivesIn upgrade_sides
    (upgrade_run_by (New ∷ Old ∷ Old ∷ Old ∷ Old ∷ []) (exits 4 (name.Worker first 1) no_fault))
    (m1 (MovePid pid_file (oldbin pid_file)) answer.Fine ∷ m1 (SpawnMaster 2) answer.Spawned ∷ m2 Adopt answer.Adopted ∷ m1 (Census first) (answer.Counted (0 ∷ [])) ∷ m1 (Fork first 1 None) answer.Forked ∷ m1 (AwaitReady first 1) answer.IsReady ∷ m1 (Census first) (answer.Counted (0 ∷ 1 ∷ [])) ∷ m2 (Fork second_image 0 None) answer.Forked ∷ m2 (Fork second_image 1 None) answer.Forked ∷ m2 (AwaitReady second_image 0) answer.IsReady ∷ m2 (AwaitReady second_image 1) answer.IsReady ∷ m2 (WritePid pid_file) answer.Fine ∷ m2 (Census second_image) (answer.Counted (0 ∷ 1 ∷ [])) ∷ m1 (Quit first 1) answer.Fine ∷ m1 (Quit first 0) answer.Fine ∷ m1 (AwaitGone first 1) answer.Gone ∷ m1 (AwaitGone first 0) answer.Gone ∷ m1 (Alive 2) answer.IsAlive ∷ m1 Leave answer.Fine ∷ m2 (RemovePid (oldbin pid_file)) answer.Fine ∷ m2 (Census second_image) (answer.Counted (0 ∷ 1 ∷ [])) ∷ [])
    (report Done (Some 4) InPlace (0 ∷ 1 ∷ []))

-- There is no program, and the pid file does not come back.
abbrev pub NoImage : Type 0
NoImage =
    GivesIn upgrade_sides (upgrade_run (fails 2 fate.NoImage (fails 3 fate.IoFault no_fault)))
    (m1 (MovePid pid_file (oldbin pid_file)) answer.Fine ∷ m1 (SpawnMaster 2) answer.NoImage ∷ m1 (MovePid (oldbin pid_file) pid_file) answer.IoFault ∷ m1 (Census first) (answer.Counted (0 ∷ 1 ∷ [])) ∷ [])
    (report RolledBack (Some 2) AtOldbin (0 ∷ 1 ∷ []))

-- The new master is gone when it is asked for.
abbrev pub GoneAtLast : Type 0
GoneAtLast =
    GivesIn upgrade_sides (upgrade_run (exits 15 (name.Master 2) no_fault))
    (m1 (MovePid pid_file (oldbin pid_file)) answer.Fine ∷ m1 (SpawnMaster 2) answer.Spawned ∷ m2 Adopt answer.Adopted ∷ m2 (Fork second_image 0 None) answer.Forked ∷ m2 (Fork second_image 1 None) answer.Forked ∷ m2 (AwaitReady second_image 0) answer.IsReady ∷ m2 (AwaitReady second_image 1) answer.IsReady ∷ m1 (Census first) (answer.Counted (0 ∷ 1 ∷ [])) ∷ m2 (WritePid pid_file) answer.Fine ∷ m2 (Census second_image) (answer.Counted (0 ∷ 1 ∷ [])) ∷ m1 (Quit first 1) answer.Fine ∷ m1 (Quit first 0) answer.Fine ∷ m1 (AwaitGone first 1) answer.Gone ∷ m1 (AwaitGone first 0) answer.Gone ∷ m1 (Alive 2) answer.Gone ∷ m1 (TermMaster 2) answer.Fine ∷ m1 (Fork first 0 None) answer.Forked ∷ m1 (Fork first 1 None) answer.Forked ∷ m1 (AwaitReady first 0) answer.IsReady ∷ m1 (AwaitReady first 1) answer.IsReady ∷ m1 (MovePid (oldbin pid_file) pid_file) answer.Fine ∷ m1 (Census first) (answer.Counted (0 ∷ 1 ∷ [])) ∷ [])
    (report RolledBack (Some 15) InPlace (0 ∷ 1 ∷ [])) ×
    (count_at (upgrade_run (exits 15 (name.Master 2) no_fault)) port first ≡ Some 2) ×
    ((upgrade_run (exits 15 (name.Master 2) no_fault)).last.faults ≡ 1) ×
    ((upgrade_run (exits 15 (name.Master 2) no_fault)).last.losses ≡ 2)

-- The executing masters must not exit.
abbrev pub Refused : Type 0
Refused =
    (refused_with (exits 16 (name.Master 2) no_fault) ≡ Some 16)
    × (refused_with (exits 1 (name.Master 1) no_fault) ≡ Some 1)
    × (refused_with (exits 15 (name.Master 2) no_fault) ≡ None)

-- The new master is gone while it starts.
abbrev pub GoneEarly : Type 0
GoneEarly =
    GivesIn upgrade_sides (upgrade_run (exits 6 (name.Master 2) no_fault))
    (m1 (MovePid pid_file (oldbin pid_file)) answer.Fine ∷ m1 (SpawnMaster 2) answer.Spawned ∷ m2 Adopt answer.Adopted ∷ m2 (Fork second_image 0 None) answer.Forked ∷ m2 (Fork second_image 1 None) answer.Forked ∷ m2 (AwaitReady second_image 0) answer.MasterGone ∷ m1 (Census first) (answer.Counted (0 ∷ 1 ∷ [])) ∷ m1 (TermMaster 2) answer.Fine ∷ m1 (MovePid (oldbin pid_file) pid_file) answer.Fine ∷ m1 (Census first) (answer.Counted (0 ∷ 1 ∷ [])) ∷ [])
    (report RolledBack (Some 6) InPlace (0 ∷ 1 ∷ [])) ×
    ((upgrade_run (exits 6 (name.Master 2) no_fault)).last.faults ≡ 1) ×
    ((upgrade_run (exits 6 (name.Master 2) no_fault)).last.losses ≡ 2)

-- A worker is gone at the last count.
abbrev pub RepairedAtLast : Type 0
RepairedAtLast =
    GivesIn upgrade_sides (upgrade_run (exits 18 (name.Worker second_image 1) no_fault))
    (m1 (MovePid pid_file (oldbin pid_file)) answer.Fine ∷ m1 (SpawnMaster 2) answer.Spawned ∷ m2 Adopt answer.Adopted ∷ m2 (Fork second_image 0 None) answer.Forked ∷ m2 (Fork second_image 1 None) answer.Forked ∷ m2 (AwaitReady second_image 0) answer.IsReady ∷ m2 (AwaitReady second_image 1) answer.IsReady ∷ m1 (Census first) (answer.Counted (0 ∷ 1 ∷ [])) ∷ m2 (WritePid pid_file) answer.Fine ∷ m2 (Census second_image) (answer.Counted (0 ∷ 1 ∷ [])) ∷ m1 (Quit first 1) answer.Fine ∷ m1 (Quit first 0) answer.Fine ∷ m1 (AwaitGone first 1) answer.Gone ∷ m1 (AwaitGone first 0) answer.Gone ∷ m1 (Alive 2) answer.IsAlive ∷ m1 Leave answer.Fine ∷ m2 (RemovePid (oldbin pid_file)) answer.Fine ∷ m2 (Census second_image) (answer.Counted (0 ∷ [])) ∷ m2 (Fork second_image 1 None) answer.Forked ∷ m2 (AwaitReady second_image 1) answer.IsReady ∷ m2 (Census second_image) (answer.Counted (0 ∷ 1 ∷ [])) ∷ [])
    (report Done (Some 18) InPlace (0 ∷ 1 ∷ []))

-- The old pid file cannot be removed.
abbrev pub OldFileLeft : Type 0
OldFileLeft =
    GivesIn upgrade_sides (upgrade_run (fails 17 fate.IoFault no_fault))
    (m1 (MovePid pid_file (oldbin pid_file)) answer.Fine ∷ m1 (SpawnMaster 2) answer.Spawned ∷ m2 Adopt answer.Adopted ∷ m2 (Fork second_image 0 None) answer.Forked ∷ m2 (Fork second_image 1 None) answer.Forked ∷ m2 (AwaitReady second_image 0) answer.IsReady ∷ m2 (AwaitReady second_image 1) answer.IsReady ∷ m1 (Census first) (answer.Counted (0 ∷ 1 ∷ [])) ∷ m2 (WritePid pid_file) answer.Fine ∷ m2 (Census second_image) (answer.Counted (0 ∷ 1 ∷ [])) ∷ m1 (Quit first 1) answer.Fine ∷ m1 (Quit first 0) answer.Fine ∷ m1 (AwaitGone first 1) answer.Gone ∷ m1 (AwaitGone first 0) answer.Gone ∷ m1 (Alive 2) answer.IsAlive ∷ m1 Leave answer.Fine ∷ m2 (RemovePid (oldbin pid_file)) answer.IoFault ∷ m2 (Census second_image) (answer.Counted (0 ∷ 1 ∷ [])) ∷ [])
    (report Done (Some 17) OldbinLeft (0 ∷ 1 ∷ []))

---- An attended upgrade

abbrev pub same_attended : Target
same_attended = Attended (settings_of (port ∷ []) 2)

abbrev pub attended_run_by : List Turn → Pattern → Ran
attended_run_by turns pattern = run_of (two_ready 3) same_attended turns pattern two_workers

abbrev pub attended_run : Pattern → Ran
attended_run pattern = attended_run_by [] pattern

-- The ten calls up to the new master's count, and those that end the old workers.
abbrev pub until_counted : List Entry
until_counted =
    m1 (MovePid pid_file (oldbin pid_file)) answer.Fine ∷ m1 (SpawnMaster 2) answer.Spawned ∷ m2 Adopt answer.Adopted
    ∷ m2 (Fork second_image 0 None) answer.Forked ∷ m2 (Fork second_image 1 None) answer.Forked
    ∷ m2 (AwaitReady second_image 0) answer.IsReady ∷ m2 (AwaitReady second_image 1) answer.IsReady
    ∷ m1 (Census first) (answer.Counted (0 ∷ 1 ∷ [])) ∷ m2 (WritePid pid_file) answer.Fine ∷ m2 (Census second_image) (answer.Counted (0 ∷ 1 ∷ [])) ∷ []

abbrev pub until_gone : List Entry
until_gone =
    m1 (Quit first 1) answer.Fine ∷ m1 (Quit first 0) answer.Fine ∷ m1 (AwaitGone first 1) answer.Gone ∷ m1 (AwaitGone first 0) answer.Gone ∷ []

-- The new master ends, and the old one counts its workers.
abbrev pub back_without_turns : List Entry
back_without_turns =
    m1 (TermMaster 2) answer.Fine ∷ m1 (MovePid (oldbin pid_file) pid_file) answer.Fine ∷ m1 (Census first) (answer.Counted (0 ∷ 1 ∷ [])) ∷ []

-- The operator goes on, twice.
abbrev pub Attends : Type 0
Attends =
    GivesIn upgrade_sides (attended_run no_fault)
    (until_counted ++ m1 (Ask 1) answer.Go ∷ until_gone ++ m1 (Ask 2) answer.Go ∷ m1 (Alive 2) answer.IsAlive ∷ m1 Leave answer.Fine
    ∷ m2 (RemovePid (oldbin pid_file)) answer.Fine ∷ m2 (Census second_image) (answer.Counted (0 ∷ 1 ∷ [])) ∷ [])
    (report Done None InPlace (0 ∷ 1 ∷ []))

-- The operator goes back before the old workers quit, which is no fault.
abbrev pub BackAtFirst : Type 0
BackAtFirst =
    let ran = attended_run (fails 11 fate.Back no_fault) in
    GivesIn upgrade_sides ran (until_counted ++ m1 (Ask 1) answer.Back ∷ back_without_turns) (report RolledBack (Some 11) InPlace (0 ∷ 1 ∷ []))
    × (ran.last.faults ≡ 0)

-- The operator goes back once they are gone: they are started again before the new master ends.
abbrev pub BackAtLast : Type 0
BackAtLast =
    let ran = attended_run (fails 16 fate.Back no_fault) in
    GivesIn upgrade_sides ran
    (until_counted ++ m1 (Ask 1) answer.Go ∷ until_gone ++ m1 (Ask 2) answer.Back
    ∷ m1 (Fork first 0 None) answer.Forked ∷ m1 (Fork first 1 None) answer.Forked
    ∷ m1 (AwaitReady first 0) answer.IsReady ∷ m1 (AwaitReady first 1) answer.IsReady ∷ back_without_turns)
    (report RolledBack (Some 16) InPlace (0 ∷ 1 ∷ []))
    × (ran.last.faults ≡ 0)

-- One of them is late then, which is a fault since the operator went back.
abbrev pub BackIsShort : Type 0
BackIsShort =
    let ran = attended_run (fails 16 fate.Back (fails 19 fate.Late no_fault)) in
    (ran.last.faults ≡ 1) × (ran.last.losses ≡ 0) × (faults_since 2 ran.last.returns ran.last.faults ≡ 1) × (ran.last.cause ≡ Some 16)

-- The old master has mended, with one that was late, and the old service is wanted back at last: that fault was before, and counts for
-- nothing then.
abbrev pub all_old_first : List Turn
all_old_first = New ∷ Old ∷ Old ∷ Old ∷ Old ∷ Old ∷ Old ∷ Old ∷ Old ∷ []

abbrev pub late_then_back : Pattern
late_then_back = exits 4 (name.Worker first 1) (fails 6 fate.Late (fails 23 fate.Back no_fault))

abbrev pub BackAfterMending : Type 0
BackAfterMending =
    GivesIn upgrade_sides (attended_run_by all_old_first late_then_back)
    (m1 (MovePid pid_file (oldbin pid_file)) answer.Fine ∷ m1 (SpawnMaster 2) answer.Spawned ∷ m2 Adopt answer.Adopted ∷ m1 (Census first) (answer.Counted (0 ∷ [])) ∷ m1 (Fork first 1 None) answer.Forked ∷ m1 (AwaitReady first 1) answer.Late ∷ m1 (Kill first 1) answer.Fine ∷ m1 (Census first) (answer.Counted (0 ∷ [])) ∷ m1 (Fork first 1 None) answer.Forked ∷ m1 (AwaitReady first 1) answer.IsReady ∷ m1 (Census first) (answer.Counted (0 ∷ 1 ∷ [])) ∷ m2 (Fork second_image 0 None) answer.Forked ∷ m2 (Fork second_image 1 None) answer.Forked ∷ m2 (AwaitReady second_image 0) answer.IsReady ∷ m2 (AwaitReady second_image 1) answer.IsReady ∷ m2 (WritePid pid_file) answer.Fine ∷ m2 (Census second_image) (answer.Counted (0 ∷ 1 ∷ [])) ∷ m1 (Ask 1) answer.Go ∷ m1 (Quit first 1) answer.Fine ∷ m1 (Quit first 0) answer.Fine ∷ m1 (AwaitGone first 1) answer.Gone ∷ m1 (AwaitGone first 0) answer.Gone ∷ m1 (Ask 2) answer.Back ∷ m1 (Fork first 0 None) answer.Forked ∷ m1 (Fork first 1 None) answer.Forked ∷ m1 (AwaitReady first 0) answer.IsReady ∷ m1 (AwaitReady first 1) answer.IsReady ∷ m1 (TermMaster 2) answer.Fine ∷ m1 (MovePid (oldbin pid_file) pid_file) answer.Fine ∷ m1 (Census first) (answer.Counted (0 ∷ 1 ∷ [])) ∷ [])
    (report RolledBack (Some 4) InPlace (0 ∷ 1 ∷ []))
    ×
    (let ran = attended_run_by all_old_first late_then_back in (ran.last.faults ≡ 1) × (ran.last.losses ≡ 1) × (faults_since 2 ran.last.returns ran.last.faults ≡ 0))

pub record WorkedRuns : Type 0 where
  -- What the new master of the upgrade is handed.
  pub handover : handover_for (two_ready 3) same_upgrade ≡ Some handed
  pub upgrades : Upgrades
  pub counts_first : CountsFirst
  pub mends_beside : MendsBeside
  pub no_image : NoImage
  pub gone_at_last : GoneAtLast
  pub refused : Refused
  pub gone_early : GoneEarly
  pub repaired_at_last : RepairedAtLast
  pub old_file_left : OldFileLeft
  pub attends : Attends
  pub back_at_first : BackAtFirst
  pub back_at_last : BackAtLast
  pub back_is_short : BackIsShort
  pub back_after_mending : BackAfterMending
  -- One worker more.
  pub one_more :
      Gives two_ready_without_file (Workers 3) no_fault two_without_file
      (m1 (Fork first 2 None) answer.Forked ∷ m1 (AwaitReady first 2) answer.IsReady ∷ m1 (Census first) (answer.Counted (0 ∷ 1 ∷ 2 ∷ [])) ∷ [])
      (report Done None NoFile (0 ∷ 1 ∷ 2 ∷ []))
  -- No process can be started.
  pub one_more_refused :
      Gives (two_ready 3) (Workers 3) (fails 1 fate.Again no_fault) two_workers
      (m1 (Fork first 2 None) answer.Again ∷ m1 (Census first) (answer.Counted (0 ∷ 1 ∷ [])) ∷ [])
      (report RolledBack (Some 1) InPlace (0 ∷ 1 ∷ []))
  -- And a worker exits: without retries one is lacking.
  pub one_more_short :
      Gives (two_ready 0) (Workers 3) (fails 1 fate.Again (exits 2 (name.Worker first 0) no_fault)) two_workers
      (m1 (Fork first 2 None) answer.Again ∷ m1 (Census first) (answer.Counted (1 ∷ [])) ∷ [])
      (report (Degraded side.Old (1 ∷ [])) (Some 1) InPlace (1 ∷ []))
  -- With retries it is started again.
  pub one_more_repaired :
      Gives (two_ready 3) (Workers 3) (fails 1 fate.Again (exits 2 (name.Worker first 0) no_fault)) two_workers
      (m1 (Fork first 2 None) answer.Again ∷ m1 (Census first) (answer.Counted (1 ∷ [])) ∷ m1 (Fork first 0 None) answer.Forked ∷ m1 (AwaitReady first 0) answer.IsReady ∷ m1 (Census first) (answer.Counted (0 ∷ 1 ∷ [])) ∷ [])
      (report RolledBack (Some 1) InPlace (0 ∷ 1 ∷ []))
  -- One worker less, twice.
  pub one_less :
      Gives (two_ready 3) (Workers 1) no_fault two_workers
      (m1 (Quit first 1) answer.Fine ∷ m1 (Census first) (answer.Counted (0 ∷ [])) ∷ [])
      (report Done None InPlace (0 ∷ []))
  pub none_left :
      Gives (record_with (0 ∷ []) 1 3 (Some pid_file) InPlace) (Workers 0) no_fault
      (run_of (two_ready 3) (Workers 1) [] no_fault two_workers).last.table
      (m1 (Quit first 0) answer.Fine ∷ m1 (Census first) (answer.Counted []) ∷ []) (report Done None InPlace [])
  -- All workers quit, and then there is one again.
  pub all_quit :
      Gives (two_ready 3) (Workers 0) no_fault two_workers
      (m1 (Quit first 1) answer.Fine ∷ m1 (Quit first 0) answer.Fine ∷ m1 (Census first) (answer.Counted []) ∷ [])
      (report Done None InPlace [])
  pub one_again :
      Gives (record_with [] 0 3 (Some pid_file) InPlace) (Workers 1) no_fault
      (run_of (two_ready 3) (Workers 0) [] no_fault two_workers).last.table
      (m1 (Fork first 0 None) answer.Forked ∷ m1 (AwaitReady first 0) answer.IsReady ∷ m1 (Census first) (answer.Counted (0 ∷ [])) ∷ [])
      (report Done None InPlace (0 ∷ []))
  -- The same settings again.
  pub reloads :
      Gives (two_ready 3) (Reload (settings_of (port ∷ []) 2)) no_fault two_workers
      (m1 (Fork second 0 None) answer.Forked ∷ m1 (Fork second 1 None) answer.Forked ∷ m1 (AwaitReady second 0) answer.IsReady ∷ m1 (AwaitReady second 1) answer.IsReady ∷ m1 (Census second) (answer.Counted (0 ∷ 1 ∷ [])) ∷ m1 (Quit first 1) answer.Fine ∷ m1 (Quit first 0) answer.Fine ∷ m1 (Census second) (answer.Counted (0 ∷ 1 ∷ [])) ∷ [])
      (report Done None InPlace (0 ∷ 1 ∷ []))
  -- An address more: both are served.
  pub reloads_with_an_address :
      Gives (two_ready 3) (Reload (settings_of (port ∷ other_port ∷ []) 2)) no_fault two_workers
      (m1 (OpenAt other_port) (answer.Opened 4) ∷ m1 (Fork second 0 None) answer.Forked ∷ m1 (Fork second 1 None) answer.Forked ∷ m1 (AwaitReady second 0) answer.IsReady ∷ m1 (AwaitReady second 1) answer.IsReady ∷ m1 (Census second) (answer.Counted (0 ∷ 1 ∷ [])) ∷ m1 (Quit first 1) answer.Fine ∷ m1 (Quit first 0) answer.Fine ∷ m1 (Census second) (answer.Counted (0 ∷ 1 ∷ [])) ∷ [])
      (report Done None InPlace (0 ∷ 1 ∷ [])) ×
      (count_at (run_of (two_ready 3) (Reload (settings_of (port ∷ other_port ∷ []) 2)) [] no_fault two_workers) port second ≡ Some 2)
      ×
      (count_at (run_of (two_ready 3) (Reload (settings_of (port ∷ other_port ∷ []) 2)) [] no_fault two_workers) other_port second ≡ Some 2)
  -- Somebody else holds it.
  pub address_is_held :
      Gives (two_ready 3) (Reload (settings_of (port ∷ other_port ∷ []) 2)) no_fault other_held
      (m1 (OpenAt other_port) answer.InUse ∷ m1 (Census first) (answer.Counted (0 ∷ 1 ∷ [])) ∷ [])
      (report RolledBack (Some 1) InPlace (0 ∷ 1 ∷ []))
  -- A worker is late: what was opened is closed.
  pub comes_back :
      Gives (two_ready 3) (Reload (settings_of (port ∷ other_port ∷ []) 2)) (fails 5 fate.Late no_fault) two_workers
      (m1 (OpenAt other_port) (answer.Opened 4) ∷ m1 (Fork second 0 None) answer.Forked ∷ m1 (Fork second 1 None) answer.Forked ∷ m1 (AwaitReady second 0) answer.IsReady ∷ m1 (AwaitReady second 1) answer.Late ∷ m1 (Kill second 1) answer.Fine ∷ m1 (Quit second 1) answer.Fine ∷ m1 (Quit second 0) answer.Fine ∷ m1 (CloseAt other_port) answer.Fine ∷ m1 (Census first) (answer.Counted (0 ∷ 1 ∷ [])) ∷ [])
      (report RolledBack (Some 5) InPlace (0 ∷ 1 ∷ [])) ×
      (count_at (run_of (two_ready 3) (Reload (settings_of (port ∷ other_port ∷ []) 2)) [] (fails 5 fate.Late no_fault) two_workers) port first ≡ Some 2)
      ×
      (count_at (run_of (two_ready 3) (Reload (settings_of (port ∷ other_port ∷ []) 2)) [] (fails 5 fate.Late no_fault) two_workers) other_port second ≡ None)
  -- Another address in the place of the first.
  pub changes_its_address :
      Gives (two_ready 3) (Reload (settings_of (other_port ∷ []) 2)) no_fault two_workers
      (m1 (OpenAt other_port) (answer.Opened 4) ∷ m1 (Fork second 0 None) answer.Forked ∷ m1 (Fork second 1 None) answer.Forked ∷ m1 (AwaitReady second 0) answer.IsReady ∷ m1 (AwaitReady second 1) answer.IsReady ∷ m1 (Census second) (answer.Counted (0 ∷ 1 ∷ [])) ∷ m1 (Quit first 1) answer.Fine ∷ m1 (Quit first 0) answer.Fine ∷ m1 (CloseAt port) answer.Fine ∷ m1 (Census second) (answer.Counted (0 ∷ 1 ∷ [])) ∷ [])
      (report Done None InPlace (0 ∷ 1 ∷ [])) ×
      (count_at (run_of (two_ready 3) (Reload (settings_of (other_port ∷ []) 2)) [] no_fault two_workers) port second ≡ None)
      ×
      (count_at (run_of (two_ready 3) (Reload (settings_of (other_port ∷ []) 2)) [] no_fault two_workers) other_port second ≡ Some 2)
  -- No workers: the address stays.
  pub reloads_to_none :
      Gives (two_ready 3) (Reload (settings_of (port ∷ []) 0)) no_fault two_workers
      (m1 (Census second) (answer.Counted []) ∷ m1 (Quit first 1) answer.Fine ∷ m1 (Quit first 0) answer.Fine ∷ m1 (Census second) (answer.Counted []) ∷ [])
      (report Done None InPlace []) ×
      (count_at (run_of (two_ready 3) (Reload (settings_of (port ∷ []) 0)) [] no_fault two_workers) port second ≡ Some 0)
  -- And one more, by the record that is left.
  pub one_after_none :
      (record_after (two_ready 3) (Reload (settings_of (port ∷ []) 0)) (report_of (sides_of (two_ready 3) (Reload (settings_of (port ∷ []) 0))) (run_of (two_ready 3) (Reload (settings_of (port ∷ []) 0)) [] no_fault two_workers)) 100 ≡ Some empty_record)
      × Gives empty_record (Workers 1) no_fault
      (run_of (two_ready 3) (Reload (settings_of (port ∷ []) 0)) [] no_fault two_workers).last.table
      (m1 (Fork second 0 None) answer.Forked ∷ m1 (AwaitReady second 0) answer.IsReady ∷ m1 (Census second) (answer.Counted (0 ∷ [])) ∷ [])
      (report Done None InPlace (0 ∷ []))
  -- No worker is overdue.
  pub mends_nothing :
      Gives (two_ready 3) (Mend []) no_fault two_workers (m1 (Census first) (answer.Counted (0 ∷ 1 ∷ [])) ∷ []) (report Done None InPlace (0 ∷ 1 ∷ []))
  -- One worker is overdue.
  pub mends :
      Gives (two_ready 3) (Mend (0 ∷ [])) no_fault two_workers
      (m1 (Kill first 0) answer.Fine ∷ m1 (Fork first 0 None) answer.Forked ∷ m1 (AwaitReady first 0) answer.IsReady ∷ m1 (Census first) (answer.Counted (0 ∷ 1 ∷ [])) ∷ [])
      (report Done None InPlace (0 ∷ 1 ∷ []))
  -- A worker does not end in time.
  pub stops :
      Gives (two_ready 3) (Stop false) (fails 3 fate.Late no_fault) two_workers
      (m1 (Quit first 1) answer.Fine ∷ m1 (Quit first 0) answer.Fine ∷ m1 (AwaitGone first 1) answer.Late ∷ m1 (Kill first 1) answer.Fine ∷ m1 (AwaitGone first 0) answer.Gone ∷ m1 (RemovePid pid_file) answer.Fine ∷ m1 Leave answer.Fine ∷ [])
      (report Done (Some 3) NoFile [])
  -- A quick stop.
  pub stops_at_once :
      Gives (two_ready 3) (Stop true) no_fault two_workers
      (m1 (Kill first 0) answer.Fine ∷ m1 (Kill first 1) answer.Fine ∷ m1 (RemovePid pid_file) answer.Fine ∷ m1 Leave answer.Fine ∷ [])
      (report Done None NoFile [])
  -- The pid file cannot be removed.
  pub file_left :
      Gives (two_ready 3) (Stop false) (fails 5 fate.IoFault no_fault) two_workers
      (m1 (Quit first 1) answer.Fine ∷ m1 (Quit first 0) answer.Fine ∷ m1 (AwaitGone first 1) answer.Gone ∷ m1 (AwaitGone first 0) answer.Gone ∷ m1 (RemovePid pid_file) answer.IoFault ∷ m1 Leave answer.Fine ∷ [])
      (report Done (Some 5) Left [])
  -- Each worker is told to open its logs anew.
  pub reopens :
      Gives (two_ready 3) Reopen no_fault two_workers
      (m1 (Usr1 first 0) answer.Fine ∷ m1 (Usr1 first 1) answer.Fine ∷ m1 (Census first) (answer.Counted (0 ∷ 1 ∷ [])) ∷ [])
      (report Done None InPlace (0 ∷ 1 ∷ []))
  -- There may be no process more.
  pub no_process_left :
      Gives two_ready_without_file (Workers 3) no_fault full_table
      (m1 (Fork first 2 None) answer.Again ∷ m1 (Census first) (answer.Counted (0 ∷ 1 ∷ [])) ∷ [])
      (report RolledBack (Some 1) NoFile (0 ∷ 1 ∷ []))
  -- The longest paths of some plans.
  pub longest :
      (height (plan_tree (two_ready 0) (Workers 3) []) ≡ 5) × (height (plan_tree (two_ready 3) (Workers 3) []) ≡ 17)
      × (height (plan_tree (record_with (numbers_below 13) 13 3 (Some pid_file) InPlace) (Stop false) []) ≡ 41)
  -- And several groups.
  pub groups : GroupRuns
