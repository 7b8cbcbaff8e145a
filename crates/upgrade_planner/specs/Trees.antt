-- The trees of an upgrade, by the lists that it goes through.
use Rattle.std.specs.Prelude.{◌≡◌, ℕ, Bool, true, false, List, ◌∷◌, ◌++◌, Option, map}
use Rattle.vocabulary.specs.declared.plans.Side.TheVariants.{Old}
use Rattle.definitions.specs.Table.{Address, FilePath}
use Rattle.definitions.specs.Calls.{Call, OpenAt, CloseAt, AwaitReady, Census, SpawnMaster, Adopt, WritePid}
use Rattle.definitions.specs.Master.{Crew, fork_of}
use Rattle.definitions.specs.Run.{Tree, Ends, Split, JoinReady, JoinBack}
use Rattle.vocabulary.specs.Settings.{Settings}
use Rattle.vocabulary.specs.declared.targets.Target.{Target}
use Rattle.vocabulary.specs.declared.targets.Target.TheVariants as target
use Rattle.definitions.specs.Plans.{does, settle, tries, tries_all, pid_calls, move_aside, move_back, remove_oldbin, back_alone, back_from, old_part, relieve}
use Rattle.call_laws.specs.Pieces.{spawn_edges}
use Rattle.plan_steps.specs.declared.parts.Parts.{Parts}
use Rattle.rollback_plan.specs.declared.draft.Draft.{Draft}
use Rattle.rollback_plan.specs.Drafts.{IsMade, splits_in}
use Rattle.upgrade_planner.specs.declared.pid_file.Aside.{Aside}
use Rattle.upgrade_planner.specs.declared.pid_file.Aside.TheVariants.{Returns, Goes}
use Rattle.upgrade_planner.specs.declared.upgrade.Upgrade.{Upgrade}
use Rattle.upgrade_planner.specs.declared.drawing.Drawn.{Drawn}

-- An upgrade that is attended, or one that is not.
abbrev pub asked_for : Bool → Settings → Target
asked_for true s = target.Attended s
asked_for false s = target.Upgrade s

-- What becomes of the file with the suffix.
abbrev pub clearing : Aside → ℕ → Option FilePath → Tree → Tree
clearing Returns = move_back
clearing Goes = remove_oldbin

---- What the new master does

-- The new master forks its workers and waits for them.
abbrev pub staffing : Crew → List ℕ → List Call
staffing crew numbers = map (fork_of crew) numbers ++ map (AwaitReady crew.generation) numbers

-- Before that it adopts what it was handed, and closes and opens addresses.
abbrev pub coming_calls : Crew → List Address → List Address → List ℕ → List Call
coming_calls crew dropped added numbers = Adopt ∷ (map CloseAt dropped ++ (map OpenAt added ++ staffing crew numbers))

---- What an upgrade is drawn of

abbrev pub old_image : Upgrade → ℕ
old_image u = u.old.crew.generation.image

abbrev pub new_image : Upgrade → ℕ
new_image u = u.new.crew.generation.image

-- the way back from a new master that can be stopped
abbrev pub way_back : Upgrade → Tree
way_back u = back_from (old_image u) (new_image u) u.old.crew u.old.numbers u.rounds u.path

-- the new master's part
abbrev pub coming_part : Upgrade → Tree
coming_part u = tries_all (new_image u) (coming_calls u.new.crew u.dropped.now u.added.now u.coming.now) (Ends JoinReady) (Ends JoinBack)

-- the old master's part
abbrev pub staying_part : Upgrade → Tree
staying_part u = old_part (old_image u) u.old.crew u.old.numbers u.rounds

-- What follows where the new master's part is ready.
abbrev pub taking_over : Upgrade → Tree
taking_over u =
    tries_all (new_image u) (pid_calls u.path WritePid)
    (tries (new_image u) (Census u.new.crew.generation) u.new.numbers
    (relieve u.attended (old_image u) u.old.crew u.new.crew u.old.numbers u.rounds u.path u.workers) (way_back u))
    (way_back u)

-- What comes before the parts, of which the mark stands for both.
abbrev pub beginning : Upgrade → Tree
beginning u =
    move_aside (old_image u) u.path u.note
    (does (old_image u) (SpawnMaster (new_image u)) (spawn_edges (Ends Split) (back_alone (old_image u) u.old.crew u.old.numbers u.rounds u.path)))
    (settle (old_image u) u.old.crew u.old.numbers Old u.rounds)

-- both parts and what follows them stand in a draft
pub record AreInPlace (d : Draft) (u : Upgrade) (parts : Parts) : Type 0 where
  pub new : IsMade d parts.new (coming_part u)
  pub old : IsMade d parts.old (staying_part u)
  pub ready : IsMade d parts.ready (taking_over u)
  pub back : IsMade d parts.back (way_back u)

-- An upgrade stands in a draft.
pub record IsDrawn (d : Draft) (u : Upgrade) (drawn : Drawn) : Type 0 where
  pub first : IsMade d drawn.first (beginning u)
  pub parts : AreInPlace d u drawn.parts
  pub splits : splits_in drawn.parts.new.0 drawn.parts.old.0 d ≡ true
