-- How many steps plans have.
--
-- Our own. By these the modelled kernel has room for each path of a plan before its first call.

use Rattle.std.specs.Prelude.{◌≡◌, ◌+◌, refl, ℕ, suc, max, Bool, true, false, List, [], Option}
use Rattle.vocabulary.specs.declared.plans.End.TheVariants.{Done, Split}
use Rattle.vocabulary.specs.declared.plans.Side.{Side}
use Rattle.vocabulary.specs.declared.plans.PidNote.{PidNote}
use Rattle.vocabulary.specs.declared.targets.Target.{Target}
use Rattle.vocabulary.specs.declared.targets.Target.TheVariants.{Upgrade, Attended}
use Rattle.worker_groups.specs.Crews.{Crew}
use Rattle.definitions.specs.Table.{Address, FilePath}
use Rattle.definitions.specs.Calls.{SpawnMaster}
use Rattle.definitions.specs.Master.{Record, addresses_of, crew_of}
use Rattle.definitions.specs.Run.{Tree, Branches, Ends, Does, Nothing, Branch}
use Rattle.definitions.specs.After.{crew_wanted}
use Rattle.definitions.specs.Plans.{plan_tree, settle, does, move_aside, new_part, old_part, taken_over, back_from}
use Rattle.call_laws.specs.Pieces.{spawn_edges}

-- The number of steps on the longest path.
abbrev mutual
  pub height : Tree → ℕ
  height (Ends end) = 0
  height (Does by order set branches) = suc (highest branches)

  pub highest : Branches → ℕ
  highest Nothing = 0
  highest (Branch replies said rest more) = max (height rest) (highest more)

-- The steps on its longest path: those before the parts, both parts, and the longer of what follows them.
abbrev pub upgrade_length :
    Bool → ℕ → Crew → Crew → List ℕ → ℕ → Option FilePath → PidNote → List Address → List Address → ℕ → ℕ
upgrade_length attended by old new ready retries path note held wanted n =
    let heir = new.generation.image in
    let back = back_from by heir old ready retries path in
    height (move_aside by path note (does by (SpawnMaster heir) (spawn_edges (Ends Split) (Ends Done))) (Ends Done))
    + height (new_part new held wanted n) + height (old_part by old ready retries)
    + max (height (taken_over attended by old new ready retries path n back)) (height back)

-- The steps on the longest path of a target's plan.
abbrev pub plan_length : Record → Target → ℕ
plan_length r (Upgrade s) =
    upgrade_length false r.generation.image (crew_of r) (crew_wanted r (Upgrade s)) r.ready r.retries r.pid_path r.note
    (addresses_of r) s.listeners s.workers
plan_length r (Attended s) =
    upgrade_length true r.generation.image (crew_of r) (crew_wanted r (Attended s)) r.ready r.retries r.pid_path r.note
    (addresses_of r) s.listeners s.workers
plan_length r target = height (plan_tree r target [])

---- An example: a settle with one round makes five calls at most: count, fork, wait, kill, count

example : (by : ℕ) (crew : Crew) (set : List ℕ) (side : Side) → height (settle by crew set side 1) ≡ 5
example by crew set side = refl
