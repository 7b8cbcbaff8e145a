-- No path of an upgrade's plan is longer than its four stretches together, under any turns.
use Rattle.std.proofs.Common.{◌+◌, ◌≤◌, arith, Bool, true, false, List, ℕ, suc, [], ◌∷◌, Option, Some, None}
use Rattle.std.specs.Prelude.{max}
use Rattle.vocabulary.specs.declared.targets.Target.TheVariants.{Workers, Mend, Reopen, Reload, Upgrade, Attended, Stop}
use Rattle.vocabulary.specs.declared.plans.PidNote.{PidNote}
use Rattle.vocabulary.specs.declared.plans.PidNote.TheVariants.{InPlace, AtOldbin, OldbinLeft, Left, NoFile}
use Rattle.vocabulary.specs.declared.plans.Side.TheVariants.{Old}
use Rattle.vocabulary.specs.declared.plans.Turn.{Turn}
use Rattle.vocabulary.specs.declared.plans.Turn.TheVariants as turn
use Rattle.definitions.specs.Table.{Address, FilePath}
use Rattle.definitions.specs.Master.{Crew, addresses_of, crew_of}
use Rattle.definitions.specs.Run.{Tree, Branches, Ends, Does, Nothing, Branch, End, Done, RolledBack, ShortOld}
use Rattle.definitions.specs.Run.{ShortTarget, Split, JoinReady, JoinBack, Join}
use Rattle.call_laws.specs.Lengths.{height, highest}
use Rattle.definitions.specs.Plans.{graft, graft_all, joined, beside, beside_all, weave, weave_all, does, taken_over}
use Rattle.definitions.specs.Plans.{new_part, old_part, move_aside, move_back, back_alone, back_from, settle}
use Rattle.definitions.specs.Plans.{upgrade_tree}
use Rattle.definitions.specs.Calls.{SpawnMaster}
use Rattle.definitions.specs.After.{crew_wanted}
use Rattle.call_laws.specs.Pieces.{spawn_edges}
use Rattle.call_laws.specs.Lengths.{upgrade_length}
use Rattle.run_laws.specs.Lengths.{PlansFit}

mutual
  graft-height : (then : End → Tree) (m : ℕ) → ((e : End) → height (then e) ≤ m) → (t : Tree) → height (graft then t) ≤ height t + m
  graft-height then m le (Ends end) = omega (arith, le end)
  graft-height then m le (Does by order set branches) = omega (arith, graft-highest then m le branches)

  graft-highest : (then : End → Tree) (m : ℕ) → ((e : End) → height (then e) ≤ m) → (bs : Branches) → highest (graft_all then bs) ≤ highest bs + m
  graft-highest then m le Nothing = omega arith
  graft-highest then m le (Branch replies said rest more) = omega (arith, graft-height then m le rest, graft-highest then m le more)

mutual
  beside-height :
      (goes : List Turn → Tree → Tree) (a m : ℕ) →
      ((turns : List Turn) (old : Tree) → height (goes turns old) ≤ a + height old + m) →
      (turns : List Turn) (old : Tree) → height (beside goes turns old) ≤ a + height old + m
  beside-height goes a m le turns (Ends end) = le turns (Ends end)
  beside-height goes a m le [] (Does by order set branches) = le [] (Does by order set branches)
  beside-height goes a m le (turn.New ∷ turns) (Does by order set branches) = le turns (Does by order set branches)
  beside-height goes a m le (turn.Old ∷ turns) (Does by order set branches) = omega (arith, beside-highest goes a m le turns branches)

  beside-highest :
      (goes : List Turn → Tree → Tree) (a m : ℕ) →
      ((turns : List Turn) (old : Tree) → height (goes turns old) ≤ a + height old + m) →
      (turns : List Turn) (bs : Branches) → highest (beside_all goes turns bs) ≤ a + highest bs + m
  beside-highest goes a m le turns Nothing = omega arith
  beside-highest goes a m le turns (Branch replies said rest more) = omega (arith, beside-height goes a m le turns rest, beside-highest goes a m le turns more)

mutual
  pub weave-height :
      (join : End → Tree) (m : ℕ) → ((e : End) → height (join e) ≤ m) → (new : Tree) (turns : List Turn) (old : Tree) →
      height (weave join new turns old) ≤ height new + height old + m
  weave-height join m le (Ends end) turns old = omega (arith, graft-height (λ e. join end) m (λ e. le end) old)
  weave-height join m le (Does by order set branches) turns old =
      beside-height (λ later still. Does by order set (weave_all join branches later still)) (suc (highest branches)) m
      (λ later still. omega (arith, weave-highest join m le branches later still)) turns old

  weave-highest :
      (join : End → Tree) (m : ℕ) → ((e : End) → height (join e) ≤ m) →
      (bs : Branches) (turns : List Turn) (old : Tree) →
      highest (weave_all join bs turns old) ≤ highest bs + height old + m
  weave-highest join m le Nothing turns old = omega arith
  weave-highest join m le (Branch replies said rest more) turns old =
      omega (arith, weave-height join m le rest turns old, weave-highest join m le more turns old)

joined-height : (ready back : Tree) (e : End) → height (joined ready back e) ≤ max (height ready) (height back)
joined-height ready back Done = omega arith
joined-height ready back RolledBack = omega arith
joined-height ready back ShortOld = omega arith
joined-height ready back ShortTarget = omega arith
joined-height ready back Split = omega arith
joined-height ready back JoinReady = omega arith
joined-height ready back JoinBack = omega arith
joined-height ready back Join = omega arith

back-height : (by : ℕ) (path : Option FilePath) (rest : Tree) → height rest ≤ height (move_back by path rest)
back-height by None rest = omega arith
back-height by (Some path) rest = omega arith

-- what comes before the parts
aside-height :
    (by image : ℕ) (path : Option FilePath) (note : PidNote) (both alone bad : Tree) (n k m : ℕ) →
    height both ≤ n + k + m → height alone ≤ m → height bad ≤ m →
    height (move_aside by path note (does by (SpawnMaster image) (spawn_edges both alone)) bad) ≤ height
    (move_aside by path note (does by (SpawnMaster image) (spawn_edges (Ends Split) (Ends Done))) (Ends Done)) + n + k +
    m
aside-height by image None note both alone bad n k m a b c = omega (arith, a, b)
aside-height by image (Some path) AtOldbin both alone bad n k m a b c = omega (arith, a, b)
aside-height by image (Some path) InPlace both alone bad n k m a b c = omega (arith, a, b, c)
aside-height by image (Some path) OldbinLeft both alone bad n k m a b c = omega (arith, a, b, c)
aside-height by image (Some path) Left both alone bad n k m a b c = omega (arith, a, b, c)
aside-height by image (Some path) NoFile both alone bad n k m a b c = omega (arith, a, b, c)

upgrade-fits :
    (attended : Bool) (by : ℕ) (old new : Crew) (held : List ℕ) (retries : ℕ) (path : Option FilePath) (note : PidNote)
    (had wanted : List Address) (n : ℕ) (turns : List Turn) →
    height (upgrade_tree attended by old new held retries path note had wanted n turns) ≤ upgrade_length attended by old new held retries path note had wanted n
upgrade-fits attended by old new held retries path note had wanted n turns =
    let heir = new.generation.image in
    let back = back_from by heir old held retries path in
    let ready = taken_over attended by old new held retries path n back in
    let first = new_part new had wanted n in
    let second = old_part by old held retries in
    let most = max (height ready) (height back) in
    let alone = back_alone by old held retries path in
    let bad = settle by old held Old retries in
    let low : height bad ≤ height alone = back-height by path bad in
    let woven = weave-height (joined ready back) most (joined-height ready back) first turns second in
    aside-height by heir path note (weave (joined ready back) first turns second) alone bad (height first)
    (height second) most woven (omega (arith)) (omega (arith, low))

pub plans-fit : PlansFit
plans-fit r (Workers n) turns = omega arith
plans-fit r (Mend overdue) turns = omega arith
plans-fit r Reopen turns = omega arith
plans-fit r (Reload s) turns = omega arith
plans-fit r (Stop quick) turns = omega arith
plans-fit r (Upgrade s) turns =
    upgrade-fits false r.generation.image (crew_of r) (crew_wanted r (Upgrade s)) r.ready r.retries r.pid_path r.note
    (addresses_of r) s.listeners s.workers turns
plans-fit r (Attended s) turns =
    upgrade-fits true r.generation.image (crew_of r) (crew_wanted r (Attended s)) r.ready r.retries r.pid_path r.note
    (addresses_of r) s.listeners s.workers turns
