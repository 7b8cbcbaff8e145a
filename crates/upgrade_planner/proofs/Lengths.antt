-- How long the plan of an upgrade is, and which tree it is: what stands where its parts begin.
use Rattle.std.proofs.Common.{◌≡◌, ℕ, ◌-◌, ◌<◌, ◌≤◌, max, true, List, Option, Some, None, refl, ◌∙◌, ap, arith}
use Rattle.std.proofs.lemmas.Bool.{and_parts}
use Rattle.definitions.specs.Table.{FilePath}
use Rattle.definitions.specs.Calls.{SpawnMaster}
use Rattle.definitions.specs.Master.{Crew}
use Rattle.vocabulary.specs.declared.plans.Side.TheVariants.{Old}
use Rattle.vocabulary.specs.declared.plans.PidNote.{PidNote}
use Rattle.vocabulary.specs.declared.plans.PidNote.TheVariants.{InPlace, AtOldbin, OldbinLeft, Left, NoFile}
use Rattle.vocabulary.specs.declared.plans.End.{End}
use Rattle.definitions.specs.Run.{Tree, Branches, Ends, Does, Nothing, Branch, Done, RolledBack, ShortOld, ShortTarget, Split, JoinReady, JoinBack, Join}
use Rattle.call_laws.specs.Lengths.{height}
use Rattle.definitions.specs.Plans.{graft, graft_all, back_alone, back_from, does, move_aside, settle}
use Rattle.call_laws.specs.Pieces.{spawn_edges}
use Rattle.plan_steps.specs.Stretches.{ends_at, all_end_at, has_some, is_last, split_end, to_split, farthest, one_more, aside, asides, beside_height}
use Rattle.upgrade_planner.proofs.Endings.{IsLast, alone_last, undone_last}

---- Trees without marks

end_unsplit : (e : End) → is_last e ≡ true → split_end e ≡ 0
end_unsplit Done h = refl
end_unsplit RolledBack h = refl
end_unsplit ShortOld h = refl
end_unsplit ShortTarget h = refl
end_unsplit Split h = cc
end_unsplit JoinReady h = refl
end_unsplit JoinBack h = refl
end_unsplit Join h = refl

mutual
  -- none leads to the parts
  unsplit : (t : Tree) → IsLast t → to_split t ≡ 0
  unsplit (Ends end) h = end_unsplit end h
  unsplit (Does by order set bs) h = ap one_more (all_unsplit bs (and_parts (has_some bs) (all_end_at is_last bs) h).1)

  all_unsplit : (bs : Branches) → all_end_at is_last bs ≡ true → farthest bs ≡ 0
  all_unsplit Nothing h = refl
  all_unsplit (Branch replies said rest more) h =
      let parts = and_parts (ends_at is_last rest) (all_end_at is_last more) h in
      omega (arith, unsplit rest parts.0, all_unsplit more parts.1)

-- each lies aside as a whole
aside_whole : (t : Tree) → IsLast t → aside t ≡ height t
aside_whole (Ends end) h = refl
aside_whole (Does by order set bs) h = ap (λ n. beside_height (one_more n) (height (Does by order set bs)) (asides bs)) (all_unsplit bs (and_parts (has_some bs) (all_end_at is_last bs) h).1)

mutual
  -- what gives way to marks alone leaves it
  pub stays : (then : End → Tree) → ((e : End) → is_last e ≡ true → then e ≡ Ends e) → (t : Tree) → IsLast t → graft then t ≡ t
  stays then same (Ends end) h = same end h
  stays then same (Does by order set bs) h = ap (Does by order set) (all_stay then same bs (and_parts (has_some bs) (all_end_at is_last bs) h).1)

  all_stay : (then : End → Tree) → ((e : End) → is_last e ≡ true → then e ≡ Ends e) → (bs : Branches) → all_end_at is_last bs ≡ true → graft_all then bs ≡ bs
  all_stay then same Nothing h = refl
  all_stay then same (Branch replies said rest more) h =
      let parts = and_parts (ends_at is_last rest) (all_end_at is_last more) h in
      ap (λ t. Branch replies said t (graft_all then more)) (stays then same rest parts.0) ∙ ap (Branch replies said rest) (all_stay then same more parts.1)

---- What comes before the parts

-- the start of the new master, before the mark and with a way back
abbrev pub spawning : ℕ → ℕ → Tree → Tree → Tree
spawning by image ok bad = does by (SpawnMaster image) (spawn_edges ok bad)

-- up to the parts it has as many steps as where nothing else follows
split_is : (by image : ℕ) (path : Option FilePath) (note : PidNote) (alone bad : Tree) → to_split alone ≡ 0 → to_split bad ≡ 0
    → to_split (move_aside by path note (spawning by image (Ends Split) alone) bad) - 1
    ≡ height (move_aside by path note (spawning by image (Ends Split) (Ends Done)) (Ends Done))
split_is by image None note alone bad a b = rw a refl
split_is by image (Some path) AtOldbin alone bad a b = rw a refl
split_is by image (Some path) InPlace alone bad a b = rw (a, b) refl
split_is by image (Some path) OldbinLeft alone bad a b = rw (a, b) refl
split_is by image (Some path) Left alone bad a b = rw (a, b) refl
split_is by image (Some path) NoFile alone bad a b = rw (a, b) refl

-- it leads to the parts
leads_on : (by image : ℕ) (path : Option FilePath) (note : PidNote) (alone bad : Tree) → to_split alone ≡ 0 →
    to_split bad ≡ 0 → 0 < to_split (move_aside by path note (spawning by image (Ends Split) alone) bad)
leads_on by image None note alone bad a b = rw a (omega arith)
leads_on by image (Some path) AtOldbin alone bad a b = rw a (omega arith)
leads_on by image (Some path) InPlace alone bad a b = rw (a, b) (omega arith)
leads_on by image (Some path) OldbinLeft alone bad a b = rw (a, b) (omega arith)
leads_on by image (Some path) Left alone bad a b = rw (a, b) (omega arith)
leads_on by image (Some path) NoFile alone bad a b = rw (a, b) (omega arith)

-- what lies aside is no higher than the ways back
aside_low : (by image : ℕ) (path : Option FilePath) (note : PidNote) (alone bad : Tree) → to_split alone ≡ 0 →
    to_split bad ≡ 0 → aside alone ≡ height alone → aside bad ≡ height bad
    → aside (move_aside by path note (spawning by image (Ends Split) alone) bad) ≤ max (height alone) (height bad)
aside_low by image None note alone bad a b h e = rw (a, h) (omega arith)
aside_low by image (Some path) AtOldbin alone bad a b h e = rw (a, h) (omega arith)
aside_low by image (Some path) InPlace alone bad a b h e = rw (a, b, h, e) (omega arith)
aside_low by image (Some path) OldbinLeft alone bad a b h e = rw (a, b, h, e) (omega arith)
aside_low by image (Some path) Left alone bad a b h e = rw (a, b, h, e) (omega arith)
aside_low by image (Some path) NoFile alone bad a b h e = rw (a, b, h, e) (omega arith)

undone_low : (by : ℕ) (crew : Crew) (ready : List ℕ) (rounds : ℕ) (path : Option FilePath) →
    height (settle by crew ready Old rounds) ≤ height (back_alone by crew ready rounds path)
undone_low by crew ready rounds None = omega arith
undone_low by crew ready rounds (Some path) = omega arith

---- The beginning of an upgrade

-- what an upgrade does before its parts
abbrev pub begun : ℕ → ℕ → Crew → List ℕ → ℕ → Option FilePath → PidNote → Tree
begun by image crew ready rounds path note = move_aside by path note (spawning by image (Ends Split) (back_alone by crew ready rounds path)) (settle by crew ready Old rounds)

pub begun_leads : (by image : ℕ) (crew : Crew) (ready : List ℕ) (rounds : ℕ) (path : Option FilePath) (note : PidNote) →
    0 < to_split (begun by image crew ready rounds path note)
begun_leads by image crew ready rounds path note =
    let alone = back_alone by crew ready rounds path in
    let bad = settle by crew ready Old rounds in
    leads_on by image path note alone bad (unsplit alone (alone_last by crew ready rounds path)) (unsplit bad (undone_last by crew ready rounds))

pub begun_split : (by image : ℕ) (crew : Crew) (ready : List ℕ) (rounds : ℕ) (path : Option FilePath) (note : PidNote)
    → to_split (begun by image crew ready rounds path note) - 1 ≡ height (move_aside by path note (spawning by image (Ends Split) (Ends Done)) (Ends Done))
begun_split by image crew ready rounds path note =
    let alone = back_alone by crew ready rounds path in
    let bad = settle by crew ready Old rounds in
    split_is by image path note alone bad (unsplit alone (alone_last by crew ready rounds path)) (unsplit bad (undone_last by crew ready rounds))

pub begun_aside : (by image : ℕ) (crew : Crew) (ready : List ℕ) (rounds : ℕ) (path : Option FilePath) (note : PidNote)
    → aside (begun by image crew ready rounds path note) ≤ height (back_from by image crew ready rounds path)
begun_aside by image crew ready rounds path note =
    let alone = back_alone by crew ready rounds path in
    let bad = settle by crew ready Old rounds in
    let a = alone_last by crew ready rounds path in
    let b = undone_last by crew ready rounds in
    omega (arith, aside_low by image path note alone bad (unsplit alone a) (unsplit bad b) (aside_whole alone a) (aside_whole bad b), undone_low by crew ready rounds path)

-- where the mark gives way, the parts stand
pub begun_grafted : (then : End → Tree) → ((e : End) → is_last e ≡ true → then e ≡ Ends e) →
    (by image : ℕ) (crew : Crew) (ready : List ℕ) (rounds : ℕ) (path : Option FilePath) (note : PidNote)
    → graft then (begun by image crew ready rounds path note)
    ≡ move_aside by path note (spawning by image (then Split) (back_alone by crew ready rounds path))
    (settle by crew ready Old rounds)
begun_grafted then same by image crew ready rounds path note =
    grafted note path (stays then same (back_alone by crew ready rounds path) (alone_last by crew ready rounds path)) (stays then same bad (undone_last by crew ready rounds))
  where
    alone : Tree
    alone = back_alone by crew ready rounds path

    bad : Tree
    bad = settle by crew ready Old rounds

    grafted : (note : PidNote) (p : Option FilePath) → graft then alone ≡ alone → graft then bad ≡ bad
        → graft then (move_aside by p note (spawning by image (Ends Split) alone) bad) ≡ move_aside by p note (spawning by image (then Split) alone) bad
    grafted note None a b = ap (λ t. spawning by image (then Split) t) a
    grafted AtOldbin (Some p) a b = ap (λ t. spawning by image (then Split) t) a
    grafted InPlace (Some p) a b = rw (a, b) refl
    grafted OldbinLeft (Some p) a b = rw (a, b) refl
    grafted Left (Some p) a b = rw (a, b) refl
    grafted NoFile (Some p) a b = rw (a, b) refl
