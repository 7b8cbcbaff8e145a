-- Where the trees of an upgrade end: each part at its own marks, and what comes before and behind them as plans do.
use Rattle.std.proofs.Common.{◌≡◌, ℕ, zero, suc, Bool, true, false, List, [], ◌∷◌, Option, Some, None, reverse, refl}
use Rattle.std.proofs.lemmas.Bool.{and_parts, and_from}
use Rattle.listener_set.specs.Numbers.{numbers_below}
use Rattle.listener_set.specs.declared.generation.Generation.{Generation}
use Rattle.definitions.specs.Table.{FilePath}
use Rattle.definitions.specs.Calls.{Call, SpawnMaster}
use Rattle.definitions.specs.Master.{Crew}
use Rattle.vocabulary.specs.declared.plans.Side.{Side}
use Rattle.vocabulary.specs.declared.plans.Side.TheVariants.{Old, Target}
use Rattle.vocabulary.specs.declared.plans.PidNote.{PidNote}
use Rattle.vocabulary.specs.declared.plans.PidNote.TheVariants.{InPlace, AtOldbin, OldbinLeft, Left, NoFile}
use Rattle.vocabulary.specs.declared.plans.End.{End}
use Rattle.definitions.specs.Run.{Tree, Branches, Ends, Does, Nothing, Branch, Split}
use Rattle.definitions.specs.Plans.{asks, awaits_any, awaits_gone, back_alone, back_from, back_late, back_serving, does}
use Rattle.definitions.specs.Plans.{forks_any, hand_over, move_aside, move_back, old_part, relieve, remove_oldbin}
use Rattle.definitions.specs.Plans.{retire, settle, starts_any, tries, tries_all}
use Rattle.call_laws.specs.Pieces.{quits, spawn_edges}
use Rattle.plan_steps.specs.Stretches.{ends_at, all_end_at, has_some, is_last, is_onward, ends_old}
use Rattle.plan_steps.proofs.Endings.{last_onward}

-- a tree without marks
abbrev pub IsLast : Tree → Type 0
IsLast tree = ends_at is_last tree ≡ true

---- Pieces

settle_last : (by : ℕ) (crew : Crew) (set : List ℕ) (side : Side) (rounds : ℕ) → IsLast (settle by crew set side rounds)
settle_last by crew set Old zero = refl
settle_last by crew set Target zero = refl
settle_last by crew set Old (suc rounds) = let h = settle_last by crew set Old rounds in rw h refl
settle_last by crew set Target (suc rounds) = let h = settle_last by crew set Target rounds in rw h refl

quits_last : (by : ℕ) (g : Generation) (ks : List ℕ) (rest : Tree) → IsLast rest → IsLast (quits by g ks rest)
quits_last by g [] rest h = h
quits_last by g (k ∷ ks) rest h = let tail = quits_last by g ks rest h in rw tail refl

awaits_gone_last : (by : ℕ) (g : Generation) (ks : List ℕ) (rest : Tree) → IsLast rest → IsLast (awaits_gone by g ks rest)
awaits_gone_last by g [] rest h = h
awaits_gone_last by g (k ∷ ks) rest h = let tail = awaits_gone_last by g ks rest h in rw tail refl

awaits_any_last : (by : ℕ) (g : Generation) (ks : List ℕ) (rest : Tree) → IsLast rest → IsLast (awaits_any by g ks rest)
awaits_any_last by g [] rest h = h
awaits_any_last by g (k ∷ ks) rest h = let tail = awaits_any_last by g ks rest h in rw tail refl

forks_any_last : (by : ℕ) (crew : Crew) (ks : List ℕ) (rest : Tree) → IsLast rest → IsLast (forks_any by crew ks rest)
forks_any_last by crew [] rest h = h
forks_any_last by crew (k ∷ ks) rest h = let tail = forks_any_last by crew ks rest h in rw tail refl

starts_any_last : (by : ℕ) (crew : Crew) (ks : List ℕ) (rest : Tree) → IsLast rest → IsLast (starts_any by crew ks rest)
starts_any_last by crew ks rest h = forks_any_last by crew ks (awaits_any by crew.generation ks rest) (awaits_any_last by crew.generation ks rest h)

asks_last : (attended : Bool) (by question : ℕ) (on_go on_back : Tree) → IsLast on_go → IsLast on_back → IsLast (asks attended by question on_go on_back)
asks_last true by question on_go on_back h e = rw (h, e) refl
asks_last false by question on_go on_back h e = h

-- calls that are tried end where the rest and the way back do
pub tries_end : (test : End → Bool) (by : ℕ) (call : Call) (set : List ℕ) (rest back : Tree) →
    ends_at test rest ≡ true → ends_at test back ≡ true → ends_at test (tries by call set rest back) ≡ true
tries_end test by call set rest back h e = rw (h, e) refl

pub tries_all_end : (test : End → Bool) (by : ℕ) (calls : List Call) (rest back : Tree) → ends_at test rest ≡ true →
    ends_at test back ≡ true → ends_at test (tries_all by calls rest back) ≡ true
tries_all_end test by [] rest back h e = h
tries_all_end test by (call ∷ calls) rest back h e = tries_end test by call [] (tries_all by calls rest back) back (tries_all_end test by calls rest back h e) e

---- Ways back

move_back_last : (by : ℕ) (path : Option FilePath) (rest : Tree) → IsLast rest → IsLast (move_back by path rest)
move_back_last by None rest h = h
move_back_last by (Some path) rest h = rw h refl

pub alone_last : (by : ℕ) (crew : Crew) (ready : List ℕ) (rounds : ℕ) (path : Option FilePath) → IsLast (back_alone by crew ready rounds path)
alone_last by crew ready rounds path = move_back_last by path (settle by crew ready Old rounds) (settle_last by crew ready Old rounds)

pub from_last : (by heir : ℕ) (crew : Crew) (ready : List ℕ) (rounds : ℕ) (path : Option FilePath) → IsLast (back_from by heir crew ready rounds path)
from_last by heir crew ready rounds path = let h = alone_last by crew ready rounds path in rw h refl

late_last : (by heir : ℕ) (crew : Crew) (ready : List ℕ) (rounds : ℕ) (path : Option FilePath) → IsLast (back_late by heir crew ready rounds path)
late_last by heir crew ready rounds path = let h = starts_any_last by crew ready (back_alone by crew ready rounds path) (alone_last by crew ready rounds path) in rw h refl

serving_last : (by heir : ℕ) (crew : Crew) (ready : List ℕ) (rounds : ℕ) (path : Option FilePath) → IsLast (back_serving by heir crew ready rounds path)
serving_last by heir crew ready rounds path = starts_any_last by crew ready (back_from by heir crew ready rounds path) (from_last by heir crew ready rounds path)

---- On

remove_oldbin_last : (by : ℕ) (path : Option FilePath) (rest : Tree) → IsLast rest → IsLast (remove_oldbin by path rest)
remove_oldbin_last by None rest h = h
remove_oldbin_last by (Some path) rest h = rw h refl

hand_over_last : (by : ℕ) (new : Crew) (rounds : ℕ) (path : Option FilePath) (n : ℕ) → IsLast (hand_over by new rounds path n)
hand_over_last by new rounds path n =
    let heir = new.generation.image in
    let h = remove_oldbin_last heir path (settle heir new (numbers_below n) Target rounds) (settle_last heir new (numbers_below n) Target rounds) in
    rw h refl

retire_last : (by : ℕ) (old new : Crew) (ready : List ℕ) (rounds : ℕ) (path : Option FilePath) (n : ℕ) → IsLast (retire by old new ready rounds path n)
retire_last by old new ready rounds path n = let h = hand_over_last by new rounds path n in let e = late_last by new.generation.image old ready rounds path in rw (h, e) refl

pub relieve_last : (attended : Bool) (by : ℕ) (old new : Crew) (ready : List ℕ) (rounds : ℕ) (path : Option FilePath)
    (n : ℕ) → IsLast (relieve attended by old new ready rounds path n)
relieve_last attended by old new ready rounds path n =
    let g = old.generation in
    let heir = new.generation.image in
    let last = asks attended by 2 (retire by old new ready rounds path n) (back_serving by heir old ready rounds path) in
    let h = asks_last attended by 2 _ _ (retire_last by old new ready rounds path n) (serving_last by heir old ready rounds path) in
    asks_last attended by 1 _ _ (quits_last by g (reverse ready) (awaits_gone by g (reverse ready) last) (awaits_gone_last by g (reverse ready) last h)) (from_last by heir old ready rounds path)

---- The old part

pub old_part_end : (by : ℕ) (crew : Crew) (ready : List ℕ) (rounds : ℕ) → ends_at ends_old (old_part by crew ready rounds) ≡ true
old_part_end by crew ready zero = refl
old_part_end by crew ready (suc rounds) = let h = old_part_end by crew ready rounds in rw h refl

---- What comes before the parts

mutual
  onward : (t : Tree) → IsLast t → ends_at is_onward t ≡ true
  onward (Ends end) h = last_onward end h
  onward (Does by order set bs) h =
      let parts = and_parts (has_some bs) (all_end_at is_last bs) h in
      and_from (has_some bs) (all_end_at is_onward bs) parts.0 (all_onward bs parts.1)

  all_onward : (bs : Branches) → all_end_at is_last bs ≡ true → all_end_at is_onward bs ≡ true
  all_onward Nothing h = refl
  all_onward (Branch replies said rest more) h =
      let parts = and_parts (ends_at is_last rest) (all_end_at is_last more) h in
      and_from (ends_at is_onward rest) (all_end_at is_onward more) (onward rest parts.0) (all_onward more parts.1)

spawn_onward : (by image : ℕ) (alone : Tree) → ends_at is_onward alone ≡ true →
    ends_at is_onward (does by (SpawnMaster image) (spawn_edges (Ends Split) alone)) ≡ true
spawn_onward by image alone h = rw h refl

move_aside_onward : (by : ℕ) (path : Option FilePath) (note : PidNote) (ok bad : Tree) → ends_at is_onward ok ≡ true →
    ends_at is_onward bad ≡ true → ends_at is_onward (move_aside by path note ok bad) ≡ true
move_aside_onward by None note ok bad h e = h
move_aside_onward by (Some path) AtOldbin ok bad h e = h
move_aside_onward by (Some path) InPlace ok bad h e = rw (h, e) refl
move_aside_onward by (Some path) OldbinLeft ok bad h e = rw (h, e) refl
move_aside_onward by (Some path) Left ok bad h e = rw (h, e) refl
move_aside_onward by (Some path) NoFile ok bad h e = rw (h, e) refl

pub beginning_onward : (by image : ℕ) (crew : Crew) (ready : List ℕ) (rounds : ℕ) (path : Option FilePath) (note : PidNote)
    → ends_at is_onward (move_aside by path note
    (does by (SpawnMaster image) (spawn_edges (Ends Split) (back_alone by crew ready rounds path)))
    (settle by crew ready Old rounds)) ≡ true
beginning_onward by image crew ready rounds path note =
    move_aside_onward by path note _ (settle by crew ready Old rounds) (spawn_onward by image (back_alone by crew ready rounds path) (onward (back_alone by crew ready rounds path) (alone_last by crew ready rounds path))) (onward (settle by crew ready Old rounds) (settle_last by crew ready Old rounds))

pub undone_last : (by : ℕ) (crew : Crew) (ready : List ℕ) (rounds : ℕ) → IsLast (settle by crew ready Old rounds)
undone_last by crew ready rounds = settle_last by crew ready Old rounds
