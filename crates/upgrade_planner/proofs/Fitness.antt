-- The plan of an upgrade can be run: each step has an edge for each reply, and a worker is named only after a short census.
use Rattle.std.proofs.Common.{ℕ, zero, suc, Bool, true, false, List, Option, Some, None, reverse, refl}
use Rattle.listener_set.specs.Numbers.{numbers_below}
use Rattle.definitions.specs.Table.{FilePath}
use Rattle.definitions.specs.Calls.{Census, SpawnMaster, WritePid}
use Rattle.definitions.specs.Master.{Crew, oldbin}
use Rattle.vocabulary.specs.declared.plans.Side.TheVariants.{Old, Target}
use Rattle.vocabulary.specs.declared.plans.PidNote.{PidNote}
use Rattle.vocabulary.specs.declared.plans.PidNote.TheVariants.{InPlace, AtOldbin, OldbinLeft, Left, NoFile}
use Rattle.definitions.specs.Run.{Tree, Ends, Split, JoinReady, JoinBack}
use Rattle.definitions.specs.Plans.{asks, back_serving, retire, does, settle, move_back, move_aside, remove_oldbin}
use Rattle.definitions.specs.Plans.{back_alone, back_from, back_late, hand_over, old_part, pid_calls, relieve}
use Rattle.call_laws.specs.Pieces.{spawn_edges}
use Rattle.plan_pieces.proofs.Fitness.{settle_fit, quits_fit, awaits_gone_fit, remove_fit, starts_any_fit}
use Rattle.plan_pieces.proofs.TriedFitness.{IsFit, move_fit, tries_fit, tries_all_fit}
use Rattle.upgrade_planner.specs.Trees.{old_image, new_image, way_back, coming_calls, coming_part, taking_over}
use Rattle.upgrade_planner.specs.declared.upgrade.Upgrade.{Upgrade}

---- Ways back

move_back_fit : (by : ℕ) (path : Option FilePath) (rest : Tree) → IsFit rest → IsFit (move_back by path rest)
move_back_fit by None rest h = h
move_back_fit by (Some path) rest h = move_fit by (oldbin path) path (Some InPlace) (Some AtOldbin) rest h

alone_fit : (by : ℕ) (crew : Crew) (ready : List ℕ) (rounds : ℕ) (path : Option FilePath) → IsFit (back_alone by crew ready rounds path)
alone_fit by crew ready rounds path = move_back_fit by path (settle by crew ready Old rounds) (λ short. settle_fit by crew ready Old rounds short)

pub from_fit : (by heir : ℕ) (crew : Crew) (ready : List ℕ) (rounds : ℕ) (path : Option FilePath) → IsFit (back_from by heir crew ready rounds path)
from_fit by heir crew ready rounds path short = rw (alone_fit by crew ready rounds path short) refl

late_fit : (by heir : ℕ) (crew : Crew) (ready : List ℕ) (rounds : ℕ) (path : Option FilePath) → IsFit (back_late by heir crew ready rounds path)
late_fit by heir crew ready rounds path short = rw (starts_any_fit by crew ready (back_alone by crew ready rounds path) short (alone_fit by crew ready rounds path short)) refl

---- On

remove_oldbin_fit : (by : ℕ) (path : Option FilePath) (rest : Tree) → IsFit rest → IsFit (remove_oldbin by path rest)
remove_oldbin_fit by None rest h = h
remove_oldbin_fit by (Some path) rest h = λ short. remove_fit by (oldbin path) (Some InPlace) (Some OldbinLeft) rest short (h short)

hand_over_fit : (by : ℕ) (new : Crew) (rounds : ℕ) (path : Option FilePath) (n : ℕ) → IsFit (hand_over by new rounds path n)
hand_over_fit by new rounds path n short =
    let heir = new.generation.image in
    rw (remove_oldbin_fit heir path _ (λ s. settle_fit heir new (numbers_below n) Target rounds s) short) refl

retire_fit : (by : ℕ) (old new : Crew) (ready : List ℕ) (rounds : ℕ) (path : Option FilePath) (n : ℕ) → IsFit (retire by old new ready rounds path n)
retire_fit by old new ready rounds path n short = rw (hand_over_fit by new rounds path n short, late_fit by new.generation.image old ready rounds path short) refl

serving_fit : (by heir : ℕ) (crew : Crew) (ready : List ℕ) (rounds : ℕ) (path : Option FilePath) → IsFit (back_serving by heir crew ready rounds path)
serving_fit by heir crew ready rounds path short = starts_any_fit by crew ready (back_from by heir crew ready rounds path) short (from_fit by heir crew ready rounds path short)

asks_fit : (attended : Bool) (by question : ℕ) (on_go on_back : Tree) → IsFit on_go → IsFit on_back → IsFit (asks attended by question on_go on_back)
asks_fit true by question on_go on_back h e short = rw (h short, e short) refl
asks_fit false by question on_go on_back h e short = h short

relieve_fit : (attended : Bool) (by : ℕ) (old new : Crew) (ready : List ℕ) (rounds : ℕ) (path : Option FilePath)
    (n : ℕ) → IsFit (relieve attended by old new ready rounds path n)
relieve_fit attended by old new ready rounds path n =
    let g = old.generation in
    let heir = new.generation.image in
    let last = asks attended by 2 (retire by old new ready rounds path n) (back_serving by heir old ready rounds path) in
    let is_last = asks_fit attended by 2 _ _ (retire_fit by old new ready rounds path n) (serving_fit by heir old ready rounds path) in
    asks_fit attended by 1 _ _ (λ short. quits_fit by g (reverse ready) _ short (awaits_gone_fit by g (reverse ready) last short (is_last short))) (from_fit by heir old ready rounds path)

---- The whole

spawn_fit : (by image : ℕ) (ok bad : Tree) → IsFit ok → IsFit bad → IsFit (does by (SpawnMaster image) (spawn_edges ok bad))
spawn_fit by image ok bad h e short = rw (h short, e short) refl

move_aside_fit : (by : ℕ) (path : Option FilePath) (note : PidNote) (ok bad : Tree) → IsFit ok → IsFit bad → IsFit (move_aside by path note ok bad)
move_aside_fit by None note ok bad h e = h
move_aside_fit by (Some path) AtOldbin ok bad h e = h
move_aside_fit by (Some path) InPlace ok bad h e = λ short. rw (h short, e short) refl
move_aside_fit by (Some path) OldbinLeft ok bad h e = λ short. rw (h short, e short) refl
move_aside_fit by (Some path) Left ok bad h e = λ short. rw (h short, e short) refl
move_aside_fit by (Some path) NoFile ok bad h e = λ short. rw (h short, e short) refl

pub beginning_fit : (by image : ℕ) (crew : Crew) (ready : List ℕ) (rounds : ℕ) (path : Option FilePath) (note : PidNote)
    → IsFit (move_aside by path note
    (does by (SpawnMaster image) (spawn_edges (Ends Split) (back_alone by crew ready rounds path)))
    (settle by crew ready Old rounds))
beginning_fit by image crew ready rounds path note =
    move_aside_fit by path note _ (settle by crew ready Old rounds)
    (spawn_fit by image (Ends Split) (back_alone by crew ready rounds path) (λ short. refl) (alone_fit by crew ready rounds path))
    (λ short. settle_fit by crew ready Old rounds short)

pub coming_fit : (u : Upgrade) → IsFit (coming_part u)
coming_fit u = tries_all_fit (new_image u) (coming_calls u.new.crew u.dropped.now u.added.now u.coming.now) (Ends JoinReady) (Ends JoinBack) (λ short. refl) (λ short. refl)

pub old_part_fit : (by : ℕ) (crew : Crew) (ready : List ℕ) (rounds : ℕ) → IsFit (old_part by crew ready rounds)
old_part_fit by crew ready zero true = refl
old_part_fit by crew ready zero false = refl
old_part_fit by crew ready (suc rounds) true = let h = old_part_fit by crew ready rounds true in rw h refl
old_part_fit by crew ready (suc rounds) false = let h = old_part_fit by crew ready rounds true in rw h refl

pub taking_over_fit : (u : Upgrade) → IsFit (taking_over u)
taking_over_fit u =
    let heir = new_image u in
    let on = relieve u.attended (old_image u) u.old.crew u.new.crew u.old.numbers u.rounds u.path u.workers in
    let is_back = from_fit (old_image u) heir u.old.crew u.old.numbers u.rounds u.path in
    tries_all_fit heir (pid_calls u.path WritePid) _ (way_back u)
    (tries_fit heir (Census u.new.crew.generation) u.new.numbers on (way_back u) (relieve_fit u.attended (old_image u) u.old.crew u.new.crew u.old.numbers u.rounds u.path u.workers) is_back) is_back
