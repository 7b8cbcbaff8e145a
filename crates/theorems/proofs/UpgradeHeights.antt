-- No path of an upgrade's plan has more steps than 04's bound, attended or not.
use Rattle.std.proofs.Common.{◌≡◌, ◌+◌, ◌*◌, ◌≤◌, arith, Bool, true, false, cond, List, ℕ, zero, suc, [], ◌∷◌, ◌++◌, length, Option, Some, None}
use Rattle.std.specs.Prelude.{max, map, filter, reverse, not}
use Rattle.listener_set.specs.Numbers.{numbers_below}
use Rattle.listener_set.specs.AddressList.{has}
use Rattle.listener_set.specs.declared.generation.Generation.{Generation}
use Rattle.vocabulary.specs.declared.targets.Target.TheVariants.{Upgrade, Attended}
use Rattle.vocabulary.specs.declared.calls.Call.{Call}
use Rattle.vocabulary.specs.declared.calls.Call.TheVariants.{Adopt, CloseAt, OpenAt, AwaitReady, WritePid, SpawnMaster, Census}
use Rattle.vocabulary.specs.declared.plans.PidNote.{PidNote}
use Rattle.vocabulary.specs.declared.plans.PidNote.TheVariants.{InPlace, AtOldbin, OldbinLeft, Left, NoFile}
use Rattle.vocabulary.specs.declared.plans.Side.{Side}
use Rattle.vocabulary.specs.declared.plans.Side.TheVariants as side
use Rattle.definitions.specs.Table.{Address, FilePath}
use Rattle.definitions.specs.Master.{Crew, fork_of, Listener, addresses_of, crew_of}
use Rattle.definitions.specs.Run.{Tree, Ends, Done, Split, JoinReady, JoinBack}
use Rattle.call_laws.specs.Lengths.{height}
use Rattle.definitions.specs.After.{crew_wanted}
use Rattle.definitions.specs.Plans.{does, tries, tries_all, pid_calls, awaits_gone, forks_any, awaits_any, starts_any}
use Rattle.definitions.specs.Plans.{asks, retire, relieve, hand_over, remove_oldbin, back_serving, back_late, back_from}
use Rattle.definitions.specs.Plans.{back_alone, move_back, move_aside, settle, new_calls, old_part, only_in}
use Rattle.call_laws.specs.Pieces.{quits, spawn_edges}
use Rattle.call_laws.specs.Lengths.{upgrade_length}
use Rattle.run_laws.specs.Lengths.{UpgradesAreShort}
use Rattle.table_laws.proofs.Sets.{below-length}
use Rattle.std.proofs.lemmas.List.{length-append, length-map, length-reverse}

settle-height : (by : ℕ) (crew : Crew) (set : List ℕ) (s : Side) (rounds : ℕ) → height (settle by crew set s rounds) ≤ 4 * rounds + 1
settle-height by crew set s zero = omega arith
settle-height by crew set s (suc rounds) = omega (arith, settle-height by crew set s rounds)

mending-height : (by : ℕ) (crew : Crew) (ready : List ℕ) (rounds : ℕ) → height (old_part by crew ready rounds) ≤ 4 * rounds + 1
mending-height by crew ready zero = omega arith
mending-height by crew ready (suc rounds) = omega (arith, mending-height by crew ready rounds)

tries-height : (by : ℕ) (calls : List Call) (rest back : Tree) → height (tries_all by calls rest back) ≤ length calls + max (height rest) (height back)
tries-height by [] rest back = omega arith
tries-height by (call ∷ calls) rest back = omega (arith, tries-height by calls rest back)

quits-height : (by : ℕ) (g : Generation) (ks : List ℕ) (rest : Tree) → height (quits by g ks rest) ≤ length ks + height rest
quits-height by g [] rest = omega arith
quits-height by g (k ∷ ks) rest = omega (arith, quits-height by g ks rest)

gone-height : (by : ℕ) (g : Generation) (ks : List ℕ) (rest : Tree) → height (awaits_gone by g ks rest) ≤ 2 * length ks + height rest
gone-height by g [] rest = omega arith
gone-height by g (k ∷ ks) rest = omega (arith, gone-height by g ks rest)

forks-height : (by : ℕ) (crew : Crew) (ks : List ℕ) (rest : Tree) → height (forks_any by crew ks rest) ≤ length ks + height rest
forks-height by crew [] rest = omega arith
forks-height by crew (k ∷ ks) rest = omega (arith, forks-height by crew ks rest)

waits-height : (by : ℕ) (g : Generation) (ks : List ℕ) (rest : Tree) → height (awaits_any by g ks rest) ≤ 2 * length ks + height rest
waits-height by g [] rest = omega arith
waits-height by g (k ∷ ks) rest = omega (arith, waits-height by g ks rest)

any-height : (by : ℕ) (crew : Crew) (ks : List ℕ) (rest : Tree) → height (starts_any by crew ks rest) ≤ 3 * length ks + height rest
any-height by crew ks rest = omega (arith, forks-height by crew ks (awaits_any by crew.generation ks rest), waits-height by crew.generation ks rest)

asks-height :
    (attended : Bool) (by question : ℕ) (on_go on_back : Tree) →
    height (asks attended by question on_go on_back) ≤ 1 + max (height on_go) (height on_back)
asks-height true by question on_go on_back = omega arith
asks-height false by question on_go on_back = omega arith

move-height : (by : ℕ) (path : Option FilePath) (rest : Tree) → height (move_back by path rest) ≤ 1 + height rest
move-height by None rest = omega arith
move-height by (Some path) rest = omega arith

remove-height : (by : ℕ) (path : Option FilePath) (rest : Tree) → height (remove_oldbin by path rest) ≤ 1 + height rest
remove-height by None rest = omega arith
remove-height by (Some path) rest = omega arith

pid-length : (path : Option FilePath) → length (pid_calls path WritePid) ≤ 1
pid-length None = omega arith
pid-length (Some path) = omega arith

before-height :
    (by image : ℕ) (path : Option FilePath) (note : PidNote) → height
    (move_aside by path note (does by (SpawnMaster image) (spawn_edges (Ends Split) (Ends Done))) (Ends Done)) ≤ 2
before-height by image None note = omega arith
before-height by image (Some path) AtOldbin = omega arith
before-height by image (Some path) InPlace = omega arith
before-height by image (Some path) OldbinLeft = omega arith
before-height by image (Some path) Left = omega arith
before-height by image (Some path) NoFile = omega arith

few : (test : Address → Bool) (l : List Address) → length (filter test l) ≤ length l
few test [] = omega arith
few test (a ∷ l) = go (test a) (few test l)
  where
    go : (b : Bool) → length (filter test l) ≤ length l → length (cond b (a ∷ filter test l) (filter test l)) ≤ suc (length l)
    go true ih = omega (arith, ih)
    go false ih = omega (arith, ih)

few-only : (l others : List Address) → length (only_in l others) ≤ length l
few-only l others = few (λ a. not (has others a)) l

short :
    (attended : Bool) (by : ℕ) (old new : Crew) (ready : List ℕ) (retries : ℕ) (path : Option FilePath) (note : PidNote)
    (held wanted : List Address) (n : ℕ) →
    upgrade_length attended by old new ready retries path note held wanted n ≤ 9 * (length ready + n) + 3 * (length held + length wanted) + 16 * retries + 48
short attended by old new ready retries path note held wanted n =
    let heir = new.generation.image in
    let S = numbers_below n in
    let back_settle = settle by old ready side.Old retries in
    let alone = back_alone by old ready retries path in
    let back = back_from by heir old ready retries path in
    let late = back_late by heir old ready retries path in
    let serving = back_serving by heir old ready retries path in
    let last_settle = settle heir new S side.Target retries in
    let over = hand_over by new retries path n in
    let retiring = retire by old new ready retries path n in
    let asked = asks attended by 2 retiring serving in
    let gone = awaits_gone by old.generation (reverse ready) asked in
    let relief = relieve attended by old new ready retries path n in
    let counted = tries heir (Census new.generation) S relief back in
    let e1 = settle-height by old ready side.Old retries in
    let e2 = move-height by path back_settle in
    let e3 = any-height by old ready alone in
    let e4 = any-height by old ready back in
    let e5 = settle-height heir new S side.Target retries in
    let e6 = remove-height heir path last_settle in
    let e7 = asks-height attended by 2 retiring serving in
    let e8 = gone-height by old.generation (reverse ready) asked in
    let e9 = quits-height by old.generation (reverse ready) gone in
    let e10 = asks-height attended by 1 (quits by old.generation (reverse ready) gone) back in
    let e11 = tries-height heir (pid_calls path WritePid) counted back in
    let len = length-reverse ready in
    let first = tries-height heir (new_calls new held wanted n) (Ends JoinReady) (Ends JoinBack) in
    omega
    (arith, before-height by heir path note, mending-height by old ready retries, calls new held wanted n, first, pid-length path, e1, e2, e3, e4, e5, e6, e7, e8, e9, e10, e11, len)
  where
    calls : (new : Crew) (held wanted : List Address) (n : ℕ) → length (new_calls new held wanted n) ≤ 1 + length held + length wanted + 2 * n
    calls new held wanted n =
        let S = numbers_below n in
        let a = map CloseAt (only_in held wanted) in
        let b = map OpenAt (only_in wanted held) in
        let f = map (fork_of new) S in
        let w = map (AwaitReady new.generation) S in
        omega
        (arith, few-only held wanted, few-only wanted held, below-length n, length-append (Adopt ∷ a ++ b ++ f) w, length-append (Adopt ∷ a ++ b) f, length-append (Adopt ∷ a) b, length-map (only_in held wanted) CloseAt, length-map (only_in wanted held) OpenAt, length-map S (fork_of new), length-map S (AwaitReady new.generation))

pub upgrades-short : UpgradesAreShort
upgrades-short r s =
    let same : length (addresses_of r) ≡ length r.listeners = length-map r.listeners (λ (l : Listener). l.address) in
    let n = below-length s.workers in (
      omega
          (arith, same, n, short false r.generation.image (crew_of r) (crew_wanted r (Upgrade s)) r.ready r.retries r.pid_path r.note (addresses_of r) s.listeners s.workers),
      omega
          (arith, same, n, short true r.generation.image (crew_of r) (crew_wanted r (Attended s)) r.ready r.retries r.pid_path r.note (addresses_of r) s.listeners s.workers),
    )
