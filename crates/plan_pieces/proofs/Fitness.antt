-- Pieces of plans can be run where what follows them can: each step has an edge for each reply, and a worker is named only
-- after a short census.
use Rattle.std.proofs.Common.{◌≡◌, ℕ, zero, suc, Bool, true, false, List, [], ◌∷◌, Option, refl}
use Rattle.listener_set.specs.declared.generation.Generation.{Generation}
use Rattle.definitions.specs.Table.{Address, FilePath}
use Rattle.definitions.specs.Master.{Crew}
use Rattle.vocabulary.specs.declared.plans.PidNote.{PidNote}
use Rattle.vocabulary.specs.declared.plans.Side.{Side}
use Rattle.vocabulary.specs.declared.calls.Call.TheVariants.{RemovePid}
use Rattle.definitions.specs.Run.{Tree}
use Rattle.plan_steps.specs.Fit.{is_fit}
use Rattle.definitions.specs.Plans.{does, note_edges, settle, awaits, forks, awaits_any, forks_any, starts_any, awaits_gone, opens}
use Rattle.call_laws.specs.Pieces.{quits, kills, usr1s, closes}

pub settle_fit : (by : ℕ) (crew : Crew) (set : List ℕ) (side : Side) (rounds : ℕ) (short : Bool) → is_fit short (settle by crew set side rounds) ≡ true
settle_fit by crew set side zero true = refl
settle_fit by crew set side zero false = refl
settle_fit by crew set side (suc rounds) true = let h = settle_fit by crew set side rounds true in rw h refl
settle_fit by crew set side (suc rounds) false = let h = settle_fit by crew set side rounds true in rw h refl

pub quits_fit : (by : ℕ) (g : Generation) (ks : List ℕ) (rest : Tree) (short : Bool) → is_fit short rest ≡ true → is_fit short (quits by g ks rest) ≡ true
quits_fit by g [] rest short h = h
quits_fit by g (k ∷ ks) rest short h = let tail = quits_fit by g ks rest short h in rw tail refl

pub kills_fit : (by : ℕ) (g : Generation) (ks : List ℕ) (rest : Tree) (short : Bool) → is_fit short rest ≡ true → is_fit short (kills by g ks rest) ≡ true
kills_fit by g [] rest short h = h
kills_fit by g (k ∷ ks) rest short h = let tail = kills_fit by g ks rest short h in rw tail refl

pub usr1s_fit : (by : ℕ) (g : Generation) (ks : List ℕ) (rest : Tree) (short : Bool) → is_fit short rest ≡ true → is_fit short (usr1s by g ks rest) ≡ true
usr1s_fit by g [] rest short h = h
usr1s_fit by g (k ∷ ks) rest short h = let tail = usr1s_fit by g ks rest short h in rw tail refl

pub closes_fit : (by : ℕ) (xs : List Address) (rest : Tree) (short : Bool) → is_fit short rest ≡ true → is_fit short (closes by xs rest) ≡ true
closes_fit by [] rest short h = h
closes_fit by (x ∷ xs) rest short h = let tail = closes_fit by xs rest short h in rw tail refl

pub awaits_gone_fit : (by : ℕ) (g : Generation) (ks : List ℕ) (rest : Tree) (short : Bool) → is_fit short rest ≡ true →
    is_fit short (awaits_gone by g ks rest) ≡ true
awaits_gone_fit by g [] rest short h = h
awaits_gone_fit by g (k ∷ ks) rest short h = let tail = awaits_gone_fit by g ks rest short h in rw tail refl

pub remove_fit : (by : ℕ) (path : FilePath) (fine fault : Option PidNote) (rest : Tree) (short : Bool) →
    is_fit short rest ≡ true → is_fit short (does by (RemovePid path) (note_edges fine fault rest)) ≡ true
remove_fit by path fine fault rest short h = rw h refl

---- Starts

pub awaits_fit : (by : ℕ) (g : Generation) (ks : List ℕ) (ok bad : Tree) (short : Bool) → is_fit short ok ≡ true →
    is_fit short bad ≡ true → is_fit short (awaits by g ks ok bad) ≡ true
awaits_fit by g [] ok bad short h e = h
awaits_fit by g (k ∷ ks) ok bad short h e = let tail = awaits_fit by g ks ok bad short h e in rw (tail, e) refl

pub forks_fit : (by : ℕ) (crew : Crew) (ks done : List ℕ) (ok bad : List ℕ → Tree) (short : Bool) →
    ((forked : List ℕ) → is_fit short (ok forked) ≡ true) → ((forked : List ℕ) → is_fit short (bad forked) ≡ true) →
    is_fit short (forks by crew ks done ok bad) ≡ true
forks_fit by crew [] done ok bad short h e = h done
forks_fit by crew (k ∷ ks) done ok bad short h e = let tail = forks_fit by crew ks (k ∷ done) ok bad short h e in let failed = e done in rw (tail, failed) refl

awaits_any_fit : (by : ℕ) (g : Generation) (ks : List ℕ) (rest : Tree) (short : Bool) → is_fit short rest ≡ true → is_fit short (awaits_any by g ks rest) ≡ true
awaits_any_fit by g [] rest short h = h
awaits_any_fit by g (k ∷ ks) rest short h = let tail = awaits_any_fit by g ks rest short h in rw tail refl

forks_any_fit : (by : ℕ) (crew : Crew) (ks : List ℕ) (rest : Tree) (short : Bool) → is_fit short rest ≡ true → is_fit short (forks_any by crew ks rest) ≡ true
forks_any_fit by crew [] rest short h = h
forks_any_fit by crew (k ∷ ks) rest short h = let tail = forks_any_fit by crew ks rest short h in rw tail refl

pub starts_any_fit : (by : ℕ) (crew : Crew) (ks : List ℕ) (rest : Tree) (short : Bool) → is_fit short rest ≡ true →
    is_fit short (starts_any by crew ks rest) ≡ true
starts_any_fit by crew ks rest short h = forks_any_fit by crew ks _ short (awaits_any_fit by crew.generation ks rest short h)

---- Opens

pub opens_fit : (by : ℕ) (xs done : List Address) (ok bad : List Address → Tree) (short : Bool) →
    ((opened : List Address) → is_fit short (ok opened) ≡ true) →
    ((opened : List Address) → is_fit short (bad opened) ≡ true) → is_fit short (opens by xs done ok bad) ≡ true
opens_fit by [] done ok bad short h e = h done
opens_fit by (x ∷ xs) done ok bad short h e = let tail = opens_fit by xs (x ∷ done) ok bad short h e in let failed = e done in rw (tail, failed) refl
