-- What a new master tries can be run: there is an edge for each reply, and one where the master is gone.
use Rattle.std.proofs.Common.{◌≡◌, ℕ, Bool, true, false, List, [], ◌∷◌, Option, refl}
use Rattle.definitions.specs.Calls.{Call, OpenAt, CloseAt, Fork, AwaitReady, Quit, Kill, Census, AwaitGone, SpawnMaster}
use Rattle.definitions.specs.Calls.{Adopt, WritePid, MovePid, RemovePid, Alive, Leave, Usr1, TermMaster, Ask}
use Rattle.definitions.specs.Table.{FilePath}
use Rattle.definitions.specs.Run.{Tree}
use Rattle.definitions.specs.Master.{PidNote}
use Rattle.plan_steps.specs.Fit.{is_fit}
use Rattle.definitions.specs.Plans.{does, note_edges, tries, tries_all}

-- a tree that can be run wherever it stands
abbrev pub IsFit : Tree → Type 0
IsFit tree = (short : Bool) → is_fit short tree ≡ true

pub move_fit : (by : ℕ) (from to : FilePath) (fine fault : Option PidNote) (rest : Tree) → IsFit rest →
    IsFit (does by (MovePid from to) (note_edges fine fault rest))
move_fit by from to fine fault rest h short = rw (h short) refl

pub tries_fit : (by : ℕ) (call : Call) (set : List ℕ) (rest back : Tree) → IsFit rest → IsFit back → IsFit (tries by call set rest back)
tries_fit by (OpenAt a) set rest back h e short = rw (h short, e short) refl
tries_fit by (CloseAt a) set rest back h e short = rw (h short, e short) refl
tries_fit by (Fork g k fds) set rest back h e short = rw (h short, e short) refl
tries_fit by (AwaitReady g k) set rest back h e short = rw (h short, e short) refl
tries_fit by (Quit g k) set rest back h e short = rw (h short, e short) refl
tries_fit by (Kill g k) set rest back h e short = rw (h short, e short) refl
tries_fit by (Census g) set rest back h e short = rw (h false, e true, e short) refl
tries_fit by (AwaitGone g k) set rest back h e short = rw (h short, e short) refl
tries_fit by (SpawnMaster i) set rest back h e short = rw (h short, e short) refl
tries_fit by Adopt set rest back h e short = rw (h short, e short) refl
tries_fit by (WritePid path) set rest back h e short = rw (h short, e short) refl
tries_fit by (MovePid from to) set rest back h e short = rw (h short, e short) refl
tries_fit by (RemovePid path) set rest back h e short = rw (h short, e short) refl
tries_fit by (Alive i) set rest back h e short = rw (h short, e short) refl
tries_fit by Leave set rest back h e short = rw (h short, e short) refl
tries_fit by (Usr1 g k) set rest back h e short = rw (h short, e short) refl
tries_fit by (TermMaster i) set rest back h e short = rw (h short, e short) refl
tries_fit by (Ask n) set rest back h e short = rw (h short, e short) refl

pub tries_all_fit : (by : ℕ) (calls : List Call) (rest back : Tree) → IsFit rest → IsFit back → IsFit (tries_all by calls rest back)
tries_all_fit by [] rest back h e = h
tries_all_fit by (call ∷ calls) rest back h e = tries_fit by call [] (tries_all by calls rest back) back (tries_all_fit by calls rest back h e) e
