-- Which calls take a worker away: process by process.
--
-- Our own: only a call that names a worker, or the end of a master, ends it.

use Rattle.vocabulary.specs as vocabulary
use Rattle.definitions.specs as above
use Rattle.std.specs.Prelude.{◌≡◌, ◌==◌, ◌∷◌}
use vocabulary.Words.{refl, ℕ, Bool, true, false, List, [], list_any, ⊤}
use above.Table.{Generation, Table, Stance, Ready, Draining, same_stance, bears, is_worker_where}
use above.Calls.{Call, AwaitReady, Quit, Kill, AwaitGone, Leave, TermMaster}
use above.Master.{Record, Target}
use above.Plans.{Turn}
use above.Run.{Entry, Pattern, Progress}
use above.Claims.{run_of}

-- the process is a worker in this stance with the name
abbrev pub is_at : Stance → ℕ → Generation → ℕ → Table → Bool
is_at stance p g k t = list_any (is_worker_where (same_stance stance) (λ n. n == p) (bears g k)) t.rows

-- the calls that may take a Ready worker of the name out of its stance
abbrev pub takes_ready : Generation → ℕ → Call → Bool
takes_ready g k (Quit h j) = bears g k h j
takes_ready g k (Kill h j) = bears g k h j
takes_ready g k Leave = true
takes_ready g k (TermMaster image) = true
takes_ready g k _ = false

-- and a Draining one out of the table
abbrev pub takes_draining : Generation → ℕ → Call → Bool
takes_draining g k (AwaitGone h j) = bears g k h j
takes_draining g k (Kill h j) = bears g k h j
takes_draining g k Leave = true
takes_draining g k (TermMaster image) = true
takes_draining g k _ = false

-- The call leaves each process in the stance, but for those that it may take.
abbrev pub Leaves : Stance → (Generation → ℕ → Call → Bool) → Call → Table → Table → Type 0
Leaves stance takes call t t' =
    (p : ℕ) (g : Generation) (k : ℕ) → is_at stance p g k t ≡ true → takes g k call ≡ false →
    is_at stance p g k t' ≡ true

abbrev pub TakesByName : Call → Table → Table → Type 0
TakesByName call t t' = Leaves Ready takes_ready call t t' × Leaves Draining takes_draining call t t'

abbrev pub Next : (Progress → Type 0) → List Progress → Type 0
Next P [] = ⊥
Next P (b ∷ rest) = P b

-- Each call of these entries: the tables come in pairs, and it leads from the second of its pair to the next one.
abbrev pub TakeByName : List Entry → List Progress → Type 0
TakeByName [] passed = ⊤
TakeByName (e ∷ entries) (before ∷ middle ∷ rest) =
    Next (λ b. TakesByName e.call middle.table b.table) rest × TakeByName entries rest
TakeByName _ _ = ⊥

-- So does each call of each run, whatever fails.
abbrev pub WorkersEndByName : Type 0
WorkersEndByName =
    (t : Table) (r : Record) (target : Target) (turns : List Turn) (pattern : Pattern) →
    let ran = run_of r target turns pattern t in TakeByName ran.entries ran.passed

---- An example: waiting for a worker to be ready takes nobody

example : (g : Generation) (k : ℕ) → takes_ready g k (AwaitReady g k) ≡ false
example g k = refl
