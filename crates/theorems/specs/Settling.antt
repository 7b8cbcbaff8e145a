-- What every plan ends with: a settle, by a master that others may stand beside.
use Rattle.std.specs.Prelude.{ℕ, ◌≡◌, ◌≤◌, ◌<◌, ◌+◌, true, false, not, List, [], ◌∷◌, length, filter, reverse, nat_lt, Some, None, ⊤, ◌⊎◌}
use Rattle.std.specs.List.{list_any, AllByRecursion}
use Rattle.listener_set.specs.Numbers.{IsRising, is_in, numbers_below}
use Rattle.listener_set.specs.AddressList.{has}
use Rattle.definitions.specs.Table.{Address, Generation, Hold, Process, Master, Worker, Foreign, Table, live_master}
use Rattle.definitions.specs.Table.{is_worker, IsFormed}
use Rattle.call_laws.specs.Pieces.{is_ready, share, quits, closes, lacked_last}
use Rattle.definitions.specs.Master.{Crew, IsRunning}
use Rattle.vocabulary.specs.declared.table.Stance.TheVariants.{Starting, Ready, Draining, Exited}
use Rattle.definitions.specs.Run.{Side, Tree, Pattern, Progress, Ending, At, Ran, run_with}
use Rattle.vocabulary.specs.declared.plans.Side.TheVariants as side
use Rattle.definitions.specs.Plans.{settle, starts, workers_tree, quits_new, closes_opened, full_end, short_end}
use Rattle.definitions.specs.Claims.{refused_among}
use Rattle.definitions.specs.Calls.{Handed}

-- No live master of the image has another number.
abbrev pub IsOnly : ℕ → ℕ → Process → Type 0
IsOnly image pid (Master n q i true hs) = i ≡ image → n ≡ pid
IsOnly image pid _ = ⊤

-- One master and its workers, whoever else is in the table: it is the live master of its image; of its workers none is
-- Starting, and each Ready one is of the crew's generation, holds its share of what the master holds, and has a number of the set.
pub record HasSide (t : Table) (image pid : ℕ) (holds : List Hold) (crew : Crew) (set : List ℕ) : Type 0 where
  pub lives : live_master image t.rows ≡ Some (record { number = pid; holds = holds })
  pub only : AllByRecursion (IsOnly image pid) t.rows
  pub running : AllByRecursion (IsRunning pid crew holds) t.rows
  pub within : (k : ℕ) → list_any (is_worker is_ready pid crew.generation k) t.rows ≡ true → is_in set k ≡ true

-- the numbers of the set that no Ready worker of the master bears
abbrev pub missing : ℕ → Generation → List ℕ → Table → List ℕ
missing pid g set t = filter (λ k. not (list_any (is_worker is_ready pid g k) t.rows)) set

-- From the first progress to the last: a full end, and none is missing; or a short end, whose last count lacked just those
-- that are missing, at least one. Those and all rounds together are no more than what was missing at first and what failed
-- or was lost on the way.
abbrev pub IsSettled : Side → ℕ → ℕ → Generation → List ℕ → Progress → Ending → Progress → Type 0
IsSettled side rounds pid g set first end last =
    ((end ≡ At (full_end side)) × (missing pid g set last.table ≡ []))
    ⊎
    ((end ≡ At (short_end side)) × (1 ≤ length (lacked_last last.lacked)) ×
    (lacked_last last.lacked ≡ missing pid g set last.table) ×
    (length (lacked_last last.lacked) + rounds + (first.faults + first.losses)
    ≤ length (missing pid g set first.table) + (last.faults + last.losses)))

-- How a settle ends; the last count is what is Ready then, the master and its workers are as they have to be, and the files
-- and the note are as they were.
pub record Settles (image pid : ℕ) (holds : List Hold) (crew : Crew) (set : List ℕ) (side : Side) (rounds : ℕ) (first : Progress) (ran : Ran) : Type 0 where
  pub settled : IsSettled side rounds pid crew.generation set first ran.ending ran.last
  pub counted : (k : ℕ) → list_any (is_worker is_ready pid crew.generation k) ran.last.table.rows ≡ is_in ran.last.ready k
  pub side_after : HasSide ran.last.table image pid holds crew set
  pub files_stay : ran.last.table.files ≡ first.table.files
  pub note_stays : ran.last.note ≡ first.note

-- From each such table, and whatever was done before, a settle for the set settles, under each pattern that spares its master.
abbrev pub SettlesAlways : Type 0
SettlesAlways =
    (handed : Handed) (image pid : ℕ) (holds : List Hold) (crew : Crew) (set : List ℕ) (side : Side) (rounds : ℕ) (pattern : Pattern) (first : Progress) →
    IsFormed first.table → HasSide first.table image pid holds crew set → IsRising set → AllByRecursion (λ k. k < 1024) set →
    refused_among (image ∷ []) [] pattern first.calls (run_with handed (settle image crew set side rounds) pattern first).entries ≡ None →
    Settles image pid holds crew set side rounds first (run_with handed (settle image crew set side rounds) pattern first)

---- The way back

-- Back to a set of one generation: what was started of another, or of other numbers, quits; what was opened is closed; and
-- the old side settles. A change of the number of workers goes back so with nothing opened, a reload with its new generation,
-- and where it could not open all its addresses with nothing started.
abbrev pub back : ℕ → Generation → List ℕ → List Address → Crew → List ℕ → ℕ → Tree
back by new forked opened crew set rounds = quits by new forked (closes by opened (settle by crew set side.Old rounds))

-- the holds of other addresses
abbrev pub without : List Address → List Hold → List Hold
without addresses holds = filter (λ h. not (has addresses h.address)) holds

-- Each active worker of the master is one of the set, which holds its share of what the master held first, or was started on the
-- way and holds its share of what the master holds now; only such a one may be Starting.
abbrev pub IsReturning : ℕ → List Hold → List Address → Crew → List ℕ → Crew → List ℕ → Process → Type 0
IsReturning pid holds opened crew set new forked (Worker n q h k Ready hs) =
    q ≡ pid →
    ((h ≡ crew.generation) × (is_in set k ≡ true) × (hs ≡ share crew.posts k (without opened holds)))
    ⊎ ((h ≡ new.generation) × (is_in forked k ≡ true) × (hs ≡ share new.posts k holds))
IsReturning pid holds opened crew set new forked (Worker n q h k Starting hs) =
    q ≡ pid → (h ≡ new.generation) × (is_in forked k ≡ true) × (hs ≡ share new.posts k holds)
IsReturning pid holds opened crew set new forked (Worker n q h k Draining hs) = ⊤
IsReturning pid holds opened crew set new forked (Worker n q h k Exited hs) = ⊤
IsReturning pid holds opened crew set new forked (Master n q i live hs) = ⊤
IsReturning pid holds opened crew set new forked (Foreign n hs) = ⊤

-- One master on its way back, whoever else is in the table. Where both generations are the same nothing was opened, and other
-- numbers were started.
pub record IsOnReturn
    (t : Table) (image pid : ℕ) (holds : List Hold) (opened : List Address) (crew : Crew) (set : List ℕ) (new : Crew)
    (forked : List ℕ) : Type 0 where
  pub lives : live_master image t.rows ≡ Some (record { number = pid; holds = holds })
  pub only : AllByRecursion (IsOnly image pid) t.rows
  pub returning : AllByRecursion (IsReturning pid holds opened crew set new forked) t.rows
  pub apart : new.generation ≡ crew.generation → (opened ≡ []) × ((k : ℕ) → is_in forked k ≡ true → is_in set k ≡ false)

-- Each way back settles for the old side, with what was held before the addresses were opened.
abbrev pub ReturnsAlways : Type 0
ReturnsAlways =
    (handed : Handed) (image pid : ℕ) (holds : List Hold) (opened : List Address) (crew : Crew) (set : List ℕ)
    (new : Crew) (forked : List ℕ) (rounds : ℕ) (pattern : Pattern) (first : Progress) →
    IsFormed first.table → IsOnReturn first.table image pid holds opened crew set new forked → IsRising set → AllByRecursion (λ k. k < 1024) set →
    refused_among (image ∷ []) [] pattern first.calls (run_with handed (back image new.generation forked opened crew set rounds) pattern first).entries ≡ None →
    Settles image pid (without opened holds) crew set side.Old rounds first
    (run_with handed (back image new.generation forked opened crew set rounds) pattern first)

-- The plans go back so: from a failed start of a change of the number of workers, and of the first step of a reload.
pub record PlansGoBack : Type 0 where
  pub workers :
      (by : ℕ) (crew : Crew) (ready : List ℕ) (retries n : ℕ) →
      workers_tree by crew ready retries n
      ≡ starts by crew (filter (λ k. not (is_in ready k)) (numbers_below n))
      (quits by crew.generation (reverse (filter (λ k. not (nat_lt k n)) ready)) (settle by crew (numbers_below n) side.Target retries))
      (λ forked. back by crew.generation forked [] crew ready retries)
  pub reload :
      (by : ℕ) (old new : Crew) (ready : List ℕ) (retries : ℕ) (opened : List Address) (numbers forked : List ℕ) →
      quits_new by new false numbers (closes_opened by old ready retries opened) forked
      ≡ back by new.generation forked opened old ready retries
