-- The table of processes: which run, what each holds, which files exist, and the service of a table.
--
-- After POSIX, as far as masters need it: a process has a number and a parent, a descriptor leads to a socket, and an
-- address is taken as long as a process holds a socket of it. The service is our own notion.

use Rattle.vocabulary.specs as vocabulary
use Rattle.std.specs.Prelude.{◌≡◌, ◌≤◌, ◌+◌, ◌&&◌, ◌||◌, ◌==◌, ◌∷◌, if◌then◌else◌}
use denote.Enum.Bare.{sameb}
use vocabulary.contracts.table.Stance.{the_type}
use vocabulary.Words.{refl, ℕ, Bool, true, false, List, [], Option, Some, None, bytes_eq, list_any, count_by, ⊤}
use vocabulary.Words.{AllByRecursion, has}
pub use vocabulary.Words.{Generation}
pub use vocabulary.declared.table.Stance.{Stance}
pub use vocabulary.declared.table.Stance.TheVariants.{Starting, Ready, Draining, Exited}
pub use vocabulary.declared.table.Limits.{Limits}
pub use vocabulary.declared.table.Listener.{Listener}

-- An address is its text, and so is a path.
abbrev pub Address : Type 0
Address = List ℕ

abbrev pub FilePath : Type 0
FilePath = List ℕ

abbrev pub same_generation : Generation → Generation → Bool
same_generation g h = (g.image == h.image) && (g.config == h.config)

-- A descriptor, its socket, and the address of that socket.
pub record Hold : Type 0 where
  pub fd : ℕ
  pub socket : ℕ
  pub address : Address

-- A process: its number, its parent's number, what it is, and its holds in ascending descriptors. A master is live or
-- has exited and holds nothing. A worker that drains or has exited holds nothing either. A foreign process is
-- somebody else's.
pub data Process : Type 0 where
  Master : (number parent image : ℕ) (live : Bool) (holds : List Hold) → Process
  Worker : (number parent : ℕ) (generation : Generation) (nr : ℕ) (stance : Stance) (holds : List Hold) → Process
  Foreign : (number : ℕ) (holds : List Hold) → Process

-- A file and the process number that it holds.
pub record File : Type 0 where
  pub path : FilePath
  pub owner : ℕ

-- The rows are in ascending process number, since a new one has the next number. Each path has one file.
pub record Table : Type 0 where
  pub rows : List Process
  pub files : List File
  pub next_process : ℕ
  pub next_socket : ℕ
  pub limits : Limits

---- Rows

abbrev pub number_of : Process → ℕ
number_of (Master n q i live hs) = n
number_of (Worker n q g k s hs) = n
number_of (Foreign n hs) = n

abbrev pub holds_of : Process → List Hold
holds_of (Master n q i live hs) = hs
holds_of (Worker n q g k s hs) = hs
holds_of (Foreign n hs) = hs

-- The rows that the process limit counts.
abbrev pub is_own : Process → Bool
is_own (Foreign n hs) = false
is_own _ = true

abbrev pub is_master : Process → Bool
is_master (Master n q i live hs) = true
is_master _ = false

-- whether two stances are one: the equality that the checker makes of the enum
abbrev pub same_stance : Stance → Stance → Bool
same_stance a b = sameb the_type a b

abbrev pub is_active : Stance → Bool
is_active s = same_stance Starting s || same_stance Ready s

-- a name is a worker's generation and number: whether the second name is the first
abbrev pub bears : Generation → ℕ → Generation → ℕ → Bool
bears g k g' k' = same_generation g' g && (k' == k)

-- a worker in such a stance, with such a process number and such a name
abbrev pub is_worker_where : (Stance → Bool) → (ℕ → Bool) → (Generation → ℕ → Bool) → Process → Bool
is_worker_where stance number test (Worker n q g k s hs) = stance s && (number n && test g k)
is_worker_where stance number test _ = false

-- a worker whose parent is the caller, with the name and in such a stance
abbrev pub is_worker : (Stance → Bool) → ℕ → Generation → ℕ → Process → Bool
is_worker stance caller g k (Worker n q g' k' s hs) = stance s && ((q == caller) && bears g k g' k')
is_worker stance caller g k _ = false

-- A live master, as its process number and its holds.
pub record Caller : Type 0 where
  pub number : ℕ
  pub holds : List Hold

-- The live master of an image.
abbrev pub live_master : ℕ → List Process → Option Caller
live_master image [] = None
live_master image (Master n q i live hs ∷ rows) =
    if live && (i == image) then Some (record { number = n; holds = hs }) else live_master image rows
live_master image (p ∷ rows) = live_master image rows

-- a live master with such a process number and such holds
abbrev pub is_live_where : (ℕ → List Hold → Bool) → Process → Bool
is_live_where test (Master n q i live hs) = live && test n hs
is_live_where test _ = false

---- Addresses and files

abbrev pub has_address : Address → List Hold → Bool
has_address a hs = list_any (λ h. bytes_eq h.address a) hs

-- An address is held where a process holds a socket of it; one that has exited holds nothing.
abbrev pub is_held : Address → List Process → Bool
is_held a rows = list_any (λ p. has_address a (holds_of p)) rows

-- the process number that the file at the path holds
abbrev pub owner_at : FilePath → List File → Option ℕ
owner_at path [] = None
owner_at path (f ∷ files) = if bytes_eq f.path path then Some f.owner else owner_at path files

---- What is true of every table that the kernel makes, since it uses no process number again

-- A worker that drains or has exited holds nothing; of a master, or of somebody else's process, nothing is asked.
abbrev pub IsQuiet : Process → Type 0
IsQuiet (Worker n q g k Draining hs) = hs ≡ []
IsQuiet (Worker n q g k Exited hs) = hs ≡ []
IsQuiet _ = ⊤

-- A worker's parent is a live master.
abbrev pub HasParent : List Process → Process → Type 0
HasParent rows (Worker n q g k s hs) = list_any (is_live_where (λ m holds. m == q)) rows ≡ true
HasParent rows _ = ⊤

-- Process numbers rise, from `least` on, and stay below `next`.
abbrev pub IsAscending : ℕ → List Process → ℕ → Type 0
IsAscending least [] next = least ≤ next
IsAscending least (p ∷ rows) next = (least ≤ number_of p) × IsAscending (number_of p + 1) rows next

pub record IsFormed (t : Table) : Type 0 where
  -- At most one Starting or Ready worker of a master bears a name.
  pub once : (q : ℕ) (g : Generation) (k : ℕ) → count_by (is_worker is_active q g k) t.rows ≤ 1
  pub quiet : AllByRecursion IsQuiet t.rows
  pub parents : AllByRecursion (HasParent t.rows) t.rows
  pub ascending : IsAscending 0 t.rows t.next_process

---- The service

-- Which addresses are served, and by how many workers of each generation. It is what clients can observe: a worker
-- that drains accepts no new client, and does not count. It maps each key to the count of each generation.
abbrev pub Service : Type 0
Service = Address → Option (Generation → ℕ)

-- a Ready worker of such a generation that holds the address
abbrev pub is_serving : Address → (Generation → Bool) → Process → Bool
is_serving a test (Worker n q g k s hs) = same_stance Ready s && (test g && has_address a hs)
is_serving a test _ = false

-- The keys are the addresses that a live master holds, each with its Ready workers, by generation.
abbrev pub service : Table → Service
service t a =
    if list_any (is_live_where (λ n hs. has_address a hs)) t.rows
    then Some (λ g. count_by (is_serving a (λ h. same_generation h g)) t.rows)
    else None

-- At each of these addresses its count of workers, all of one generation.
abbrev pub serving : List Address → Generation → (Address → ℕ) → Service
serving addresses g count a =
    if has addresses a then Some (λ h. if same_generation h g then count a else 0) else None

abbrev pub IsSame : Service → Service → Type 0
IsSame s s' = (a : Address) → s a ≡ s' a

---- An example: a master that has exited is no live master of its image

example : live_master 2 (Master 103 100 2 false [] ∷ []) ≡ None
example = refl
