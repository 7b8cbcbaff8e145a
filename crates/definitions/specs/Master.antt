-- What a master knows of itself and of its groups, when a table agrees with it, and the service that a target wants.
--
-- The pid file and its suffix are those of nginx's "Controlling nginx", the targets those of Unicorn's SIGNALS: HUP
-- starts workers of the next configuration, USR2 a new executable, TTIN and TTOU change the number of workers, USR1
-- reopens logs, QUIT and TERM stop. Groups are our own, as pools of php-fpm are.

use Rattle.vocabulary.specs as vocabulary
use Rattle.definitions.specs as above
use Rattle.std.specs.Prelude.{◌≡◌, ◌≤◌, ◌<◌, ◌+◌, ◌∷◌, ◌++◌, if◌then◌else◌}
use vocabulary.Words.{refl, ℕ, zero, suc, Bool, true, List, [], Option, Some, None, filter, length, take, drop, get_or}
use vocabulary.Words.{count_by, sum_by, numbers_below, nat_lt, is_in, has, map, is_some, codes, ⊤, list_any}
use vocabulary.Words.{AllByRecursion, HasSuffixRoom, AreGroups, Settings}
use above.Table.{Address, FilePath, Generation, Hold, Starting, Ready, Process, Worker, File, Table, is_master}
use above.Table.{same_stance, is_worker, live_master, owner_at, Service, serving}
use above.Calls.{Call, Fork, shared, Handover, Handed}
pub use vocabulary.Words.{Group, group_of, Posts, Crew, fds_in, fds_of, shortfalls_of}
pub use above.Table.{Listener}
pub use vocabulary.declared.plans.PidNote.{PidNote}
pub use vocabulary.declared.plans.PidNote.TheVariants.{InPlace, AtOldbin, OldbinLeft, Left, NoFile}
pub use vocabulary.declared.plans.Sides.{Sides}
pub use vocabulary.declared.targets.Target.{Target}
pub use vocabulary.declared.targets.Target.TheVariants.{Workers, Mend, Reopen, Reload, Upgrade, Attended, Stop}

---- Groups of workers: they divide the addresses and the worker numbers of a configuration, in order

-- the call that starts a worker of a crew: with the descriptors of its group, or with no set if there is one group
abbrev pub fork_of : Crew → ℕ → Call
fork_of crew k = Fork crew.generation k (fds_of crew.posts k)

-- The groups of a service, and whether a group, by its place, listens at an address.
pub record Layout : Type 0 where
  pub groups : List Group
  pub listens : ℕ → Address → Bool

-- the addresses of a group, by its place: the groups divide them in order
abbrev pub addresses_of_group : List Group → List Address → ℕ → List Address
addresses_of_group [] addresses place = []
addresses_of_group (g ∷ gs) addresses zero = take g.addresses addresses
addresses_of_group (g ∷ gs) addresses (suc place) = addresses_of_group gs (drop g.addresses addresses) place

-- the layout of a configuration
abbrev pub layout_in : List Group → List Address → Layout
layout_in groups addresses =
    record { groups = groups; listens = λ place a. has (addresses_of_group groups addresses place) a }

-- the listeners at these descriptors, or all
abbrev pub listeners_under : Option (List ℕ) → List Listener → List Listener
listeners_under None ls = ls
listeners_under (Some fds) ls = filter (λ (l : Listener). is_in fds l.descriptor) ls

-- how many of these worker numbers an address counts: those whose group listens there
abbrev pub served : Layout → List ℕ → Address → ℕ
served layout numbers a = count_by (λ k. layout.listens (group_of layout.groups k) a) numbers

-- what an address is short by, given what each group is short by
abbrev pub short_at : Layout → List ℕ → Address → ℕ
short_at layout shortfalls a =
    sum_by (λ place. if layout.listens place a then get_or shortfalls place 0 else 0)
    (numbers_below (length shortfalls))

---- What a master knows of itself

pub record Record : Type 0 where
  -- in ascending descriptors
  pub listeners : List Listener
  -- where the workers of each group listen
  pub posts : Posts
  pub generation : Generation
  -- in ascending order
  pub ready : List ℕ
  pub wanted : ℕ
  pub retries : ℕ
  pub timeout : ℕ
  pub pid_path : Option FilePath
  pub note : PidNote
  pub pid : ℕ

-- at least one listener, 1 to 16 groups, ready numbers below the wanted count, and the ranges of a configuration
pub record IsRecord (r : Record) : Type 0 where
  pub listens : 1 ≤ length r.listeners
  pub groups : AreGroups r.posts.groups
  pub wanted : r.wanted ≤ 1024
  pub ready : AllByRecursion (λ k. k < r.wanted) r.ready
  pub retries : r.retries ≤ 8
  pub timeout_least : 1 ≤ r.timeout
  pub timeout_most : r.timeout ≤ 86400
  pub pid_path : HasSuffixRoom r.pid_path
  pub pid : 1 ≤ r.pid

abbrev pub addresses_of : Record → List Address
addresses_of r = map (λ (l : Listener). l.address) r.listeners

abbrev pub crew_of : Record → Crew
crew_of r = record { generation = r.generation; posts = r.posts }

-- the layout of a master's descriptors
abbrev pub layout_of : Record → Layout
layout_of r = record {
  groups = r.posts.groups;
  listens = λ place a. has (map (λ (l : Listener). l.address) (listeners_under (fds_in r.posts place) r.listeners)) a;
}

---- When a record agrees with a table

-- Of the master's workers none is Starting, and each Ready one is of the crew's generation and holds its share of
-- what the master holds.
abbrev pub IsRunning : ℕ → Crew → List Hold → Process → Type 0
IsRunning m crew holds (Worker n q g k Ready hs) =
    q ≡ m → (g ≡ crew.generation) × (hs ≡ shared (fds_of crew.posts k) holds)
IsRunning m crew holds (Worker n q g k Starting hs) = q ≡ m → ⊥
IsRunning m crew holds _ = ⊤

abbrev pub oldbin : FilePath → FilePath
oldbin path = path ++ codes ".oldbin"

-- The files are as the note says. Where a master's file is at the path with the suffix, a stale file may be at the
-- path.
abbrev pub FilesAre : PidNote → Option FilePath → ℕ → List File → Type 0
FilesAre InPlace (Some path) pid files = (owner_at path files ≡ Some pid) × (owner_at (oldbin path) files ≡ None)
FilesAre AtOldbin (Some path) pid files = owner_at (oldbin path) files ≡ Some pid
FilesAre OldbinLeft (Some path) pid files =
    (owner_at path files ≡ Some pid) × (is_some (owner_at (oldbin path) files) ≡ true)
FilesAre NoFile None pid files = ⊤
FilesAre note path pid files = ⊥

-- One master row, live, with the record's image and process number, its descriptors the record's, its Ready workers
-- exactly the record's, and the files as the note says.
pub record Agrees (t : Table) (r : Record) : Type 0 where
  pub holds : List Hold
  pub lives : live_master r.generation.image t.rows ≡ Some (record { number = r.pid; holds = holds })
  pub alone : count_by is_master t.rows ≡ 1
  pub listeners : map (λ h. record { descriptor = h.fd; address = h.address }) holds ≡ r.listeners
  pub running : AllByRecursion (IsRunning r.pid (crew_of r) holds) t.rows
  pub ready : (k : ℕ) → list_any (is_worker (same_stance Ready) r.pid r.generation k) t.rows ≡ is_in r.ready k
  pub files : FilesAre r.note r.pid_path r.pid t.files

---- What a target changes

-- A reload's workers are of the next configuration; an upgrade's are of the next image too.
abbrev pub reload_generation : Generation → Generation
reload_generation g = record { image = g.image; config = g.config + 1 }

abbrev pub upgrade_generation : Generation → Generation
upgrade_generation g = record { image = g.image + 1; config = g.config + 1 }

-- image and config numbers end at 4,294,967,295
abbrev pub has_next : ℕ → Bool
has_next n = nat_lt n 4294967295

---- The service that is wanted

abbrev pub addresses_wanted : Record → Target → List Address
addresses_wanted r (Reload s) = s.listeners
addresses_wanted r (Upgrade s) = s.listeners
addresses_wanted r (Attended s) = s.listeners
addresses_wanted r (Stop quick) = []
addresses_wanted r _ = addresses_of r

abbrev pub generation_wanted : Record → Target → Generation
generation_wanted r (Reload s) = reload_generation r.generation
generation_wanted r (Upgrade s) = upgrade_generation r.generation
generation_wanted r (Attended s) = upgrade_generation r.generation
generation_wanted r _ = r.generation

-- The worker numbers that are wanted. A reopening wants those that are ready.
abbrev pub numbers_wanted : Record → Target → List ℕ
numbers_wanted r (Workers n) = numbers_below n
numbers_wanted r (Mend overdue) = numbers_below r.wanted
numbers_wanted r Reopen = r.ready
numbers_wanted r (Reload s) = numbers_below s.workers
numbers_wanted r (Upgrade s) = numbers_below s.workers
numbers_wanted r (Attended s) = numbers_below s.workers
numbers_wanted r (Stop quick) = []

-- Which groups there are then, and which listens where.
abbrev pub layout_wanted : Record → Target → Layout
layout_wanted r (Reload s) = layout_in s.groups s.listeners
layout_wanted r (Upgrade s) = layout_in s.groups s.listeners
layout_wanted r (Attended s) = layout_in s.groups s.listeners
layout_wanted r _ = layout_of r

-- how many workers a target wants at an address: the numbers of its group
abbrev pub wanted_at : Record → Target → Address → ℕ
wanted_at r target a = served (layout_wanted r target) (numbers_wanted r target) a

-- The service that a target wants: at each of its addresses the workers of its group, of one generation.
abbrev pub want : Record → Target → Service
want r target = serving (addresses_wanted r target) (generation_wanted r target) (wanted_at r target)

-- The groups of both sides.
abbrev pub sides_of : Record → Target → Sides
sides_of r target = record { old = r.posts.groups; target = (layout_wanted r target).groups }

---- What a new master is handed

abbrev pub handover_of : Record → Settings → Handover
handover_of r s = record {
  old_pid = r.pid;
  generation = upgrade_generation r.generation;
  listeners = r.listeners;
  want = s.listeners;
  groups = s.groups;
  pid_file = r.pid_path;
}

-- What goes with each call of a plan.
abbrev pub handover_for : Record → Target → Handed
handover_for r (Upgrade s) = Some (handover_of r s)
handover_for r (Attended s) = Some (handover_of r s)
handover_for r _ = None

---- An example: the addresses of the second of two groups

example :
    addresses_of_group (record { addresses = 1; workers = 2 } ∷ record { addresses = 1; workers = 1 } ∷ [])
    (codes "1.2.3.4:80" ∷ codes "1.2.3.4:81" ∷ []) 1
    ≡ codes "1.2.3.4:81" ∷ []
example = refl
