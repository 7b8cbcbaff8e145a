-- The death of a master: what a start on what is left comes to, where somebody else's process keeps the sockets.
--
-- After POSIX: a socket is open as long as a process holds it, and may be handed to another one (systemd and our keeper
-- do so). Our own: who starts a master after another one's death first ends whoever of that one is left.

use Rattle.std.specs.Prelude.{⊤, ◌≡◌, ◌≤◌, ◌+◌, ◌∷◌, ◌++◌, if◌then◌else◌, bytes_eq, filter}
use Rattle.std.specs.Prelude.{ℕ, Bool, true, false, List, [], Option, Some, None, is_some, unwrap_or, option_map, zero, suc, IfSome}
use Rattle.std.specs.Option.{option_or}
use Rattle.std.specs.List.{AllByRecursion}
use Rattle.listener_set.specs.AddressList.{has}
use Rattle.listener_set.specs.Numbers.{numbers_below}
use Rattle.vocabulary.specs.Settings.{Settings, IsInRange}
use Rattle.definitions.specs.Table.{Address, FilePath, File, Generation, Hold, Process, Master, Worker, Foreign, Table, Caller, live_master}
use Rattle.definitions.specs.Table.{owner_at, IsSame, service, serving}
use Rattle.definitions.specs.Calls.{with_file}
use Rattle.definitions.specs.Master.{Record, Target, addresses_of, PidNote, InPlace, OldbinLeft, NoFile, oldbin, layout_in, served}
use Rattle.definitions.specs.Run.{Pattern, Progress, Ran}
use Rattle.definitions.specs.Plans.{Turn}
use Rattle.definitions.specs.Claims.{run_of}
use Rattle.call_laws.specs.Start.{started}
use Rattle.kernel_table.specs.Room.{IsKept}
use Rattle.lives.specs.Lives.{Task, IsStanding, IsCarriedOut, IsHealed, CanBeHealed, is_open, quiet_tick, run_at, table_after, record_left_by}

---- Sockets that somebody else's process keeps

-- the first socket of the address that such a process holds
abbrev pub socket_in : Address → List Hold → Option ℕ
socket_in a [] = None
socket_in a (h ∷ hs) = if bytes_eq h.address a then Some h.socket else socket_in a hs

-- that of the last one in the table
abbrev pub kept_socket : Address → List Process → Option ℕ
kept_socket a [] = None
kept_socket a (Foreign n hs ∷ rows) = option_or (kept_socket a rows) (socket_in a hs)
kept_socket a (Master n q i live hs ∷ rows) = kept_socket a rows
kept_socket a (Worker n q g k s hs ∷ rows) = kept_socket a rows

-- each of these addresses is kept
abbrev pub AreAllKept : List Address → Table → Type 0
AreAllKept addresses t = AllByRecursion (λ a. is_some (kept_socket a t.rows) ≡ true) addresses

-- what the live master of an image holds
abbrev pub holds_of_image : ℕ → List Process → List Hold
holds_of_image image rows = unwrap_or (option_map (λ (c : Caller). c.holds) (live_master image rows)) []

-- A process more, of somebody else, that is lent the sockets of the record's master.
abbrev pub lent : Record → Table → Table
lent r t = record t {
  rows = t.rows ++ Foreign t.next_process (holds_of_image r.generation.image t.rows) ∷ [];
  next_process = t.next_process + 1;
}

---- A start on what is left

abbrev pub is_foreign : Process → Bool
is_foreign (Foreign n hs) = true
is_foreign _ = false

-- these addresses in order, from a descriptor on, each on the socket that is kept
abbrev pub sockets_taken : ℕ → List Address → List Process → List Hold
sockets_taken fd [] rows = []
sockets_taken fd (a ∷ rest) rows = (record { fd = fd; socket = unwrap_or (kept_socket a rows) 0; address = a }) ∷ sockets_taken (fd + 1) rest rows

abbrev pub pid_file_written : Option FilePath → ℕ → List File → List File
pid_file_written None owner files = files
pid_file_written (Some path) owner files = with_file path owner files

-- a stale file may be at the path with the suffix
abbrev pub note_there : Option FilePath → List File → PidNote
note_there None files = NoFile
note_there (Some path) files = if is_some (owner_at (oldbin path) files) then OldbinLeft else InPlace

-- Whoever of old masters and workers is left is ended; a new master of this generation's image takes the sockets of its
-- addresses, and writes the pid file. It has no worker yet, and the generation may be any.
abbrev pub restarted : Settings → Generation → Table → Table
restarted s g t = record t {
  rows = filter is_foreign t.rows ++ Master t.next_process 1 g.image true (sockets_taken 3 s.listeners t.rows) ∷ [];
  files = pid_file_written s.pid t.next_process t.files;
  next_process = t.next_process + 1;
}

abbrev pub restarted_record : Settings → Generation → Table → Record
restarted_record s g t = record (started s s.workers [] t.next_process) { generation = g; note = note_there s.pid t.files }

---- What is promised

-- the new master, and each address on the socket that was kept in the first table
abbrev pub AreOpenIn : Settings → Table → Table → Type 0
AreOpenIn s first u = (a : Address) (socket : ℕ) → has s.listeners a ≡ true → kept_socket a first.rows ≡ Some socket → is_open a socket u ≡ true

-- From the first table, a master that is started with these settings on what is left in a later one: the very same
-- sockets are kept then; its record is true of the table, so that the headline and all that is promised of lives hold
-- from there on; its addresses are open on the sockets that were kept all the time; and one quiet tick brings the service
-- of the settings in full, at the new generation, with each address open at every call of it.
pub record CanTakeOver (s : Settings) (first left : Table) : Type 0 where
  pub kept : (a : Address) → kept_socket a left.rows ≡ kept_socket a first.rows
  pub standing : (g : Generation) → IsStanding (restarted s g left) (restarted_record s g left)
  pub opened : (g : Generation) → AreOpenIn s first (restarted s g left)
  pub heals :
      (g : Generation) → 1 + s.workers ≤ left.limits.processes →
      IsHealed (restarted s g left) (restarted_record s g left) []
      × AllByRecursion (λ (p : Progress). AreOpenIn s first p.table) (run_at (restarted s g left) (restarted_record s g left) (quiet_tick [])).passed
      × IsSame (service (table_after (restarted s g left) (restarted_record s g left) (quiet_tick [])))
      (serving s.listeners g (served (layout_in s.groups s.listeners) (numbers_below s.workers)))

-- KEEPERS. At every standing somebody else's process can be lent the master's sockets: the record stays true, and each of
-- its addresses is kept, on the master's own socket.
pub record IsLent (t : Table) (r : Record) : Type 0 where
  pub standing : IsStanding (lent r t) r
  pub kept : AreAllKept (addresses_of r) (lent r t)
  pub sockets :
      (a : Address) (socket : ℕ) → socket_in a (holds_of_image r.generation.image t.rows) ≡ Some socket →
      kept_socket a (lent r t).rows ≡ Some socket

abbrev pub KeepersCanBeLent : Type 0
KeepersCanBeLent = (t : Table) (r : Record) → IsStanding t r → IsLent t r

-- DEATHS. Of every run from every table of a kernel's, under every pattern, also one that ends an executing master, or
-- both, at any moment: in each table that it passes, where somebody else keeps the sockets of some settings from the
-- first table on, a master that is started with these settings can take over.
abbrev pub DeathsAreSurvived : Type 0
DeathsAreSurvived =
    (t : Table) (r : Record) (target : Target) (turns : List Turn) (pattern : Pattern) (s : Settings) → IsKept t → IsInRange s →
    AreAllKept s.listeners t → AllByRecursion (λ (p : Progress). CanTakeOver s t p.table) (run_of r target turns pattern t).passed

-- So it is from every standing, with settings whose addresses are the record's, once their sockets were lent.
abbrev pub LivesOutliveMasters : Type 0
LivesOutliveMasters =
    (t : Table) (r : Record) (task : Task) (s : Settings) → IsStanding t r → IsInRange s →
    AllByRecursion (λ a. has (addresses_of r) a ≡ true) s.listeners →
    AllByRecursion (λ (p : Progress). CanTakeOver s (lent r t) p.table) (run_at (lent r t) r task).passed

---- Lives with deaths

-- What befalls a master: a task is carried out; or, in the run of one, under any pattern and at any place, it is dead, and
-- a master is started with some settings and a generation on what is left there.
pub data Deed : Type 0 where
  Carries : (task : Task) → Deed
  Dies : (task : Task) (place : ℕ) (s : Settings) (g : Generation) → Deed

-- the table at a place of those that were passed, if there is one
abbrev pub passed_at : ℕ → List Progress → Table → Table
passed_at n [] first = first
passed_at zero (p ∷ rest) first = p.table
passed_at (suc n) (p ∷ rest) first = passed_at n rest first

abbrev pub table_at_death : Table → Record → Task → ℕ → Table
table_at_death t r task place = passed_at place (run_at t r task).passed t

-- The run of a deed's task, and the table and the record after it.
abbrev pub deed_run : Table → Record → Deed → Ran
deed_run t r (Carries task) = run_at t r task
deed_run t r (Dies task place s g) = run_at t r task

abbrev pub table_then : Table → Record → Deed → Table
table_then t r (Carries task) = table_after t r task
table_then t r (Dies task place s g) = restarted s g (table_at_death t r task place)

abbrev pub record_then : Table → Record → Deed → Option Record
record_then t r (Carries task) = record_left_by t r task
record_then t r (Dies task place s g) = Some (restarted_record s g (table_at_death t r task place))

-- A task is carried out; or settings in range have their sockets kept.
abbrev pub CanBefall : Table → Record → Deed → Type 0
CanBefall t r (Carries task) = IsCarriedOut t r task
CanBefall t r (Dies task place s g) = IsInRange s × AreAllKept s.listeners t

-- One fact at each standing, and one at each deed.
abbrev pub Throughout : (Table → Option Record → Type 0) → (Table → Record → Deed → Type 0) → Table → Option Record → List Deed → Type 0
Throughout stands does t None deeds = stands t None
Throughout stands does t (Some r) [] = stands t (Some r)
Throughout stands does t (Some r) (e ∷ deeds) =
    stands t (Some r) × does t r e × Throughout stands does (table_then t r e) (record_then t r e) deeds

-- An address that each service names, and that somebody else keeps on the master's socket at first: it is open on that
-- socket at each standing, and kept on it in every table of every run, whoever has died there.
abbrev pub StaysKept : Table → Record → List Deed → Type 0
StaysKept t r deeds =
    (a : Address) (socket : ℕ) → Throughout (λ u state. is_some (service u a) ≡ true) (λ u x e. ⊤) t (Some r) deeds →
    is_open a socket t ≡ true → kept_socket a t.rows ≡ Some socket →
    Throughout (λ u state. is_open a socket u ≡ true)
    (λ u x e. AllByRecursion (λ (p : Progress). kept_socket a p.table.rows ≡ Some socket) (deed_run u x e).passed) t (Some r) deeds

-- LIVES WITH DEATHS. From every running state, whatever befalls its masters, one after another: each standing is true of
-- its table and can be healed by one quiet tick, and no address is closed that each service names and somebody keeps.
pub record OutlivesMasters (t : Table) (r : Record) (deeds : List Deed) : Type 0 where
  pub standing : Throughout (λ u state. IfSome state (IsStanding u)) (λ u x e. ⊤) t (Some r) deeds
  pub healable : Throughout (λ u state. IfSome state (CanBeHealed u)) (λ u x e. ⊤) t (Some r) deeds
  pub stays_kept : StaysKept t r deeds

abbrev pub LivesWithDeaths : Type 0
LivesWithDeaths =
    (t : Table) (r : Record) (deeds : List Deed) → IsStanding t r → Throughout (λ u state. ⊤) CanBefall t (Some r) deeds →
    OutlivesMasters t r deeds
