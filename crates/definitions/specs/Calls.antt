-- What exits and calls change in the table, and what each call is answered.
--
-- After POSIX (bind, fork, kill, waitpid, rename, unlink; an exit closes all descriptors), nginx's "Controlling nginx"
-- (the pid file with the suffix) and Unicorn's SIGNALS (QUIT lets a worker finish). Our own: a census, and that a new
-- worker says when it is ready; workers end at once with their master; one that exits is in the table until its master
-- hears of it.

use Rattle.vocabulary.specs as vocabulary
use Rattle.definitions.specs as above
use Rattle.std.specs.Prelude.{◌≡◌, ◌+◌, ◌-◌, ◌&&◌, ◌==◌, ◌∷◌, ◌++◌, if◌then◌else◌}
use vocabulary.Words.{refl, ℕ, zero, suc, Bool, true, false, nat_lt, not, List, [], Option, Some, None, filter}
use vocabulary.Words.{count_by, length, bytes_eq, list_any, filter_map, Group, numbers_below, is_in, then_some}
use vocabulary.Words.{option_and_then, option_map, unwrap_or, is_some}
use vocabulary.declared.names.Name.TheVariants as name
use vocabulary.declared.calls.Answer.TheVariants as answer
use vocabulary.declared.calls.Fate.TheVariants as fate
use above.Table.{Listener, FilePath, File, owner_at, Address, Generation, Hold, Process, Master, Worker, Foreign, Table}
use above.Table.{Starting, Ready, Draining, Exited, same_stance, is_active, is_worker_where, is_worker, number_of}
use above.Table.{is_own, is_master, is_held, Caller, live_master, is_live_where, bears, Stance}
pub use vocabulary.declared.names.Name.{Name}
pub use vocabulary.declared.calls.Call.{Call}
pub use vocabulary.declared.calls.Call.TheVariants.{OpenAt, CloseAt, Fork, AwaitReady, Quit, Kill, Census, AwaitGone}
pub use vocabulary.declared.calls.Call.TheVariants.{SpawnMaster, Adopt, WritePid, MovePid, RemovePid, Alive, Leave}
pub use vocabulary.declared.calls.Call.TheVariants.{Usr1, TermMaster, Ask}
pub use vocabulary.declared.calls.Answer.{Answer}
pub use vocabulary.declared.calls.Fate.{Fate}

---- Exits, one after another

-- what becomes of a row that passes the test; the others stay
abbrev pub change : (Process → Bool) → (Process → Process) → Process → Option Process
change test f p = Some (if test p then f p else p)

-- a worker in this stance; one that drains or has exited holds nothing
abbrev pub with_stance : Stance → Process → Process
with_stance stance (Worker n q g k s hs) = Worker n q g k stance (if is_active stance then hs else [])
with_stance stance p = p

abbrev pub first_changed : (Process → Bool) → (Process → Process) → List Process → List Process
first_changed test f [] = []
first_changed test f (p ∷ ps) = if test p then f p ∷ ps else p ∷ first_changed test f ps

-- What becomes of a row where the live master with the number exits: its own row stays, exited and without holds,
-- where its parent is a live master, and leaves otherwise; its workers leave; a master whose parent it was gets
-- parent 1.
abbrev pub without_exited : ℕ → (ℕ → Bool) → Process → Option Process
without_exited gone lives (Master n q i live hs) =
    if n == gone then then_some (lives q) (Master n q i false [])
    else Some (Master n (if q == gone then 1 else q) i live hs)
without_exited gone lives (Worker n q g k s hs) = if q == gone then None else Some (Worker n q g k s hs)
without_exited gone lives (Foreign n hs) = Some (Foreign n hs)

-- A Starting or Ready worker becomes Exited; or the Draining worker of the name with the lowest process number does; or
-- the live master of the image exits, with its workers.
abbrev pub exited : Name → List Process → List Process
exited (name.Worker g k) rows =
    filter_map (change (is_worker_where is_active (λ n. true) (bears g k)) (with_stance Exited)) rows
exited (name.Draining g k) rows =
    first_changed (is_worker_where (same_stance Draining) (λ n. true) (bears g k)) (with_stance Exited) rows
exited (name.Master image) rows =
    let lives = λ (q : ℕ). list_any (is_live_where (λ m holds. m == q)) rows in
    let without = λ (c : Caller). filter_map (without_exited c.number lives) rows in
    unwrap_or (option_map without (live_master image rows)) rows

abbrev pub all_exited : List Name → List Process → List Process
all_exited [] rows = rows
all_exited (e ∷ es) rows = all_exited es (exited e rows)

-- The table after the exits of a moment.
abbrev pub after_exits : List Name → Table → Table
after_exits es t = record t { rows = all_exited es t.rows }

abbrev pub is_active_worker : Process → Bool
is_active_worker (Worker n q g k s hs) = is_active s
is_active_worker _ = false

-- The losses: how many Starting or Ready workers the exits end, an exiting master's included.
abbrev pub losses_of : List Name → Table → ℕ
losses_of es t = count_by is_active_worker t.rows - count_by is_active_worker (all_exited es t.rows)

---- What a call is answered, and the table then

pub record Stepped : Type 0 where
  pub answer : Answer
  pub table : Table

abbrev pub gives : Answer → Table → Stepped
gives a t = record { answer = a; table = t }

-- a table with what each row becomes
abbrev pub each_row : (Process → Option Process) → Table → Table
each_row f t = record t { rows = filter_map f t.rows }

-- a row that passes the test leaves
abbrev pub drop_where : (Process → Bool) → Process → Option Process
drop_where test p = if test p then None else Some p

---- Descriptors

-- the lowest free descriptor of the n from fd on, or the next one after them
abbrev pub free_from : ℕ → ℕ → List Hold → ℕ
free_from zero fd hs = fd
free_from (suc n) fd hs = if list_any (λ h. h.fd == fd) hs then free_from n (fd + 1) hs else fd

abbrev pub lowest_free : List Hold → ℕ
lowest_free hs = free_from (length hs) 3 hs

-- a hold at its place among ascending descriptors
abbrev pub put_hold : Hold → List Hold → List Hold
put_hold h [] = h ∷ []
put_hold h (x ∷ xs) = if nat_lt h.fd x.fd then h ∷ x ∷ xs else x ∷ put_hold h xs

abbrev pub with_holds : (List Hold → List Hold) → Process → Process
with_holds f (Master n q i live hs) = Master n q i live (f hs)
with_holds f (Worker n q g k s hs) = Worker n q g k s (f hs)
with_holds f (Foreign n hs) = Foreign n (f hs)

-- the caller or one of its workers
abbrev pub is_of : ℕ → Process → Bool
is_of caller (Master n q i live hs) = n == caller
is_of caller (Worker n q g k s hs) = q == caller
is_of caller (Foreign n hs) = false

---- Workers

abbrev pub has_process_room : Table → Bool
has_process_room t = nat_lt (count_by is_own t.rows) t.limits.processes

abbrev pub with_new_row : Table → (ℕ → Process) → Table
with_new_row t row = record t { rows = t.rows ++ row t.next_process ∷ []; next_process = t.next_process + 1 }

-- the holds that a worker is given: those of these descriptors, or all
abbrev pub shared : Option (List ℕ) → List Hold → List Hold
shared None hs = hs
shared (Some fds) hs = filter (λ h. is_in fds h.fd) hs

-- the numbers that a Ready worker of the caller bears in the generation; worker numbers are below 1024
unfoldable pub census_of : ℕ → Generation → List Process → List ℕ
census_of caller g rows = filter (λ k. list_any (is_worker (same_stance Ready) caller g k) rows) (numbers_below 1024)

abbrev pub is_exited_of : ℕ → Process → Bool
is_exited_of caller (Worker n q g k s hs) = same_stance Exited s && (q == caller)
is_exited_of caller _ = false

---- Masters

-- a master of the image, live or exited
abbrev pub is_image : ℕ → Process → Bool
is_image image (Master n q i live hs) = i == image
is_image image _ = false

-- a master of the image or one of its workers
abbrev pub is_of_image : ℕ → List Process → Process → Bool
is_of_image image rows (Master n q i live hs) = i == image
is_of_image image rows (Worker n q g k s hs) = list_any (λ p. is_image image p && (number_of p == q)) rows
is_of_image image rows _ = false

-- What an old master tells a new one: its process number, the generation that is to run, its listeners in ascending
-- descriptors, the addresses that are wanted, the groups of workers, which divide these addresses in order, and the
-- pid file.
pub record Handover : Type 0 where
  pub old_pid : ℕ
  pub generation : Generation
  pub listeners : List Listener
  pub want : List Address
  pub groups : List Group
  pub pid_file : Option FilePath

-- What a new master is handed: a handover, or something that is not one.
abbrev pub Handed : Type 0
Handed = Option Handover

-- the descriptors and addresses of these holds, and no other
abbrev pub are_listeners : List Listener → List Hold → Bool
are_listeners [] [] = true
are_listeners (l ∷ ls) (h ∷ hs) = (l.descriptor == h.fd) && (bytes_eq l.address h.address && are_listeners ls hs)
are_listeners _ _ = false

-- What is handed is a handover to the image, with exactly the descriptors and addresses of these holds.
abbrev pub suits : Handed → ℕ → List Hold → Bool
suits None image holds = false
suits (Some h) image holds = (h.generation.image == image) && are_listeners h.listeners holds

---- Files

-- a file's number in its place, or a file more
abbrev pub with_file : FilePath → ℕ → List File → List File
with_file path owner [] = (record { path = path; owner = owner }) ∷ []
with_file path owner (f ∷ files) =
    if bytes_eq f.path path then record { path = path; owner = owner } ∷ files else f ∷ with_file path owner files

abbrev pub without_file : FilePath → List File → List File
without_file path files = filter (λ f. not (bytes_eq f.path path)) files

---- Each call, and the order in one

-- What a live caller of this image is answered where no fate interferes, and the table then; it was handed `handed`.
abbrev pub own_step : Handed → ℕ → Caller → Call → Table → Stepped
-- A new socket of the address, unless a process holds the address or the caller is at its limit of descriptors.
own_step handed image c (OpenAt a) t =
    let hold : Hold = record { fd = lowest_free c.holds; socket = t.next_socket; address = a } in
    let holding = each_row (change (λ p. is_master p && (number_of p == c.number)) (with_holds (put_hold hold))) t in
    if is_held a t.rows then gives answer.InUse t
    else if nat_lt (length c.holds) t.limits.descriptors
    then gives (answer.Opened hold.fd) (record holding { next_socket = t.next_socket + 1 })
    else gives answer.TooMany t
-- The caller and its workers lose their holds of the address.
own_step handed image c (CloseAt a) t =
    gives answer.Fine (each_row (change (is_of c.number) (with_holds (filter (λ h. not (bytes_eq h.address a))))) t)
-- A new Starting worker with the caller's holds under these descriptors, or all of them, unless an active worker of
-- the caller bears the name or the process limit is reached.
own_step handed image c (Fork g k fds) t =
    if list_any (is_worker is_active c.number g k) t.rows then gives answer.Again t
    else if has_process_room t
    then gives answer.Forked (with_new_row t (λ n. Worker n c.number g k Starting (shared fds c.holds)))
    else gives answer.Again t
-- A Starting worker of the name becomes Ready and a Ready one stays so; where there is neither its Exited ones leave.
own_step handed image c (AwaitReady g k) t =
    if list_any (is_worker is_active c.number g k) t.rows
    then gives answer.IsReady (each_row (change (is_worker (same_stance Starting) c.number g k) (with_stance Ready)) t)
    else gives answer.Gone (each_row (drop_where (is_worker (same_stance Exited) c.number g k)) t)
-- The active worker of the name drains and holds nothing.
own_step handed image c (Quit g k) t =
    gives answer.Fine (each_row (change (is_worker is_active c.number g k) (with_stance Draining)) t)
-- All workers of the name leave, in any stance.
own_step handed image c (Kill g k) t = gives answer.Fine (each_row (drop_where (is_worker (λ s. true) c.number g k)) t)
-- The numbers of the caller's Ready workers; its Exited ones of every generation leave.
own_step handed image c (Census g) t =
    gives (answer.Counted (census_of c.number g t.rows)) (each_row (drop_where (is_exited_of c.number)) t)
-- Late while an active worker bears the name; else all of the name leave, and it is gone.
own_step handed image c (AwaitGone g k) t =
    if list_any (is_worker is_active c.number g k) t.rows then gives answer.Late t
    else gives answer.Gone (each_row (drop_where (is_worker (λ s. true) c.number g k)) t)
-- A new master with the caller's holds, unless a master of the image is there or the process limit is reached.
own_step handed image c (SpawnMaster i) t =
    if list_any (is_image i) t.rows then gives answer.Again t
    else if has_process_room t then gives answer.Spawned (with_new_row t (λ n. Master n c.number i true c.holds))
    else gives answer.Again t
-- What it was handed must suit; nothing changes.
own_step handed image c Adopt t =
    if suits handed image c.holds then gives answer.Adopted t else gives answer.Refused t
-- The file has the caller's process number.
own_step handed image c (WritePid path) t = gives answer.Fine (record t { files = with_file path c.number t.files })
-- The second path has the number of the first, which is gone; a fault where the first isn't there.
own_step handed image c (MovePid from to) t =
    let fine = λ (owner : ℕ). gives answer.Fine (record t { files = with_file to owner (without_file from t.files) }) in
    unwrap_or (option_map fine (owner_at from t.files)) (gives answer.IoFault t)
-- The file is gone, also where it wasn't there.
own_step handed image c (RemovePid path) t = gives answer.Fine (record t { files = without_file path t.files })
-- Where no live master is of the image, an exited one leaves.
own_step handed image c (Alive i) t =
    if is_some (live_master i t.rows) then gives answer.IsAlive t
    else gives answer.Gone (each_row (drop_where (is_image i)) t)
-- The caller leaves, with its workers, as it would by an exit of which nobody hears.
own_step handed image c Leave t = gives answer.Fine (each_row (without_exited c.number (λ parent. false)) t)
-- The master of the image leaves, live or exited, and its workers do.
own_step handed image c (TermMaster i) t = gives answer.Fine (each_row (drop_where (is_of_image i t.rows)) t)
-- A worker is told to reopen its logs, or the operator is asked; nothing changes.
own_step handed image c (Usr1 g k) t = gives answer.Fine t
own_step handed image c (Ask n) t = gives answer.Go t

-- the answer that a fate gives at a call; one that is not the call's, or whose condition does not hold, gives none
abbrev pub fault_of : Caller → Call → Fate → Table → Option Answer
fault_of c (OpenAt a) fate.InUse t = Some answer.InUse
fault_of c (OpenAt a) fate.TooMany t = Some answer.TooMany
fault_of c (OpenAt a) fate.Denied t = Some answer.Denied
fault_of c (OpenAt a) fate.NoMemory t = Some answer.NoMemory
fault_of c (Fork g k fds) fate.Again t = Some answer.Again
fault_of c (Fork g k fds) fate.NoMemory t = Some answer.NoMemory
fault_of c (AwaitReady g k) fate.Late t =
    then_some (list_any (is_worker (same_stance Starting) c.number g k) t.rows) answer.Late
fault_of c (AwaitGone g k) fate.Late t =
    then_some (list_any (is_worker (same_stance Draining) c.number g k) t.rows) answer.Late
fault_of c (SpawnMaster i) fate.Again t = Some answer.Again
fault_of c (SpawnMaster i) fate.NoMemory t = Some answer.NoMemory
fault_of c (SpawnMaster i) fate.NoImage t = Some answer.NoImage
fault_of c Adopt fate.Refused t = Some answer.Refused
fault_of c (WritePid path) fate.IoFault t = Some answer.IoFault
fault_of c (MovePid from to) fate.IoFault t = Some answer.IoFault
fault_of c (RemovePid path) fate.IoFault t = Some answer.IoFault
fault_of c (Ask n) fate.Back t = Some answer.Back
fault_of c _ _ t = None

abbrev pub step_by : Handed → ℕ → Option Caller → Call → Option Fate → Table → Stepped
step_by handed image None call f t = gives answer.MasterGone t
step_by handed image (Some c) call f t =
    unwrap_or (option_map (λ a. gives a t) (option_and_then (λ fate. fault_of c call fate t) f))
    (own_step handed image c call t)

-- A call by the master of an image. Where that master is not live: master-gone, and nothing changes. Else, where the
-- fate gives an answer: that one, and nothing changes. Else the call's own answer.
abbrev pub step_with : Handed → ℕ → Call → Option Fate → Table → Stepped
step_with handed image call f t = step_by handed image (live_master image t.rows) call f t

---- An example: a Ready worker exits, and is there until its master hears of it

example :
    all_exited (name.Worker (record { image = 1; config = 1 }) 0 ∷ [])
    (Worker 101 100 (record { image = 1; config = 1 }) 0 Ready [] ∷ [])
    ≡ Worker 101 100 (record { image = 1; config = 1 }) 0 Exited [] ∷ []
example = refl
