-- A start on what is left is a standing, on the sockets that are kept.
use Rattle.std.proofs.Common.{◌≡◌, ℕ, ◌+◌, ◌<◌, ◌≤◌, Bool, true, false, cond, not, List, [], ◌∷◌, ◌++◌, Option, Some, None, refl, sym, ap, ◌∙◌, arith, length, count_by}
use Rattle.std.specs.Prelude.{map, is_some, unwrap_or, bytes_eq, ◌&&◌, ◌||◌, ◌==◌, if◌then◌else◌}
use Rattle.std.specs.Option.{option_or}
use Rattle.std.specs.List.{AllByRecursion, list_any}
use Rattle.std.proofs.lemmas.Option.{none-some, same_Some}
use Rattle.listener_set.specs.Numbers.{RisesFrom, numbers_below, is_in}
use Rattle.listener_set.specs.AddressList.{has}
use Rattle.listener_set.specs.declared.generation.Generation.{Generation}
use Rattle.vocabulary.specs.Settings.{Settings, IsInRange, listeners_from}
use Rattle.vocabulary.specs.declared.table.Listener.{Listener}
use Rattle.vocabulary.specs.declared.plans.PidNote.TheVariants.{InPlace, OldbinLeft}
use Rattle.definitions.specs.Table.{Address, FilePath, File, Hold, Process, Master, Worker, Foreign, Table, Caller}
use Rattle.definitions.specs.Table.{is_worker, is_active, is_own, is_master, live_master, owner_at, service, serving, number_of, IsSame, IsQuiet, HasParent, IsAscending}
use Rattle.definitions.specs.Calls.{is_image, with_file}
use Rattle.definitions.specs.Master.{Record, Mend, IsRunning, FilesAre, oldbin, layout_in, layout_of, served, addresses_of, group_of, want, wanted_at, crew_of, handover_for}
use Rattle.definitions.specs.Run.{Progress, start_at}
use Rattle.definitions.specs.Plans.{plan_tree}
use Rattle.definitions.specs.Table.{Stance, has_address, is_serving, is_live_where, same_generation}
use Rattle.definitions.specs.Claims.{Kept, run_of}
use Rattle.call_laws.specs.Pieces.{is_ready}
use Rattle.table_laws.proofs.Rows.{every-more, every-append, every-both}
use Rattle.table_laws.proofs.Views.{eqb-refl}
use Rattle.table_laws.proofs.Sets.{filter-le, below-length}
use Rattle.table_laws.proofs.Shares.{group-below}
use Rattle.table_laws.proofs.Files.{written-file, other-written, other-oldbin}
use Rattle.table_laws.proofs.Addresses.{same-address}
use Rattle.kernel_table.specs.Room.{IsKept, HasSockets}
use Rattle.kernel_model.proofs.CallSteps.{count-append, count-none, ascending-append}
use Rattle.theorems.proofs.LaidOut.{starts-laid-out}
use Rattle.lives.specs.Lives.{IsStanding, IsCarriedOut, HasProcessesFor, is_open, quiet_tick, run_at, full_service}
use Rattle.lives.specs.Deaths.{is_foreign, kept_socket, socket_in, AreAllKept, sockets_taken, pid_file_written, note_there, restarted, restarted_record, AreOpenIn, CanTakeOver, DeathsAreSurvived}
use Rattle.lives.proofs.Standing.{promised}
use Rattle.lives.proofs.Healing.{heals, quiet-spares}
use Rattle.lives.proofs.Leftovers.{strangers, kept-by, all-kept, all-those}

---- Lists of somebody else's processes

-- all rows are somebody else's
abbrev IsStranger : Process → Type 0
IsStranger p = is_foreign p ≡ true

all-strangers : (rows : List Process) → AllByRecursion IsStranger (strangers rows)
all-strangers [] = tt
all-strangers (Foreign n hs ∷ rows) = (refl, all-strangers rows)
all-strangers (Master n q i live hs ∷ rows) = all-strangers rows
all-strangers (Worker n q g k s hs ∷ rows) = all-strangers rows

-- who passes no such test
none-of : (test : Process → Bool) → ((n : ℕ) (hs : List Hold) → test (Foreign n hs) ≡ false) → (rows : List Process) → AllByRecursion IsStranger rows → list_any test rows ≡ false
none-of test off [] h = refl
none-of test off (Foreign n hs ∷ rows) h = rw (off n hs) (none-of test off rows h.1)
none-of test off (Master n q i live hs ∷ rows) h = absurd (let z = h.0 in cc)
none-of test off (Worker n q g k s hs ∷ rows) h = absurd (let z = h.0 in cc)

each-of : (P : Process → Type 0) → ((n : ℕ) (hs : List Hold) → P (Foreign n hs)) → (rows : List Process) → AllByRecursion IsStranger rows → AllByRecursion P rows
each-of P all [] h = tt
each-of P all (Foreign n hs ∷ rows) h = (all n hs, each-of P all rows h.1)
each-of P all (Master n q i live hs ∷ rows) h = absurd (let z = h.0 in cc)
each-of P all (Worker n q g k s hs ∷ rows) h = absurd (let z = h.0 in cc)

-- what holds of all rows holds of theirs
part-of : (P : Process → Type 0) (rows : List Process) → AllByRecursion P rows → AllByRecursion P (strangers rows)
part-of P [] h = tt
part-of P (Foreign n hs ∷ rows) h = (h.0, part-of P rows h.1)
part-of P (Master n q i live hs ∷ rows) h = part-of P rows h.1
part-of P (Worker n q g k s hs ∷ rows) h = part-of P rows h.1

lower : (rows : List Process) (a b next : ℕ) → a ≤ b → IsAscending b rows next → IsAscending a rows next
lower [] a b next le h = omega (arith, le, h)
lower (p ∷ rows) a b next le h = (omega (arith, le, h.0), h.1)

ascend-part : (rows : List Process) (a next : ℕ) → IsAscending a rows next → IsAscending a (strangers rows) next
ascend-part [] a next h = h
ascend-part (Foreign n hs ∷ rows) a next h = (h.0, ascend-part rows (n + 1) next h.1)
ascend-part (Master n q i live hs ∷ rows) a next h = lower (strangers rows) a (n + 1) next (omega (arith, h.0)) (ascend-part rows (n + 1) next h.1)
ascend-part (Worker n q g k s hs ∷ rows) a next h = lower (strangers rows) a (n + 1) next (omega (arith, h.0)) (ascend-part rows (n + 1) next h.1)

-- where one row is there a number was used
some-number : (rows : List Process) (a next : ℕ) → IsAscending a rows next → a ≤ next
some-number [] a next h = h
some-number (p ∷ rows) a next h = omega (arith, h.0, some-number rows (number_of p + 1) next h.1)

used : (a : Address) (rows : List Process) (next : ℕ) → IsAscending 0 rows next → is_some (kept_socket a rows) ≡ true → 1 ≤ next
used a [] next h e = absurd (cc)
used a (p ∷ rows) next h e = omega (arith, some-number rows (number_of p + 1) next h.1)

live-last : (image : ℕ) (c : Caller) (rows : List Process) → AllByRecursion IsStranger rows → (n q : ℕ) (hs : List Hold) →
    live_master image (rows ++ Master n q image true hs ∷ []) ≡ Some (record { number = n; holds = hs })
live-last image c [] h n q hs = rw (eqb-refl image image refl) refl
live-last image c (Foreign m ks ∷ rows) h n q hs = live-last image c rows h.1 n q hs
live-last image c (Master m q' i live ks ∷ rows) h n q hs = absurd (let z = h.0 in cc)
live-last image c (Worker m q' g k s ks ∷ rows) h n q hs = absurd (let z = h.0 in cc)

any-last : (test : Process → Bool) (rows : List Process) (p : Process) → test p ≡ true → list_any test (rows ++ p ∷ []) ≡ true
any-last test [] p e = rw e refl
any-last test (x ∷ rows) p e = go (test x) (any-last test rows p e)
  where
    go : (b : Bool) → list_any test (rows ++ p ∷ []) ≡ true → (b || list_any test (rows ++ p ∷ [])) ≡ true
    go true ih = refl
    go false ih = ih

none-last : (test : Process → Bool) (rows : List Process) (p : Process) → list_any test rows ≡ false → test p ≡ false → list_any test (rows ++ p ∷ []) ≡ false
none-last test [] p e f = rw f refl
none-last test (x ∷ rows) p e f = go (test x) e (none-last test rows p)
  where
    go :
        (b : Bool) → (b || list_any test rows) ≡ false → (list_any test rows ≡ false → test p ≡ false → list_any test (rows ++ p ∷ []) ≡ false) →
        (b || list_any test (rows ++ p ∷ [])) ≡ false
    go true e ih = absurd (cc)
    go false e ih = ih e f

---- Sockets

-- the sockets that are kept are the table's
socket-known : (a : Address) (hs : List Hold) (next socket : ℕ) → AllByRecursion (λ (h : Hold). (1 ≤ h.socket) × (h.socket < next)) hs → socket_in a hs ≡ Some socket → (1 ≤ socket) × (socket < next)
socket-known a [] next socket h e = absurd (none-some socket e)
socket-known a (x ∷ hs) next socket h e = go (bytes_eq x.address a) e (socket-known a hs next socket h.1)
  where
    go :
        (b : Bool) → (if b then Some x.socket else socket_in a hs) ≡ Some socket →
        (socket_in a hs ≡ Some socket → (1 ≤ socket) × (socket < next)) → (1 ≤ socket) × (socket < next)
    go true e ih = let same = same_Some x.socket socket e in (omega (arith, h.0.0, same), omega (arith, h.0.1, same))
    go false e ih = ih e

kept-known : (a : Address) (rows : List Process) (next socket : ℕ) → AllByRecursion (HasSockets next) rows → kept_socket a rows ≡ Some socket → (1 ≤ socket) × (socket < next)
kept-known a [] next socket h e = absurd (none-some socket e)
kept-known a (Foreign n hs ∷ rows) next socket h e = go (kept_socket a rows) refl e (λ f. kept-known a rows next socket h.1 f)
  where
    go :
        (o : Option ℕ) → kept_socket a rows ≡ o → option_or o (socket_in a hs) ≡ Some socket →
        (kept_socket a rows ≡ Some socket → (1 ≤ socket) × (socket < next)) → (1 ≤ socket) × (socket < next)
    go (Some x) is e ih = ih (is ∙ e)
    go None is e ih = socket-known a hs next socket h.0 e
kept-known a (Master n q i live hs ∷ rows) next socket h e = kept-known a rows next socket h.1 e
kept-known a (Worker n q g k s hs ∷ rows) next socket h e = kept-known a rows next socket h.1 e

taken-known :
    (fd : ℕ) (l : List Address) (rows : List Process) (next : ℕ) → AllByRecursion (HasSockets next) rows →
    AllByRecursion (λ a. is_some (kept_socket a rows) ≡ true) l → AllByRecursion (λ (h : Hold). (1 ≤ h.socket) × (h.socket < next)) (sockets_taken fd l rows)
taken-known fd [] rows next h all = tt
taken-known fd (a ∷ l) rows next h all = (go (kept_socket a rows) refl all.0, taken-known (fd + 1) l rows next h all.1)
  where
    go : (o : Option ℕ) → kept_socket a rows ≡ o → is_some o ≡ true → (1 ≤ unwrap_or o 0) × (unwrap_or o 0 < next)
    go (Some x) is e = kept-known a rows next x h is
    go None is e = absurd (cc)

-- what is taken is listened on
taken-listened : (fd : ℕ) (l : List Address) (rows : List Process) → map (λ (h : Hold). record { descriptor = h.fd; address = h.address }) (sockets_taken fd l rows) ≡ listeners_from fd l
taken-listened fd [] rows = refl
taken-listened fd (a ∷ l) rows = ap (λ ls. (record { descriptor = fd; address = a }) ∷ ls) (taken-listened (fd + 1) l rows)

taken-open :
    (fd : ℕ) (l : List Address) (rows : List Process) (a : Address) (socket : ℕ) → has l a ≡ true → kept_socket a rows ≡ Some socket →
    list_any (λ (h : Hold). bytes_eq h.address a && (h.socket == socket)) (sockets_taken fd l rows) ≡ true
taken-open fd [] rows a socket e k = absurd (cc)
taken-open fd (x ∷ l) rows a socket e k = go (bytes_eq x a) refl e (λ f. taken-open (fd + 1) l rows a socket f k)
  where
    go :
        (b : Bool) → bytes_eq x a ≡ b → (b || has l a) ≡ true →
        (has l a ≡ true → list_any (λ (h : Hold). bytes_eq h.address a && (h.socket == socket)) (sockets_taken (fd + 1) l rows) ≡ true) →
        ((b && (unwrap_or (kept_socket x rows) 0 == socket)) || list_any (λ (h : Hold). bytes_eq h.address a && (h.socket == socket)) (sockets_taken (fd + 1) l rows)) ≡ true
    go true is e ih =
        let same : unwrap_or (kept_socket x rows) 0 ≡ socket = ap (λ y. unwrap_or (kept_socket y rows) 0) (same-address x a is) ∙ ap (λ o. unwrap_or o 0) k in
        rw (eqb-refl (unwrap_or (kept_socket x rows) 0) socket same) refl
    go false is e ih = ih e

---- The record

pub listed : (fd : ℕ) (l : List Address) → map (λ (x : Listener). x.address) (listeners_from fd l) ≡ l
listed fd [] = refl
listed fd (a ∷ l) = ap (λ r. a ∷ r) (listed (fd + 1) l)

pub listed-length : (fd : ℕ) (l : List Address) → length (listeners_from fd l) ≡ length l
listed-length fd [] = refl
listed-length fd (a ∷ l) = omega (arith, listed-length (fd + 1) l)

pub listed-rises : (fd : ℕ) (l : List Address) → RisesFrom fd (map (λ (x : Listener). x.descriptor) (listeners_from fd l))
listed-rises fd [] = tt
listed-rises fd (a ∷ l) = (omega arith, listed-rises (fd + 1) l)

files-there : (path : Option FilePath) (n : ℕ) (files : List File) → FilesAre (note_there path files) path n (pid_file_written path n files)
files-there None n files = tt
files-there (Some path) n files = go (owner_at (oldbin path) files) refl
  where
    go : (o : Option ℕ) → owner_at (oldbin path) files ≡ o → FilesAre (if is_some o then OldbinLeft else InPlace) (Some path) n (with_file path n files)
    go None is = (written-file path n files, other-written path (oldbin path) n files (other-oldbin path) ∙ is)
    go (Some x) is = (written-file path n files, ap is_some (other-written path (oldbin path) n files (other-oldbin path) ∙ is))

module _ (s : Settings) (range : IsInRange s) (g : Generation) (t : Table) (kept : IsKept t) (all : AreAllKept s.listeners t) where
  abbrev others : List Process
  others = strangers t.rows

  abbrev holds : List Hold
  holds = sockets_taken 3 s.listeners t.rows

  abbrev own : Process
  own = Master t.next_process 1 g.image true holds

  abbrev u : Table
  u = restarted s g t

  abbrev r : Record
  r = restarted_record s g t

  theirs : AllByRecursion IsStranger others
  theirs = all-strangers t.rows

  -- none of them is a worker
  no-worker : (stance : Stance → Bool) (q : ℕ) (h : Generation) (k : ℕ) → list_any (is_worker stance q h k) u.rows ≡ false
  no-worker stance q h k = none-last (is_worker stance q h k) others own (none-of (is_worker stance q h k) (λ n hs. refl) others theirs) refl

  one-master : count_by is_master u.rows ≡ 1
  one-master = count-append is_master others own ∙ ap (λ n. n + 1) (count-none is_master others (none-of is_master (λ n hs. refl) others theirs))

  one-own : count_by is_own u.rows ≡ 1
  one-own = count-append is_own others own ∙ ap (λ n. n + 1) (count-none is_own others (none-of is_own (λ n hs. refl) others theirs))

  few-images : (i : ℕ) → count_by (is_image i) u.rows ≤ 1
  few-images i =
      let none = count-none (is_image i) others (none-of (is_image i) (λ n hs. refl) others theirs) in
      let more = count-append (is_image i) others own in
      go (is_image i own) none more
    where
      go : (b : Bool) → count_by (is_image i) others ≡ 0 → count_by (is_image i) u.rows ≡ count_by (is_image i) others + cond b 1 0 → count_by (is_image i) u.rows ≤ 1
      go true none more = omega (arith, none, more)
      go false none more = omega (arith, none, more)

  some-address : (l : List Address) → 1 ≤ length l → AllByRecursion (λ a. is_some (kept_socket a t.rows) ≡ true) l → 1 ≤ t.next_process
  some-address [] le h = absurd (omega (arith, le))
  some-address (a ∷ l) le h = used a t.rows t.next_process kept.formed.ascending h.0

  pub kept-then : IsKept u
  kept-then = record {
    formed = record {
      once = λ q h k. omega (arith, count-none (is_worker is_active q h k) u.rows (no-worker is_active q h k));
      quiet = every-append IsQuiet others own (each-of IsQuiet (λ n hs. tt) others theirs) tt;
      parents = every-append (HasParent u.rows) others own (each-of (HasParent u.rows) (λ n hs. tt) others theirs) tt;
      ascending = ascending-append others 0 t.next_process own refl (ascend-part t.rows 0 t.next_process kept.formed.ascending);
    };
    masters = few-images;
    sockets =
        every-append (HasSockets t.next_socket) others own (part-of (HasSockets t.next_socket) t.rows kept.sockets)
        (taken-known 3 s.listeners t.rows t.next_socket kept.sockets all);
    first = kept.first;
    descriptors = kept.descriptors;
  }

  pub stands : IsStanding u r
  stands = record {
    start = record {
      formed = kept-then.formed;
      agrees = record {
        holds = holds;
        lives = live-last g.image (record { number = t.next_process; holds = holds }) others theirs t.next_process 1 holds;
        alone = one-master;
        listeners = taken-listened 3 s.listeners t.rows;
        running = every-append (IsRunning t.next_process (crew_of r) holds) others own (each-of (IsRunning t.next_process (crew_of r) holds) (λ n hs. tt) others theirs) tt;
        ready = λ k. no-worker is_ready t.next_process g k;
        files = files-there s.pid t.next_process t.files;
      };
      record_in_range = record {
        listens = omega (arith, range.listens, listed-length 3 s.listeners);
        groups = range.groups;
        wanted = range.workers;
        ready = tt;
        retries = range.retries;
        timeout_least = range.timeout_least;
        timeout_most = range.timeout_most;
        pid_path = range.pid;
        pid = some-address s.listeners range.listens all;
      };
      rising = tt;
    };
    descriptors = record { descriptors = listed-rises 3 s.listeners; limit = kept.descriptors };
    kept = kept-then;
  }

  -- the addresses are open on the sockets that were kept
  pub opens : (a : Address) (socket : ℕ) → has s.listeners a ≡ true → kept_socket a t.rows ≡ Some socket → is_open a socket u ≡ true
  opens a socket e k = any-last _ others own (taken-open 3 s.listeners t.rows a socket e k)

  held : (fd : ℕ) (l : List Address) (a : Address) → has l a ≡ true → has_address a (sockets_taken fd l t.rows) ≡ true
  held fd [] a e = absurd (cc)
  held fd (x ∷ l) a e = go (bytes_eq x a) e (held (fd + 1) l a)
    where
      go : (b : Bool) → (b || has l a) ≡ true → (has l a ≡ true → has_address a (sockets_taken (fd + 1) l t.rows) ≡ true) → (b || has_address a (sockets_taken (fd + 1) l t.rows)) ≡ true
      go true e ih = refl
      go false e ih = ih e

  named-first : (a : Address) → has s.listeners a ≡ true → is_some (service u a) ≡ true
  named-first a e = go (list_any (is_live_where (λ n hs. has_address a hs)) u.rows) (any-last (is_live_where (λ n hs. has_address a hs)) others own (held 3 s.listeners a e))
    where
      go : (b : Bool) → b ≡ true → is_some {T = Generation → ℕ} (if b then Some (λ h. count_by (is_serving a (λ z. same_generation z h)) u.rows) else None) ≡ true
      go true e = refl
      go false e = absurd (cc)

  named-then : (a : Address) → has s.listeners a ≡ true → is_some (want r (Mend []) a) ≡ true
  named-then a e = go (has (addresses_of r) a) (ap (λ l. has l a) (listed 3 s.listeners) ∙ e)
    where
      go : (b : Bool) → b ≡ true → is_some {T = Generation → ℕ} (if b then Some (λ h. if same_generation h g then wanted_at r (Mend []) a else 0) else None) ≡ true
      go true e = refl
      go false e = absurd (cc)

  has-room : 1 + s.workers ≤ t.limits.processes → HasProcessesFor u r []
  has-room le =
      let few = filter-le (λ k. not (is_in r.ready k) || is_in [] k) (numbers_below s.workers) in
      omega (arith, le, one-own, few, below-length s.workers)

  carried : IsCarriedOut u r (quiet_tick [])
  carried = record { allows = tt; spared = quiet-spares (g.image ∷ []) [] 0 (run_at u r (quiet_tick [])).entries }

  pub stays : AllByRecursion (λ (p : Progress). (a : Address) (socket : ℕ) → has s.listeners a ≡ true → kept_socket a t.rows ≡ Some socket → is_open a socket p.table ≡ true) (run_at u r (quiet_tick [])).passed
  stays =
      every-more (λ (p : Progress). Kept (service u) (want r (Mend [])) u p.table)
      (λ (p : Progress). (a : Address) (socket : ℕ) → has s.listeners a ≡ true → kept_socket a t.rows ≡ Some socket → is_open a socket p.table ≡ true)
      (λ p kept_there a socket e k. kept_there a socket (named-first a e, named-then a e) (opens a socket e k))
      (run_at u r (quiet_tick [])).passed (promised u r (quiet_tick []) stands carried).kept

  -- the service in full is that of the settings
  full-is : IsSame (full_service r) (serving s.listeners g (served (layout_in s.groups s.listeners) (numbers_below s.workers)))
  full-is a =
      let laid = starts-laid-out s s.workers [] t.next_process range.addresses_add_up in
      let each : (k : ℕ) (b : Address) → (layout_of r).listens (group_of s.groups k) b ≡ (layout_in s.groups s.listeners).listens (group_of s.groups k) b =
      λ k b. laid.1 (group_of s.groups k) b (group-below s.groups k range.groups.some) in
      λ i. serving (listed 3 s.listeners i) g (λ b. count_by (λ k. each k b i) (numbers_below s.workers)) a

---- The same is kept after it

kept-append : (a : Address) (rows : List Process) (n q i : ℕ) (live : Bool) (hs : List Hold) → kept_socket a (rows ++ Master n q i live hs ∷ []) ≡ kept_socket a rows
kept-append a [] n q i live hs = refl
kept-append a (Foreign m ks ∷ rows) n q i live hs = ap (λ o. option_or o (socket_in a ks)) (kept-append a rows n q i live hs)
kept-append a (Master m p j l ks ∷ rows) n q i live hs = kept-append a rows n q i live hs
kept-append a (Worker m p g k s ks ∷ rows) n q i live hs = kept-append a rows n q i live hs

pub restarted-kept : (s : Settings) (g : Generation) (t : Table) (a : Address) → kept_socket a (restarted s g t).rows ≡ kept_socket a t.rows
restarted-kept s g t a = kept-append a (strangers t.rows) t.next_process 1 g.image true (sockets_taken 3 s.listeners t.rows) ∙ kept-by a t.rows

---- In every table of a run

module _ (s : Settings) (range : IsInRange s) (first left : Table) (all : AreAllKept s.listeners first) (kept : IsKept left) (same : strangers left.rows ≡ strangers first.rows) where
  kept-same : (a : Address) → kept_socket a left.rows ≡ kept_socket a first.rows
  kept-same a = sym (kept-by a left.rows) ∙ ap (kept_socket a) same ∙ kept-by a first.rows

  all-left : AreAllKept s.listeners left
  all-left =
      every-more (λ a. is_some (kept_socket a first.rows) ≡ true) (λ a. is_some (kept_socket a left.rows) ≡ true)
      (λ a e. ap is_some (kept-same a) ∙ e) s.listeners all

  pub takes-over : CanTakeOver s first left
  takes-over = record {
    kept = kept-same;
    standing = λ g. stands s range g left kept all-left;
    opened = λ g a socket e k. opens s range g left kept all-left a socket e (kept-same a ∙ k);
    heals =
        λ g le. let h = heals (restarted s g left) (restarted_record s g left) (stands s range g left kept all-left) [] (has-room s range g left kept all-left le) in (
          h,
          every-more
              (λ (p : Progress). (a : Address) (socket : ℕ) → has s.listeners a ≡ true → kept_socket a left.rows ≡ Some socket → is_open a socket p.table ≡ true)
              (λ (p : Progress). AreOpenIn s first p.table) (λ p on a socket e k. on a socket e (kept-same a ∙ k))
              (run_at (restarted s g left) (restarted_record s g left) (quiet_tick [])).passed (stays s range g left kept all-left),
          λ a. h.service_is a ∙ full-is s range g left kept all-left a,
        );
  }

pub deaths-survived : DeathsAreSurvived
deaths-survived t r target turns pattern s kept range all =
    let handed = handover_for r target in
    let tree = plan_tree r target turns in
    let p0 = start_at t r.note in
    every-more (λ (p : Progress). IsKept p.table × (strangers p.table.rows ≡ strangers t.rows)) (λ (p : Progress). CanTakeOver s t p.table)
    (λ p h. takes-over s range t p.table all h.0 h.1) (run_of r target turns pattern t).passed
    (every-both (λ (p : Progress). IsKept p.table) (λ (p : Progress). strangers p.table.rows ≡ strangers t.rows) (run_of r target turns pattern t).passed
    (all-kept handed tree pattern p0 kept) (all-those (strangers t.rows) handed tree pattern p0 refl))
