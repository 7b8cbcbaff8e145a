-- Somebody else's process is lent the sockets of a master: all else stays as it was.
use Rattle.std.proofs.Common.{◌≡◌, ℕ, ◌+◌, Bool, true, false, List, [], ◌∷◌, ◌++◌, Option, Some, None, refl, sym, ap, ◌∙◌, subst, arith}
use Rattle.std.specs.Prelude.{is_some, unwrap_or, bytes_eq, option_map, ◌||◌, if◌then◌else◌}
use Rattle.std.specs.Option.{option_or}
use Rattle.std.specs.List.{AllByRecursion, list_any}
use Rattle.std.proofs.lemmas.List.Folds.{list_any-append}
use Rattle.listener_set.specs.AddressList.{has}
use Rattle.definitions.specs.Table.{Address, Hold, Process, Master, Worker, Foreign, Table, Caller, is_worker, is_active, is_master, has_address, IsQuiet, HasParent}
use Rattle.definitions.specs.Calls.{is_image}
use Rattle.definitions.specs.Master.{Record, IsRunning, crew_of, addresses_of}
use Rattle.call_laws.specs.Pieces.{is_live_master, is_ready}
use Rattle.table_laws.proofs.Rows.{every-append, or-right}
use Rattle.table_laws.proofs.Addresses.{address-refl}
use Rattle.kernel_table.specs.Room.{HasSockets, IsKept}
use Rattle.kernel_table.proofs.Keeping.{AreKept}
use Rattle.kernel_model.proofs.Steps.{KeepsMasters, HasParent-up}
use Rattle.kernel_model.proofs.CallSteps.{all-append, all-up, ascending-append, count-append, caller-sockets}
use Rattle.kernel_model.proofs.CallsKept.{kept-table, kept-rows}
use Rattle.theorems.proofs.Ends.{first-keys}
use Rattle.lives.specs.Lives.{IsStanding}
use Rattle.lives.specs.Deaths.{socket_in, kept_socket, AreAllKept, holds_of_image, lent, IsLent, KeepersCanBeLent, LivesOutliveMasters}
use Rattle.lives.proofs.Healing.{live-append}
use Rattle.lives.proofs.Restart.{deaths-survived}

-- a row of somebody else's at the end
none-more : (test : Process → Bool) (rows : List Process) (n : ℕ) (hs : List Hold) → test (Foreign n hs) ≡ false → list_any test (rows ++ Foreign n hs ∷ []) ≡ list_any test rows
none-more test rows n hs off = list_any-append test rows (Foreign n hs ∷ []) ∙ rw off (go (list_any test rows))
  where
    go : (b : Bool) → (b || false) ≡ b
    go true = refl
    go false = refl

kept-last : (a : Address) (rows : List Process) (n : ℕ) (hs : List Hold) (socket : ℕ) → socket_in a hs ≡ Some socket → kept_socket a (rows ++ Foreign n hs ∷ []) ≡ Some socket
kept-last a [] n hs socket e = e
kept-last a (Foreign m ks ∷ rows) n hs socket e = ap (λ o. option_or o (socket_in a ks)) (kept-last a rows n hs socket e)
kept-last a (Master m q i live ks ∷ rows) n hs socket e = kept-last a rows n hs socket e
kept-last a (Worker m q g k s ks ∷ rows) n hs socket e = kept-last a rows n hs socket e

some-socket : (a : Address) (hs : List Hold) → has_address a hs ≡ true → is_some (socket_in a hs) ≡ true
some-socket a [] e = absurd (cc)
some-socket a (h ∷ hs) e = go (bytes_eq h.address a) e (some-socket a hs)
  where
    go : (b : Bool) → (b || has_address a hs) ≡ true → (has_address a hs ≡ true → is_some (socket_in a hs) ≡ true) → is_some (if b then Some h.socket else socket_in a hs) ≡ true
    go true e ih = refl
    go false e ih = ih e

-- what a list has
has-all : (P : Address → Type 0) (l : List Address) → ((a : Address) → has l a ≡ true → P a) → (part : List Address) → AllByRecursion (λ a. has l a ≡ true) part → AllByRecursion P part
has-all P l h [] all = tt
has-all P l h (a ∷ part) all = (h a all.0, has-all P l h part all.1)

all-there : (l : List Address) → AllByRecursion (λ a. has l a ≡ true) l
all-there l = go l (λ a e. e)
  where
    go : (part : List Address) → ((a : Address) → has part a ≡ true → has l a ≡ true) → AllByRecursion (λ a. has l a ≡ true) part
    go [] up = tt
    go (x ∷ part) up = (up x (rw (address-refl x) refl), go part (λ a e. up a (or-right (bytes_eq x a) (has part a) e)))

module _ (t : Table) (r : Record) (s : IsStanding t r) where
  abbrev holds : List Hold
  holds = s.start.agrees.holds

  abbrev stranger : Process
  stranger = Foreign t.next_process holds

  abbrev u : Table
  u = record t { rows = t.rows ++ stranger ∷ []; next_process = t.next_process + 1 }

  -- the master's holds are those that are lent
  lent-is : lent r t ≡ u
  lent-is = ap (λ (o : Option Caller). record t { rows = t.rows ++ Foreign t.next_process (unwrap_or (option_map (λ (c : Caller). c.holds) o) []) ∷ []; next_process = t.next_process + 1 }) s.start.agrees.lives

  rows-kept : AreKept u.rows u.next_process u.next_socket
  rows-kept =
      let h = kept-table t s.kept in
      let up : KeepsMasters t.rows u.rows = λ q e. list_any-append (is_live_master q) t.rows (stranger ∷ []) ∙ ap (λ b. b || list_any (is_live_master q) (stranger ∷ [])) e in
      record {
        once = λ q g k. (let most = h.once q g k in let same = count-append (is_worker is_active q g k) t.rows stranger in omega arith);
        masters = λ i. (let most = h.masters i in let same = count-append (is_image i) t.rows stranger in omega arith);
        quiet = all-append IsQuiet t.rows stranger h.quiet tt;
        parents = all-append (HasParent u.rows) t.rows stranger (all-up (HasParent t.rows) (HasParent u.rows) (HasParent-up t.rows u.rows up) t.rows h.parents) tt;
        ascending = ascending-append t.rows 0 t.next_process stranger refl h.ascending;
        sockets =
            all-append (HasSockets t.next_socket) t.rows stranger h.sockets
            (caller-sockets r.generation.image t.next_socket t.rows (record { number = r.pid; holds = holds }) s.start.agrees.lives h.sockets);
      }

  u-kept : IsKept u
  u-kept = kept-rows t u s.kept rows-kept (omega arith) refl

  u-stands : IsStanding u r
  u-stands =
      let a = s.start.agrees in
      record {
        start = record {
          formed = u-kept.formed;
          agrees = record {
            holds = holds;
            lives = live-append r.generation.image (record { number = r.pid; holds = holds }) t.rows stranger a.lives;
            alone = count-append is_master t.rows stranger ∙ omega (arith, a.alone);
            listeners = a.listeners;
            running = every-append (IsRunning r.pid (crew_of r) holds) t.rows stranger a.running tt;
            ready = λ k. none-more (is_worker is_ready r.pid r.generation k) t.rows t.next_process holds refl ∙ a.ready k;
            files = a.files;
          };
          record_in_range = s.start.record_in_range;
          rising = s.start.rising;
        };
        descriptors = record { descriptors = s.descriptors.descriptors; limit = s.descriptors.limit };
        kept = u-kept;
      }

  u-has : (a : Address) → has (addresses_of r) a ≡ true → is_some (kept_socket a u.rows) ≡ true
  u-has a e = go (socket_in a holds) refl (some-socket a holds (first-keys t r s.start a ∙ e))
    where
      go : (o : Option ℕ) → socket_in a holds ≡ o → is_some o ≡ true → is_some (kept_socket a u.rows) ≡ true
      go (Some socket) is f = ap is_some (kept-last a t.rows t.next_process holds socket is)
      go None is f = absurd (cc)

  held-is : holds_of_image r.generation.image t.rows ≡ holds
  held-is = ap (λ (o : Option Caller). unwrap_or (option_map (λ (c : Caller). c.holds) o) []) s.start.agrees.lives

  pub is-lent : IsLent t r
  is-lent = record {
    standing = subst (λ (x : Table). IsStanding x r) (sym lent-is) u-stands;
    kept = subst (λ (x : Table). AreAllKept (addresses_of r) x) (sym lent-is) (has-all (λ a. is_some (kept_socket a u.rows) ≡ true) (addresses_of r) u-has (addresses_of r) (all-there (addresses_of r)));
    sockets =
        λ a socket e. subst (λ (x : Table). kept_socket a x.rows ≡ Some socket) (sym lent-is)
        (kept-last a t.rows t.next_process holds socket (ap (socket_in a) (sym held-is) ∙ e));
  }

  -- the addresses of settings that are the record's
  pub part-kept : (l : List Address) → AllByRecursion (λ a. has (addresses_of r) a ≡ true) l → AreAllKept l (lent r t)
  part-kept l all = subst (λ (x : Table). AreAllKept l x) (sym lent-is) (has-all (λ a. is_some (kept_socket a u.rows) ≡ true) (addresses_of r) u-has l all)

pub keepers-lent : KeepersCanBeLent
keepers-lent t r s = is-lent t r s

pub lives-outlive : LivesOutliveMasters
lives-outlive t r task x s range all =
    deaths-survived (lent r t) r task.target task.turns task.pattern x (is-lent t r s).standing.kept range (part-kept t r s x.listeners all)
