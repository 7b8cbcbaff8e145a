-- A new worker and a new socket keep what every table keeps.
use Rattle.std.proofs.Common.{◌≡◌, ℕ, ◌+◌, ◌<◌, ◌≤◌, Bool, true, false, cond, ◌&&◌, ◌||◌, nat_eq, nat_lt, List, [], ◌∷◌}
use Rattle.std.proofs.Common.{◌++◌, Some, count_by, Option, None, refl, ap, subst, ◌∙◌, arith}
use Rattle.std.specs.List.{AllByRecursion, filter_map, list_any}
use Rattle.std.proofs.lemmas.Bool.{true≢false, false≢true}
use Rattle.std.proofs.lemmas.Bool.Decides.{nat_tests}
use Rattle.std.proofs.lemmas.List.Sums.{sum_by-cons}
use Rattle.std.proofs.lemmas.List.Folds.{list_any-append}
use Rattle.listener_set.specs.Numbers.{is_in}
use Rattle.vocabulary.specs.declared.table.Stance.TheVariants.{Starting}
use Rattle.definitions.specs.Table.{Generation, same_generation, Hold, Process, Master, Worker, Foreign, number_of}
use Rattle.definitions.specs.Table.{holds_of, is_active, is_worker, Caller, live_master, IsQuiet, HasParent}
use Rattle.definitions.specs.Table.{IsAscending}
use Rattle.call_laws.specs.Pieces.{is_live_master, caller_if, is_row}
use Rattle.definitions.specs.Calls.{change, is_image, with_holds, put_hold, shared}
use Rattle.kernel_table.specs.Room.{HasSockets}
use Rattle.kernel_table.proofs.Keeping.{AreKept, Follows, AreKept-becomes, Becomes-filter_map, says-change}
use Rattle.kernel_model.proofs.Steps.{filter-within, KeepsMasters, HasParent-up, live-change, same-holds}

-- ---- the caller is a live master
abbrev pub AreWithin : ℕ → List Hold → Type 0
AreWithin socket hs = AllByRecursion (λ (h : Hold). (1 ≤ h.socket) × (h.socket < socket)) hs

and-left : (a b : Bool) → (a && b) ≡ true → a ≡ true
and-left true b e = refl
and-left false b e = absurd (false≢true e)

pub live-caller : (image : ℕ) (rows : List Process) (c : Caller) → live_master image rows ≡ Some c → list_any (is_live_master c.number) rows ≡ true
live-caller image [] c e = cc
live-caller image (Worker n q g k s hs ∷ rows) c e = live-caller image rows c e
live-caller image (Foreign n hs ∷ rows) c e = live-caller image rows c e
live-caller image (Master n q i live hs ∷ rows) c e = at (live && nat_eq i image) refl e (live-caller image rows c)
  where
    at : (b : Bool) → (live && nat_eq i image) ≡ b → caller_if b n hs (live_master image rows) ≡ Some c →
        (live_master image rows ≡ Some c → list_any (is_live_master c.number) rows ≡ true) →
        ((live && nat_eq n c.number) || list_any (is_live_master c.number) rows) ≡ true
    at true is e ih =
        let lives : live ≡ true = and-left live (nat_eq i image) is in
        let same : record { number = n; holds = hs } ≡ c = cc in
        let number : n ≡ c.number = ap (λ (x : Caller). x.number) same in
        let eq : nat_eq n c.number ≡ true = grind (arith, nat_tests) in
        rw (lives, eq) refl
    at false is e ih = ap (λ b. b || list_any (is_live_master c.number) rows) refl ∙ or-right (live && nat_eq n c.number) (list_any (is_live_master c.number) rows) (ih e)
      where
        or-right : (a b : Bool) → b ≡ true → (a || b) ≡ true
        or-right true b e = refl
        or-right false b e = e

pub caller-sockets : (image socket : ℕ) (rows : List Process) (c : Caller) → live_master image rows ≡ Some c →
    AllByRecursion (HasSockets socket) rows → AreWithin socket c.holds
caller-sockets image socket [] c e h = cc
caller-sockets image socket (Worker n q g k s hs ∷ rows) c e h = caller-sockets image socket rows c e h.1
caller-sockets image socket (Foreign n hs ∷ rows) c e h = caller-sockets image socket rows c e h.1
caller-sockets image socket (Master n q i live hs ∷ rows) c e h = at (live && nat_eq i image) e (λ f. caller-sockets image socket rows c f h.1)
  where
    at : (b : Bool) → caller_if b n hs (live_master image rows) ≡ Some c →
        (live_master image rows ≡ Some c → AreWithin socket c.holds) → AreWithin socket c.holds
    at true e ih =
        let same : record { number = n; holds = hs } ≡ c = cc in
        subst (λ (x : Caller). AreWithin socket x.holds) same h.0
    at false e ih = ih e

-- ---- a new worker
pub within-shared : (fds : Option (List ℕ)) (socket : ℕ) (hs : List Hold) → AreWithin socket hs → AreWithin socket (shared fds hs)
within-shared None socket hs w = w
within-shared (Some fds) socket hs w = filter-within (λ h. is_in fds h.fd) socket hs w

pub all-append : (P : Process → Type 0) (rows : List Process) (p : Process) → AllByRecursion P rows → P p → AllByRecursion P (rows ++ p ∷ [])
all-append P [] p h one = (one, tt)
all-append P (x ∷ rows) p h one = (h.0, all-append P rows p h.1 one)

pub all-up : (P Q : Process → Type 0) → ((p : Process) → P p → Q p) → (rows : List Process) → AllByRecursion P rows → AllByRecursion Q rows
all-up P Q up [] h = tt
all-up P Q up (x ∷ rows) h = (up x h.0, all-up P Q up rows h.1)

pub ascending-append : (rows : List Process) (a next : ℕ) (p : Process) → number_of p ≡ next → IsAscending a rows next →
    IsAscending a (rows ++ p ∷ []) (next + 1)
ascending-append [] a next p e h = (omega (arith, h, e), omega (arith, e))
ascending-append (x ∷ rows) a next p e h = (h.0, ascending-append rows (number_of x + 1) next p e h.1)

pub count-append : (test : Process → Bool) (rows : List Process) (p : Process) → count_by test (rows ++ p ∷ []) ≡ count_by test rows + cond (test p) 1 0
count-append test [] p = sum_by-cons (λ x. cond (test x) 1 0) p [] ∙ omega arith
count-append test (x ∷ rows) p =
    let first = sum_by-cons (λ y. cond (test y) 1 0) x (rows ++ p ∷ []) in
    let old = sum_by-cons (λ y. cond (test y) 1 0) x rows in
    let rest = count-append test rows p in
    omega (arith, first, old, rest)

pub count-none : (test : Process → Bool) (rows : List Process) → list_any test rows ≡ false → count_by test rows ≡ 0
count-none test [] e = refl
count-none test (x ∷ rows) e = sum_by-cons (λ y. cond (test y) 1 0) x rows ∙ at (test x) e (count-none test rows)
  where
    at : (b : Bool) → (b || list_any test rows) ≡ false → (list_any test rows ≡ false → count_by test rows ≡ 0) → cond b 1 0 + count_by test rows ≡ 0
    at true e ih = absurd (true≢false e)
    at false e ih = let none = ih e in omega arith

pub and-both : (a b : Bool) → (a && b) ≡ true → (a ≡ true) × (b ≡ true)
and-both true b e = (refl, e)
and-both false b e = absurd (false≢true e)

-- the name of a new worker
named : (m q : ℕ) (g h : Generation) (k j : ℕ) (n : ℕ) (hs : List Hold) →
    is_worker is_active q h j (Worker n m g k Starting hs) ≡ true → (m ≡ q) × (g ≡ h) × (k ≡ j)
named m q g h k j n hs e =
    let parts = and-both (nat_eq m q) (same_generation g h && nat_eq k j) e in
    let rest = and-both (same_generation g h) (nat_eq k j) parts.1 in
    let same = and-both (nat_eq g.image h.image) (nat_eq g.config h.config) rest.0 in
    let a = parts.0 in
    let b = rest.1 in
    let c = same.0 in
    let d = same.1 in
    let image : g.image ≡ h.image = grind (arith, nat_tests) in
    let config : g.config ≡ h.config = grind (arith, nat_tests) in
    (grind (arith, nat_tests), λ i. record { image = image i; config = config i }, grind (arith, nat_tests))

abbrev worker_at : ℕ → ℕ → Generation → ℕ → List Hold → Process
worker_at n m g k hs = Worker n m g k Starting hs

module _ (rows : List Process) (next socket : ℕ) (h : AreKept rows next socket) (m : ℕ) (g : Generation) (k : ℕ) (hs : List Hold) where
  once-append : list_any (is_worker is_active m g k) rows ≡ false → (q : ℕ) (g' : Generation) (j : ℕ) →
      count_by (is_worker is_active q g' j) (rows ++ worker_at next m g k hs ∷ []) ≤ 1
  once-append free q g' j =
      let test = is_worker is_active q g' j in
      at (test (worker_at next m g k hs)) (named m q g g' k j next hs) (count-append test rows (worker_at next m g k hs)) (h.once q g' j)
    where
      at : (b : Bool) → (b ≡ true → (m ≡ q) × (g ≡ g') × (k ≡ j)) →
          count_by (is_worker is_active q g' j) (rows ++ worker_at next m g k hs ∷ [])
          ≡ count_by (is_worker is_active q g' j) rows + cond b 1 0 → count_by (is_worker is_active q g' j) rows ≤ 1 →
          count_by (is_worker is_active q g' j) (rows ++ worker_at next m g k hs ∷ []) ≤ 1
      at true same counted most =
          let is = same refl in
          let none : list_any (is_worker is_active q g' j) rows ≡ false = rw (← is.0, ← is.1, ← is.2) free in
          let zero_ = count-none (is_worker is_active q g' j) rows none in
          omega arith
      at false same counted most = omega arith

  parents-append : list_any (is_live_master m) rows ≡ true →
      AllByRecursion (HasParent (rows ++ worker_at next m g k hs ∷ [])) (rows ++ worker_at next m g k hs ∷ [])
  parents-append lives =
      let p = worker_at next m g k hs in
      let up : KeepsMasters rows (rows ++ p ∷ []) = λ q e. list_any-append (is_live_master q) rows (p ∷ []) ∙ ap (λ b. b || list_any (is_live_master q) (p ∷ [])) e in
      all-append (HasParent (rows ++ p ∷ [])) rows p (all-up (HasParent rows) (HasParent (rows ++ p ∷ [])) (HasParent-up rows (rows ++ p ∷ []) up) rows h.parents) (up m lives)

  pub kept-fork : list_any (is_worker is_active m g k) rows ≡ false → list_any (is_live_master m) rows ≡ true →
      AreWithin socket hs → AreKept (rows ++ worker_at next m g k hs ∷ []) (next + 1) socket
  kept-fork free lives sockets = record {
    once = once-append free;
    masters = λ i. (let most = h.masters i in let same = count-append (is_image i) rows (worker_at next m g k hs) in omega arith);
    quiet = all-append IsQuiet rows (worker_at next m g k hs) h.quiet tt;
    parents = parents-append lives;
    ascending = ascending-append rows 0 next (worker_at next m g k hs) refl h.ascending;
    sockets = all-append (HasSockets socket) rows (worker_at next m g k hs) h.sockets sockets;
  }

-- ---- a new socket
pub within-wider : (socket : ℕ) (hs : List Hold) → AreWithin socket hs → AreWithin (socket + 1) hs
within-wider socket [] w = tt
within-wider socket (h ∷ hs) w = ((w.0.0, omega (arith, w.0.1)), within-wider socket hs w.1)

within-put : (socket : ℕ) (h : Hold) (hs : List Hold) → 1 ≤ h.socket → h.socket < socket → AreWithin socket hs → AreWithin socket (put_hold h hs)
within-put socket h [] least less w = ((least, less), tt)
within-put socket h (x ∷ xs) least less w = at (nat_lt h.fd x.fd) (within-put socket h xs least less w.1)
  where
    at : (b : Bool) → AreWithin socket (put_hold h xs) → AreWithin socket (cond b (h ∷ x ∷ xs) (x ∷ put_hold h xs))
    at true rest = ((least, less), w)
    at false rest = (w.0, rest)

module _ (rows rows' : List Process) (socket : ℕ) (first : 1 ≤ socket) (up : KeepsMasters rows rows') where
  same_wider : (p : Process) → Follows rows rows' socket (socket + 1) p p
  same_wider p =
      record {
        number = refl;
        quiet = λ h. h;
        active = λ q g k e. e;
        image = λ i e. e;
        parent = HasParent-up rows rows' up p;
        sockets = within-wider socket (holds_of p);
      }

  opens_so : (n : ℕ) (h : Hold) → h.socket ≡ socket → (p : Process) → is_row n p ≡ true → Follows rows rows' socket (socket + 1) p (with_holds (put_hold h) p)
  opens_so n h e (Worker m q g k s hs) t = absurd (false≢true t)
  opens_so n h e (Foreign m hs) t = absurd (false≢true t)
  opens_so n h e (Master m q i live hs) t = record {
    number = refl;
    quiet = λ x. tt;
    active = λ q' g k f. f;
    image = λ i e. e;
    parent = λ x. tt;
    sockets = λ w. within-put (socket + 1) h hs (omega arith) (omega arith) (within-wider socket hs w);
  }

pub kept-open : (rows : List Process) (next socket : ℕ) → AreKept rows next socket → 1 ≤ socket → (n : ℕ) (h : Hold) →
    h.socket ≡ socket → AreKept (filter_map (change (is_row n) (with_holds (put_hold h))) rows) next (socket + 1)
kept-open rows next socket kept first n h e =
    let rows' = filter_map (change (is_row n) (with_holds (put_hold h))) rows in
    let up : KeepsMasters rows rows' = λ q t. live-change (is_row n) (with_holds (put_hold h)) (same-holds (put_hold h)) rows q ∙ t in
    let R = Follows rows rows' socket (socket + 1) in
    AreKept-becomes rows rows' next socket (socket + 1) (Becomes-filter_map R (change (is_row n) (with_holds (put_hold h))) (says-change R (same_wider rows rows' socket first up) (is_row n) (with_holds (put_hold h)) (opens_so rows rows' socket first up n h e)) rows) kept
