-- What is known where a record agrees with a table.
use Rattle.std.proofs.Common.{◌≡◌, ◌≢◌, ℕ, ◌+◌, ◌<◌, ◌≤◌, Bool, true, false, cond, List, [], ◌∷◌, length, Some}
use Rattle.std.proofs.Common.{None, refl, sym, ap, ◌∙◌, arith, map, count_by}
use Rattle.std.specs.Prelude.{◌&&◌, ◌||◌, ◌==◌, if◌then◌else◌}
use Rattle.std.specs.List.{list_any, filter_map, cons_option, AllByRecursion}
use Rattle.std.proofs.lemmas.List.Sums.{sum_by-cons}
use Rattle.listener_set.specs.declared.generation.Generation.{Generation}
use Rattle.listener_set.specs.Numbers.{is_in}
use Rattle.vocabulary.specs.declared.table.Listener.{Listener}
use Rattle.vocabulary.specs.declared.table.Stance.TheVariants.{Starting, Ready, Draining, Exited}
use Rattle.definitions.specs.Table.{Hold, Process, Master, Worker, Foreign, Table, Caller, Address, is_own, is_worker}
use Rattle.definitions.specs.Table.{is_active, live_master, is_held, same_generation, HasParent, IsAscending, number_of}
use Rattle.definitions.specs.Calls.{is_image, Handed}
use Rattle.definitions.specs.Master.{Record, crew_of, IsRunning, reload_generation}
use Rattle.definitions.specs.Claims.{IsStart}
use Rattle.call_laws.specs.Pieces.{is_live_master, is_ready, caller_if, without_master, listener_of}
use Rattle.call_laws.proofs.Choices.{and-right}
use Rattle.table_laws.proofs.Rows.{weigh}
use Rattle.table_laws.proofs.Views.{eqb-is, eqb-off, masters}
use Rattle.quiet_runs.specs.Quiet.{HasNoneTwice}
use Rattle.quiet_runs.proofs.Rows.{or-off, both-off}
use Rattle.quiet_runs.proofs.Stands.{Spot, Stands, none-in}

-- one master alone
abbrev pub lone : Record → Spot
lone r = record { image = r.generation.image; number = r.pid; other = r.generation.image; other_number = r.pid }

pub length-map : {X Y : Type 0} (f : X → Y) (xs : List X) → length (map f xs) ≡ length xs
length-map f [] = refl
length-map f (x ∷ xs) = omega (arith, length-map f xs)

---- Which workers are not active

is-off : (a b c : Bool) → (b ≡ true → ⊥) → (a && (b && c)) ≡ false
is-off true true c never = absurd (never refl)
is-off true false c never = refl
is-off false b c never = refl

name-off : (a b c d : Bool) → (b ≡ true → c ≡ false) → (a && (b && (c && d))) ≡ false
name-off true true true d off = absurd (let e = off refl in cc)
name-off true true false d off = refl
name-off true false c d off = refl
name-off false b c d off = refl

idle-row :
    (r : Record) (holds : List Hold) (k : ℕ) (p : Process) → IsRunning r.pid (crew_of r) holds p →
    is_worker is_ready r.pid r.generation k p ≡ false → is_worker is_active r.pid r.generation k p ≡ false
idle-row r holds k (Master n q i live hs) h e = refl
idle-row r holds k (Worker n q g j Starting hs) h e = is-off true (q == r.pid) _ (λ on. h (eqb-is q r.pid on))
idle-row r holds k (Worker n q g j Ready hs) h e = e
idle-row r holds k (Worker n q g j Draining hs) h e = refl
idle-row r holds k (Worker n q g j Exited hs) h e = refl
idle-row r holds k (Foreign n hs) h e = refl

idle-rows :
    (r : Record) (holds : List Hold) (k : ℕ) (rows : List Process) → AllByRecursion (IsRunning r.pid
    (crew_of r) holds) rows →
    list_any (is_worker is_ready r.pid r.generation k) rows ≡ false → list_any
    (is_worker is_active r.pid r.generation k) rows ≡ false
idle-rows r holds k [] all e = refl
idle-rows r holds k (p ∷ ps) all e =
    let off = or-off (is_worker is_ready r.pid r.generation k p) _ e in
    both-off _ _ (idle-row r holds k p all.0 off.0) (idle-rows r holds k ps all.1 off.1)

-- a number that is not ready
pub idle-number :
    (t : Table) (r : Record) → IsStart t r → (k : ℕ) → is_in r.ready k ≡ false →
    list_any (is_worker is_active r.pid r.generation k) t.rows ≡ false
idle-number t r start k off = idle-rows r start.agrees.holds k t.rows start.agrees.running (start.agrees.ready k ∙ off)

-- a number of another generation
other-row :
    (r : Record) (holds : List Hold) (h : Generation) (k : ℕ) → same_generation r.generation h ≡ false → (p : Process) →
    IsRunning r.pid (crew_of r) holds p → is_worker is_active r.pid h k p ≡ false
other-row r holds h k ne (Master n q i live hs) run = refl
other-row r holds h k ne (Worker n q g j Starting hs) run = is-off true (q == r.pid) _ (λ on. run (eqb-is q r.pid on))
other-row r holds h k ne (Worker n q g j Ready hs) run =
    name-off true (q == r.pid) (same_generation g h) (j == k)
    (λ on. ap (λ (f : Generation). same_generation f h) ((run (eqb-is q r.pid on)).0) ∙ ne)
other-row r holds h k ne (Worker n q g j Draining hs) run = refl
other-row r holds h k ne (Worker n q g j Exited hs) run = refl
other-row r holds h k ne (Foreign n hs) run = refl

other-rows :
    (r : Record) (holds : List Hold) (h : Generation) (k : ℕ) → same_generation r.generation h ≡ false →
    (rows : List Process) →
    AllByRecursion (IsRunning r.pid (crew_of r) holds) rows → list_any (is_worker is_active r.pid h k) rows ≡ false
other-rows r holds h k ne [] all = refl
other-rows r holds h k ne (p ∷ ps) all = both-off _ _ (other-row r holds h k ne p all.0)
    (other-rows r holds h k ne ps all.1)

off-and : (a b : Bool) → b ≡ false → (a && b) ≡ false
off-and true b e = e
off-and false b e = refl

next-off : (n : ℕ) → (n == n + 1) ≡ false
next-off n = eqb-off n (n + 1) (λ e. omega (arith, e))

pub idle-reload :
    (t : Table) (r : Record) → IsStart t r → (k : ℕ) →
    list_any (is_worker is_active r.pid (reload_generation r.generation) k) t.rows ≡ false
idle-reload t r start k =
    other-rows r start.agrees.holds (reload_generation r.generation) k
    (off-and (r.generation.image == r.generation.image) _ (next-off r.generation.config)) t.rows start.agrees.running

---- Where one master begins

pub begins :
    (handed : Handed) (t : Table) (r : Record) (start : IsStart t r) (g : Generation) (idle room : List ℕ)
    (unheld : List Address) →
    ((k : ℕ) → is_in idle k ≡ true → list_any (is_worker is_active r.pid g k) t.rows ≡ false) →
    count_by is_own t.rows + length room ≤ t.limits.processes → AllByRecursion (λ a. is_held a t.rows ≡ false) unheld →
    HasNoneTwice unheld → length r.listeners + length unheld ≤ t.limits.descriptors →
    Stands handed (lone r) g (record {
      busy = [];
      idle = idle;
      room = room;
      unheld = unheld;
      fresh = false;
    }) t.rows t.limits
begins handed t r start g idle room unheld off fits held apart limit = record {
  holds = start.agrees.holds;
  lives = start.agrees.lives;
  told = λ e. absurd (cc);
  beside = (start.agrees.holds, start.agrees.lives);
  busy = λ k e. absurd (none-in k e);
  idle = off;
  room = fits;
  unheld = held;
  apart = apart;
  limit =
      λ e. let a = length-map listener_of start.agrees.holds in
      let b : length (map listener_of start.agrees.holds) ≡ length r.listeners = ap (λ
      (l : List Listener). length l) start.agrees.listeners in
      omega (arith, a, b, limit);
}

---- The master of another image, and its number

none-of : (b : ℕ) (rows : List Process) → weigh masters rows ≡ 0 → list_any (is_image b) rows ≡ false
none-of b [] e = refl
none-of b (Master n q j live hs ∷ ps) e = absurd (omega (arith, e))
none-of b (Worker n q g k s hs ∷ ps) e = none-of b ps (omega (arith, e))
none-of b (Foreign n hs ∷ ps) e = none-of b ps (omega (arith, e))

not-live : (a : ℕ) (rows : List Process) → weigh masters rows ≡ 0 → live_master a rows ≡ None
not-live a [] e = refl
not-live a (Master n q j live hs ∷ ps) e = absurd (omega (arith, e))
not-live a (Worker n q g k s hs ∷ ps) e = not-live a ps (omega (arith, e))
not-live a (Foreign n hs ∷ ps) e = not-live a ps (omega (arith, e))

pub no-image :
    (a b : ℕ) (c : Caller) (rows : List Process) → b ≢ a → weigh masters rows ≡ 1 → live_master a rows ≡ Some c →
    list_any (is_image b) rows ≡ false
no-image a b c [] ne one e = refl
no-image a b c (Master n q j live hs ∷ ps) ne one e =
    let few : weigh masters ps ≡ 0 = omega (arith, one) in
    both-off (j == b) (list_any (is_image b) ps) (go live (j == a) refl e (not-live a ps few)) (none-of b ps few)
  where
    go : (x y : Bool) → (j == a) ≡ y → caller_if (x && y) n hs (live_master a ps) ≡ Some c → live_master a ps ≡ None →
        (j == b) ≡ false
    go true true is e none = eqb-off j b (λ f. ne (sym f ∙ eqb-is j a is))
    go true false is e none = absurd (cc)
    go false y is e none = absurd (cc)
no-image a b c (Worker n q g k s hs ∷ ps) ne one e = no-image a b c ps ne (omega (arith, one)) e
no-image a b c (Foreign n hs ∷ ps) ne one e = no-image a b c ps ne (omega (arith, one)) e

below-next : (least : ℕ) (rows : List Process) (next : ℕ) → IsAscending least rows next → least ≤ next
below-next least [] next h = h
below-next least (p ∷ ps) next h = let a = below-next (number_of p + 1) ps next h.1 in omega (arith, a, h.0)

pub live-below : (least i : ℕ) (c : Caller) (rows : List Process) (next : ℕ) → IsAscending least rows next →
    live_master i rows ≡ Some c → c.number < next
live-below least i c [] next h e = absurd (cc)
live-below least i c (Master n q j live hs ∷ ps) next h e = go (live && (j == i)) e (live-below (n + 1) i c ps next h.1)
  where
    go : (b : Bool) → caller_if b n hs (live_master i ps) ≡ Some c → (live_master i ps ≡ Some c → c.number < next) →
        c.number < next
    go true e ih =
        let same : record { number = n; holds = hs } ≡ c = cc in
        let num : n ≡ c.number = ap (λ (x : Caller). x.number) same in
        let a = below-next (n + 1) ps next h.1 in omega (arith, a, num)
    go false e ih = ih e
live-below least i c (Worker n q g k s hs ∷ ps) next h e = live-below (n + 1) i c ps next h.1 e
live-below least i c (Foreign n hs ∷ ps) next h e = live-below (n + 1) i c ps next h.1 e

parent-below : (least q : ℕ) (rows : List Process) (next : ℕ) → IsAscending least rows next → list_any
    (is_live_master q) rows ≡ true → q < next
parent-below least q [] next h e = absurd (cc)
parent-below least q (Master n p j live hs ∷ ps) next h e = go (live && (n == q)) refl e (parent-below
    (n + 1) q ps next h.1)
  where
    go : (b : Bool) → (live && (n == q)) ≡ b → (b || list_any (is_live_master q) ps) ≡ true → (list_any
        (is_live_master q) ps ≡ true → q < next) → q < next
    go true is e ih = let a = below-next (n + 1) ps next h.1 in let num : n ≡ q = eqb-is n q
        (and-right live _ is) in omega (arith, a, num)
    go false is e ih = ih e
parent-below least q (Worker n p g k s hs ∷ ps) next h e = parent-below (n + 1) q ps next h.1 e
parent-below least q (Foreign n hs ∷ ps) next h e = parent-below (n + 1) q ps next h.1 e

-- No worker's parent has the next number.
pub none-of-next :
    (all rows : List Process) (next : ℕ) (g : Generation) (k : ℕ) → IsAscending 0 all next → AllByRecursion
    (HasParent all) rows →
    list_any (is_worker is_active next g k) rows ≡ false
none-of-next all [] next g k asc par = refl
none-of-next all (Master n q i live hs ∷ ps) next g k asc par = none-of-next all ps next g k asc par.1
none-of-next all (Worker n q h j s hs ∷ ps) next g k asc par =
    let lt = parent-below 0 q all next asc par.0 in
    both-off _ _ (is-off (is_active s) (q == next) _ (λ on. let same = eqb-is q next on in absurd (omega
    (arith, lt, same))))
    (none-of-next all ps next g k asc par.1)
none-of-next all (Foreign n hs ∷ ps) next g k asc par = none-of-next all ps next g k asc par.1

---- A master leaves

abbrev weight : Bool → ℕ
weight b = cond b 1 0

own-cons : (p : Process) (ps : List Process) → count_by is_own (p ∷ ps) ≡ weight (is_own p) + count_by is_own ps
own-cons p ps = sum_by-cons (λ (p : Process). weight (is_own p)) p ps

pub own-leave : (m : ℕ) (rows : List Process) → count_by is_own (filter_map
    (without_master m) rows) ≤ count_by is_own rows
own-leave m [] = omega arith
own-leave m (Master n q i live hs ∷ ps) = go (n == m) (own-leave m ps)
  where
    go :
        (b : Bool) → count_by is_own (filter_map (without_master m) ps) ≤ count_by is_own ps →
        count_by is_own (cons_option (if b then None else Some (Master n (if q == m then 1 else q) i live hs))
        (filter_map (without_master m) ps)) ≤ count_by is_own (Master n q i live hs ∷ ps)
    go true ih = omega (arith, ih, own-cons (Master n q i live hs) ps)
    go false ih = omega (
      arith,
      ih,
      own-cons (Master n q i live hs) ps,
      own-cons (Master n
          (if q == m then 1 else q) i live hs) (filter_map (without_master m) ps),
    )
own-leave m (Worker n q g k s hs ∷ ps) = go (q == m) (own-leave m ps)
  where
    go :
        (b : Bool) → count_by is_own (filter_map (without_master m) ps) ≤ count_by is_own ps →
        count_by is_own (cons_option (if b then None else Some (Worker n q g k s hs)) (filter_map
        (without_master m) ps)) ≤ count_by is_own (Worker n q g k s hs ∷ ps)
    go true ih = omega (arith, ih, own-cons (Worker n q g k s hs) ps)
    go false ih = omega (
      arith,
      ih,
      own-cons (Worker n q g k s hs) ps,
      own-cons (Worker n q g k s hs) (filter_map
          (without_master m) ps),
    )
own-leave m (Foreign n hs ∷ ps) = omega (
  arith,
  own-leave m ps,
  own-cons (Foreign n hs) ps,
  own-cons (Foreign n hs)
      (filter_map (without_master m) ps),
)
