-- Ready workers that a start, a wait and a count leave alone.
use Rattle.std.proofs.Common.{filter_map, ◌≡◌, ◌≤◌, ℕ, ◌+◌, ◌-◌, ◌^◌, Bool, true, false, cond, ◌||◌, count_by, List, []}
use Rattle.std.proofs.Common.{◌∷◌, ◌++◌, Option, Some, None, refl, sym, ap, subst, ◌∙◌, arith}
use Rattle.std.specs.Prelude.{min, if◌then◌else◌, ◌&&◌, ◌==◌}
use Rattle.std.specs.List.{list_any, cons_option, AllByRecursion}
use Rattle.std.proofs.lemmas.Bool.{false≢true}
use Rattle.std.proofs.lemmas.List.Sums.{sum_by-cons}
use Rattle.listener_set.specs.declared.generation.Generation.{Generation}
use Rattle.definitions.specs.Table.{Address, Starting, Ready, Draining, Exited, Hold, Process, Master, Worker, Foreign, Table, Caller}
use Rattle.definitions.specs.Table.{has_address, bears, is_worker, is_active, live_master}
use Rattle.definitions.specs.Calls.{Call, OpenAt, CloseAt, Fork, AwaitReady, Quit, Kill, Census, AwaitGone, SpawnMaster, Adopt}
use Rattle.definitions.specs.Calls.{WritePid, MovePid, RemovePid, Alive, Leave, Usr1, TermMaster, Ask, Handed, Stepped}
use Rattle.definitions.specs.Calls.{change, drop_where, is_exited_of, each_row, own_step, step_by, step_with, has_process_room}
use Rattle.definitions.specs.Calls.{with_new_row, shared}
use Rattle.call_laws.specs.Pieces.{is_live_with, is_starting, is_exited, is_any, made_ready}
use Rattle.call_laws.proofs.Choices.{pick}
use Rattle.explorer.specs.Readiness.{is_ready_at, ready_at, HaveAtLeast, low_after}

counts : (f : Process → Bool) (p : Process) (ps : List Process) → count_by f (p ∷ ps) ≡ cond (f p) 1 0 + count_by f ps
counts f p ps = sum_by-cons (λ x. cond (f x) 1 0) p ps

neither : (x y : Bool) → (x || y) ≡ false → (x ≡ false) × (y ≡ false)
neither true y e = absurd (false≢true (sym e))
neither false y e = (refl, e)

none-of : (test : Process → Bool) (ps : List Process) → list_any test ps ≡ false → AllByRecursion (λ p. test p ≡ false) ps
none-of test [] e = tt
none-of test (p ∷ ps) e = let both = neither (test p) (list_any test ps) e in (both.0, none-of test ps both.1)

each : (P Q : Process → Type 0) → ((p : Process) → P p → Q p) → (ps : List Process) → AllByRecursion P ps → AllByRecursion Q ps
each P Q h [] all = tt
each P Q h (p ∷ ps) all = (h p all.0, each P Q h ps all.1)

all-of : (P : Process → Type 0) → ((p : Process) → P p) → (ps : List Process) → AllByRecursion P ps
all-of P h [] = tt
all-of P h (p ∷ ps) = (h p, all-of P h ps)

abbrev offers : Bool → ℕ → ℕ
offers offered n = if offered then min n (2 ^ 32 - 1) else 0

more-offered : (b : Bool) (n m low : ℕ) → n ≤ m → low ≤ offers b n → low ≤ offers b m
more-offered true n m low le is = omega (arith, le, is)
more-offered false n m low le is = is

module _ (a : Address) where
  abbrev lives : Process → Bool
  lives p = is_live_with (has_address a) p

  abbrev one : Bool → ℕ
  one b = cond b 1 0

  abbrev live_of : Option Process → Bool
  live_of None = false
  live_of (Some p) = lives p

  abbrev ready_of : Option Process → ℕ
  ready_of None = 0
  ready_of (Some p) = one (is_ready_at a p)

  -- what becomes of a row takes no Ready worker and no live master away
  record Keeps (f : Process → Option Process) (p : Process) : Type 0 where
    live : live_of (f p) ≡ lives p
    ready : one (is_ready_at a p) ≤ ready_of (f p)

  record AreKept (f : Process → Option Process) (ps : List Process) : Type 0 where
    live : list_any lives (filter_map f ps) ≡ list_any lives ps
    ready : count_by (is_ready_at a) ps ≤ count_by (is_ready_at a) (filter_map f ps)

  live-cons : (o : Option Process) (ps : List Process) → list_any lives (cons_option o ps) ≡ (live_of o || list_any lives ps)
  live-cons None ps = refl
  live-cons (Some p) ps = refl

  ready-cons : (o : Option Process) (ps : List Process) → count_by (is_ready_at a) (cons_option o ps) ≡ ready_of o + count_by (is_ready_at a) ps
  ready-cons None ps = omega arith
  ready-cons (Some p) ps = counts (is_ready_at a) p ps

  kept : (f : Process → Option Process) (ps : List Process) → AllByRecursion (Keeps f) ps → AreKept f ps
  kept f [] all = record { live = refl; ready = omega arith }
  kept f (p ∷ ps) all =
      let rest = kept f ps all.1 in
      record {
        live = live-cons (f p) (filter_map f ps) ∙ (λ i. all.0.live i || rest.live i);
        ready = omega (arith, counts (is_ready_at a) p ps, ready-cons (f p) (filter_map f ps), all.0.ready, rest.ready);
      }

  ready-kept : (f : Process → Option Process) (t : Table) (low : ℕ) → AllByRecursion (Keeps f) t.rows → low ≤ ready_at t a → low ≤ ready_at (each_row f t) a
  ready-kept f t low all le =
      let is = kept f t.rows all in
      subst (λ b. low ≤ offers b (count_by (is_ready_at a) (filter_map f t.rows))) (sym is.live)
      (more-offered (list_any lives t.rows) (count_by (is_ready_at a) t.rows) (count_by (is_ready_at a) (filter_map f t.rows)) low is.ready le)

  ---- Rows

  unready-dropped : (b : Bool) (p : Process) → is_ready_at a p ≡ false → lives p ≡ false → Keeps (λ x. if b then None else Some x) p
  unready-dropped true p e f = record { live = sym f; ready = omega (arith, ap one e) }
  unready-dropped false p e f = record { live = refl; ready = omega arith }

  exited-dropped : (c : ℕ) (p : Process) → Keeps (drop_where (is_exited_of c)) p
  exited-dropped c (Worker n q g k Starting hs) = record { live = refl; ready = omega arith }
  exited-dropped c (Worker n q g k Ready hs) = record { live = refl; ready = omega arith }
  exited-dropped c (Worker n q g k Draining hs) = record { live = refl; ready = omega arith }
  exited-dropped c (Worker n q g k Exited hs) =
      let is = unready-dropped (q == c) (Worker n q g k Exited hs) refl refl in
      record { live = is.live; ready = is.ready }
  exited-dropped c (Master n q i live hs) = record { live = refl; ready = omega arith }
  exited-dropped c (Foreign n hs) = record { live = refl; ready = omega arith }

  exited-named-dropped : (c : ℕ) (h : Generation) (j : ℕ) (p : Process) → Keeps (drop_where (is_worker is_exited c h j)) p
  exited-named-dropped c h j (Worker n q g k Starting hs) = record { live = refl; ready = omega arith }
  exited-named-dropped c h j (Worker n q g k Ready hs) = record { live = refl; ready = omega arith }
  exited-named-dropped c h j (Worker n q g k Draining hs) = record { live = refl; ready = omega arith }
  exited-named-dropped c h j (Worker n q g k Exited hs) =
      let is = unready-dropped ((q == c) && bears h j g k) (Worker n q g k Exited hs) refl refl in
      record { live = is.live; ready = is.ready }
  exited-named-dropped c h j (Master n q i live hs) = record { live = refl; ready = omega arith }
  exited-named-dropped c h j (Foreign n hs) = record { live = refl; ready = omega arith }

  kept-apart : (b : Bool) (p : Process) → b ≡ false → Keeps (λ x. if b then None else Some x) p
  kept-apart true p e = absurd (false≢true (sym e))
  kept-apart false p e = record { live = refl; ready = omega arith }

  inactive-dropped : (c : ℕ) (h : Generation) (j : ℕ) (p : Process) → is_worker is_active c h j p ≡ false → Keeps (drop_where (is_worker is_any c h j)) p
  inactive-dropped c h j (Worker n q g k Starting hs) e =
      let is = kept-apart ((q == c) && bears h j g k) (Worker n q g k Starting hs) e in
      record { live = is.live; ready = is.ready }
  inactive-dropped c h j (Worker n q g k Ready hs) e =
      let is = kept-apart ((q == c) && bears h j g k) (Worker n q g k Ready hs) e in
      record { live = is.live; ready = is.ready }
  inactive-dropped c h j (Worker n q g k Draining hs) e =
      let is = unready-dropped ((q == c) && bears h j g k) (Worker n q g k Draining hs) refl refl in
      record { live = is.live; ready = is.ready }
  inactive-dropped c h j (Worker n q g k Exited hs) e =
      let is = unready-dropped ((q == c) && bears h j g k) (Worker n q g k Exited hs) refl refl in
      record { live = is.live; ready = is.ready }
  inactive-dropped c h j (Master n q i live hs) e = record { live = refl; ready = omega arith }
  inactive-dropped c h j (Foreign n hs) e = record { live = refl; ready = omega arith }

  made-of-starting : (n q : ℕ) (g : Generation) (k : ℕ) (hs : List Hold) (b : Bool) →
      lives (if b then made_ready (Worker n q g k Starting hs) else Worker n q g k Starting hs) ≡ false
  made-of-starting n q g k hs true = refl
  made-of-starting n q g k hs false = refl

  started : (c : ℕ) (h : Generation) (j : ℕ) (p : Process) → Keeps (change (is_worker is_starting c h j) made_ready) p
  started c h j (Worker n q g k Starting hs) = record { live = made-of-starting n q g k hs ((q == c) && bears h j g k); ready = omega arith }
  started c h j (Worker n q g k Ready hs) = record { live = refl; ready = omega arith }
  started c h j (Worker n q g k Draining hs) = record { live = refl; ready = omega arith }
  started c h j (Worker n q g k Exited hs) = record { live = refl; ready = omega arith }
  started c h j (Master n q i live hs) = record { live = refl; ready = omega arith }
  started c h j (Foreign n hs) = record { live = refl; ready = omega arith }

  ---- A new worker

  module _ (n q : ℕ) (g : Generation) (k : ℕ) (hs : List Hold) where
    abbrev new : Process
    new = Worker n q g k Starting hs

    live-added : (ps : List Process) → list_any lives (ps ++ new ∷ []) ≡ list_any lives ps
    live-added [] = refl
    live-added (p ∷ ps) = ap (λ b. lives p || b) (live-added ps)

    ready-added : (ps : List Process) → count_by (is_ready_at a) (ps ++ new ∷ []) ≡ count_by (is_ready_at a) ps
    ready-added [] = refl
    ready-added (p ∷ ps) = omega (arith, counts (is_ready_at a) p (ps ++ new ∷ []), counts (is_ready_at a) p ps, ready-added ps)

  forked : (q : ℕ) (g : Generation) (k : ℕ) (hs : List Hold) (t : Table) (low : ℕ) → low ≤ ready_at t a →
      low ≤ ready_at (with_new_row t (λ n. Worker n q g k Starting hs)) a
  forked q g k hs t low le =
      subst (λ b. low ≤ offers b (count_by (is_ready_at a) (t.rows ++ Worker t.next_process q g k Starting hs ∷ []))) (sym (live-added t.next_process q g k hs t.rows))
      (subst (λ n. low ≤ offers (list_any lives t.rows) n) (sym (ready-added t.next_process q g k hs t.rows)) le)

  ---- Calls

  abbrev StillHas : ℕ → Stepped → Type 0
  StillHas low s = low ≤ ready_at s.table a

  own : (handed : Handed) (image : ℕ) (c : Caller) (call : Call) (t : Table) (low : ℕ) → low ≤ ready_at t a →
      StillHas (low_after call low) (own_step handed image c call t)
  own handed image c (Fork g k fds) t low le = pick (StillHas low) (list_any (is_worker is_active c.number g k) t.rows) _ _ (λ e. le)
      (λ e. pick (StillHas low) (has_process_room t) _ _ (λ f. forked c.number g k (shared fds c.holds) t low le) (λ f. le))
  own handed image c (AwaitReady g k) t low le = pick (StillHas low) (list_any (is_worker is_active c.number g k) t.rows) _ _
      (λ e. ready-kept (change (is_worker is_starting c.number g k) made_ready) t low (all-of _ (started c.number g k) t.rows) le)
      (λ e. ready-kept (drop_where (is_worker is_exited c.number g k)) t low (all-of _ (exited-named-dropped c.number g k) t.rows) le)
  own handed image c (Census g) t low le = ready-kept (drop_where (is_exited_of c.number)) t low (all-of _ (exited-dropped c.number) t.rows) le
  own handed image c (AwaitGone g k) t low le = pick (StillHas low) (list_any (is_worker is_active c.number g k) t.rows) _ _ (λ e. le)
      (λ e. ready-kept (drop_where (is_worker is_any c.number g k)) t low
      (each (λ p. is_worker is_active c.number g k p ≡ false) _ (inactive-dropped c.number g k) t.rows (none-of (is_worker is_active c.number g k) t.rows e)) le)
  own handed image c (OpenAt b) t low le = omega arith
  own handed image c (CloseAt b) t low le = omega arith
  own handed image c (Quit g k) t low le = omega arith
  own handed image c (Kill g k) t low le = omega arith
  own handed image c (SpawnMaster i) t low le = omega arith
  own handed image c Adopt t low le = omega arith
  own handed image c (WritePid path) t low le = omega arith
  own handed image c (MovePid from to) t low le = omega arith
  own handed image c (RemovePid path) t low le = omega arith
  own handed image c (Alive i) t low le = omega arith
  own handed image c Leave t low le = omega arith
  own handed image c (Usr1 g k) t low le = omega arith
  own handed image c (TermMaster i) t low le = omega arith
  own handed image c (Ask n) t low le = omega arith

  no-more : (call : Call) (low : ℕ) → low_after call low ≤ low
  no-more (Fork g k fds) low = omega arith
  no-more (AwaitReady g k) low = omega arith
  no-more (Census g) low = omega arith
  no-more (AwaitGone g k) low = omega arith
  no-more (OpenAt b) low = omega arith
  no-more (CloseAt b) low = omega arith
  no-more (Quit g k) low = omega arith
  no-more (Kill g k) low = omega arith
  no-more (SpawnMaster i) low = omega arith
  no-more Adopt low = omega arith
  no-more (WritePid path) low = omega arith
  no-more (MovePid from to) low = omega arith
  no-more (RemovePid path) low = omega arith
  no-more (Alive i) low = omega arith
  no-more Leave low = omega arith
  no-more (Usr1 g k) low = omega arith
  no-more (TermMaster i) low = omega arith
  no-more (Ask n) low = omega arith

  stepped : (handed : Handed) (image : ℕ) (o : Option Caller) (call : Call) (t : Table) (low : ℕ) → low ≤ ready_at t a →
      StillHas (low_after call low) (step_by handed image o call None t)
  stepped handed image None call t low le = omega (arith, no-more call low, le)
  stepped handed image (Some c) call t low le = own handed image c call t low le

-- What each address has at least after a call in which nothing goes wrong.
pub low-kept : (handed : Handed) (image : ℕ) (call : Call) (t : Table) (low : ℕ) (addresses : List Address) →
    HaveAtLeast addresses t low → HaveAtLeast addresses (step_with handed image call None t).table (low_after call low)
low-kept handed image call t low [] has = tt
low-kept handed image call t low (a ∷ addresses) has =
    (stepped a handed image (live_master image t.rows) call t low has.0, low-kept handed image call t low addresses has.1)

pub none-needed : (addresses : List Address) (t : Table) → HaveAtLeast addresses t 0
none-needed [] t = tt
none-needed (a ∷ addresses) t = (omega arith, none-needed addresses t)
