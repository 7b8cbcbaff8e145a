-- Exits and calls keep what every table keeps.
use Rattle.std.proofs.Common.{◌≡◌, ℕ, ◌<◌, ◌≤◌, Bool, true, false, cond, ◌&&◌, ◌||◌, not, nat_eq, List, [], ◌∷◌, filter, Option, Some, None, refl, sym, ap, ◌∙◌, arith}
use Rattle.std.specs.List.{AllByRecursion, filter_map, cons_option, list_any}
use Rattle.std.specs.Prelude.{IfSome}
use Rattle.std.proofs.lemmas.Bool.{false≢true}
use Rattle.std.proofs.lemmas.Bool.Decides.{nat_tests}
use Rattle.vocabulary.specs.declared.table.Stance.{Stance}
use Rattle.vocabulary.specs.declared.table.Stance.TheVariants.{Starting, Ready, Draining, Exited}
use Rattle.vocabulary.specs.declared.names.Name.{Name}
use Rattle.vocabulary.specs.declared.names.Name.TheVariants as name
use Rattle.definitions.specs.Table.{Address, Generation, Hold, Process, Master, Worker, Foreign, is_active, is_worker}
use Rattle.definitions.specs.Table.{Caller, live_master, HasParent}
use Rattle.call_laws.specs.Pieces.{is_named, is_live_master, is_starting, is_draining, is_at, made_exited, caller_exits}
use Rattle.call_laws.specs.Pieces.{made_ready, made_draining, lacks_address}
use Rattle.definitions.specs.Calls.{change, without_exited, exited, all_exited, first_changed, drop_where, with_holds}
use Rattle.definitions.specs.Calls.{is_exited_of}
use Rattle.std.specs.Bool.{then_some}
use Rattle.kernel_table.proofs.Keeping.{AreKept, Follows, AreKept-becomes, Becomes-filter_map, Becomes-first_changed, says-change, says-dropped}

-- each live master is one afterwards
abbrev pub KeepsMasters : List Process → List Process → Type 0
KeepsMasters rows rows' = (q : ℕ) → list_any (is_live_master q) rows ≡ true → list_any (is_live_master q) rows' ≡ true

pub HasParent-up : (rows rows' : List Process) → KeepsMasters rows rows' → (p : Process) → HasParent rows p → HasParent rows' p
HasParent-up rows rows' up (Worker n q g k s hs) h = up q h
HasParent-up rows rows' up (Master n q i live hs) h = tt
HasParent-up rows rows' up (Foreign n hs) h = tt

module _ (rows rows' : List Process) (socket : ℕ) (up : KeepsMasters rows rows') where
  stays_so : (p : Process) → Follows rows rows' socket socket p p
  stays_so p = record { number = refl; quiet = λ h. h; active = λ q g k e. e; image = λ i e. e; parent = HasParent-up rows rows' up p; sockets = λ h. h }

  exits_so : (p : Process) → Follows rows rows' socket socket p (made_exited p)
  exits_so (Worker n q g k s hs) = record { number = refl; quiet = λ h. refl; active = λ q' g' k' e. absurd (false≢true e); image = λ i e. e; parent = λ h. up q h; sockets = λ h. tt }
  exits_so (Master n q i live hs) = stays_so (Master n q i live hs)
  exits_so (Foreign n hs) = stays_so (Foreign n hs)

  pub drains_so : (p : Process) → Follows rows rows' socket socket p (made_draining p)
  drains_so (Worker n q g k s hs) = record { number = refl; quiet = λ h. refl; active = λ q' g' k' e. absurd (false≢true e); image = λ i e. e; parent = λ h. up q h; sockets = λ h. tt }
  drains_so (Master n q i live hs) = stays_so (Master n q i live hs)
  drains_so (Foreign n hs) = stays_so (Foreign n hs)

  pub ready_so : (q : ℕ) (g : Generation) (k : ℕ) (p : Process) → is_worker is_starting q g k p ≡ true → Follows rows rows' socket socket p (made_ready p)
  ready_so q g k (Worker n q' g' k' Starting hs) e = record { number = refl; quiet = λ h. tt; active = λ a b c f. f; image = λ i e. e; parent = λ h. up q' h; sockets = λ h. h }
  ready_so q g k (Worker n q' g' k' Ready hs) e = absurd (false≢true e)
  ready_so q g k (Worker n q' g' k' Draining hs) e = absurd (false≢true e)
  ready_so q g k (Worker n q' g' k' Exited hs) e = absurd (false≢true e)
  ready_so q g k (Master n q' i live hs) e = absurd (false≢true e)
  ready_so q g k (Foreign n hs) e = absurd (false≢true e)

pub filter-within : (f : Hold → Bool) (socket : ℕ) (hs : List Hold) → AllByRecursion (λ (h : Hold). (1 ≤ h.socket) × (h.socket < socket)) hs → AllByRecursion (λ (h : Hold). (1 ≤ h.socket) × (h.socket < socket)) (filter f hs)
filter-within f socket [] w = tt
filter-within f socket (h ∷ hs) w = at (f h) w.0 (filter-within f socket hs w.1)
  where
    at : (b : Bool) → (1 ≤ h.socket) × (h.socket < socket) → AllByRecursion (λ (x : Hold). (1 ≤ x.socket) × (x.socket < socket)) (filter f hs) → AllByRecursion (λ (x : Hold). (1 ≤ x.socket) × (x.socket < socket)) (cond b (h ∷ filter f hs) (filter f hs))
    at true one rest = (one, rest)
    at false one rest = rest

module _ (rows rows' : List Process) (socket : ℕ) (up : KeepsMasters rows rows') where
  pub closes_so : (a : Address) (p : Process) → Follows rows rows' socket socket p (with_holds (lacks_address a) p)
  closes_so a (Worker n q g k Starting hs) = record { number = refl; quiet = λ h. tt; active = λ q' g' k' e. e; image = λ i e. e; parent = λ h. up q h; sockets = filter-within (λ h. not (is_at a h)) socket hs }
  closes_so a (Worker n q g k Ready hs) = record { number = refl; quiet = λ h. tt; active = λ q' g' k' e. e; image = λ i e. e; parent = λ h. up q h; sockets = filter-within (λ h. not (is_at a h)) socket hs }
  closes_so a (Worker n q g k Draining hs) = record { number = refl; quiet = λ h. ap (lacks_address a) h; active = λ q' g' k' e. e; image = λ i e. e; parent = λ h. up q h; sockets = filter-within (λ h. not (is_at a h)) socket hs }
  closes_so a (Worker n q g k Exited hs) = record { number = refl; quiet = λ h. ap (lacks_address a) h; active = λ q' g' k' e. e; image = λ i e. e; parent = λ h. up q h; sockets = filter-within (λ h. not (is_at a h)) socket hs }
  closes_so a (Master n q i live hs) = record { number = refl; quiet = λ h. tt; active = λ q' g' k' e. absurd (false≢true e); image = λ i e. e; parent = λ h. tt; sockets = filter-within (λ h. not (is_at a h)) socket hs }
  closes_so a (Foreign n hs) = record { number = refl; quiet = λ h. tt; active = λ q' g' k' e. absurd (false≢true e); image = λ i e. e; parent = λ h. tt; sockets = filter-within (λ h. not (is_at a h)) socket hs }

-- ---- live masters stay
same-exited : (q : ℕ) (p : Process) → is_live_master q (made_exited p) ≡ is_live_master q p
same-exited q (Worker n q' g k s hs) = refl
same-exited q (Master n q' i live hs) = refl
same-exited q (Foreign n hs) = refl

pub same-draining : (q : ℕ) (p : Process) → is_live_master q (made_draining p) ≡ is_live_master q p
same-draining q (Worker n q' g k s hs) = refl
same-draining q (Master n q' i live hs) = refl
same-draining q (Foreign n hs) = refl

pub same-ready : (q : ℕ) (p : Process) → is_live_master q (made_ready p) ≡ is_live_master q p
same-ready q (Worker n q' g k s hs) = refl
same-ready q (Master n q' i live hs) = refl
same-ready q (Foreign n hs) = refl

pub same-holds : (f : List Hold → List Hold) (q : ℕ) (p : Process) → is_live_master q (with_holds f p) ≡ is_live_master q p
same-holds f q (Worker n q' g k s hs) = refl
same-holds f q (Master n q' i live hs) = refl
same-holds f q (Foreign n hs) = refl

module _ (test : Process → Bool) (f : Process → Process) (same : (q : ℕ) (p : Process) → is_live_master q (f p) ≡ is_live_master q p) where
  pub live-change : (rows : List Process) (q : ℕ) → list_any (is_live_master q) (filter_map (change test f) rows) ≡ list_any (is_live_master q) rows
  live-change [] q = refl
  live-change (p ∷ rows) q = at (test p) (live-change rows q)
    where
      at : (b : Bool) → list_any (is_live_master q) (filter_map (change test f) rows) ≡ list_any (is_live_master q) rows → (is_live_master q (cond b (f p) p) || list_any (is_live_master q) (filter_map (change test f) rows)) ≡ (is_live_master q p || list_any (is_live_master q) rows)
      at true ih = ap (λ b. b || list_any (is_live_master q) (filter_map (change test f) rows)) (same q p) ∙ ap (λ b. is_live_master q p || b) ih
      at false ih = ap (λ b. is_live_master q p || b) ih

  live-first : (rows : List Process) (q : ℕ) → list_any (is_live_master q) (first_changed test f rows) ≡ list_any (is_live_master q) rows
  live-first [] q = refl
  live-first (p ∷ rows) q = at (test p) (live-first rows q)
    where
      at : (b : Bool) → list_any (is_live_master q) (first_changed test f rows) ≡ list_any (is_live_master q) rows → list_any (is_live_master q) (cond b (f p ∷ rows) (p ∷ first_changed test f rows)) ≡ (is_live_master q p || list_any (is_live_master q) rows)
      at true ih = ap (λ b. b || list_any (is_live_master q) rows) (same q p)
      at false ih = ap (λ b. is_live_master q p || b) ih

module _ (test : Process → Bool) (worker : (q : ℕ) (p : Process) → test p ≡ true → is_live_master q p ≡ false) where
  live-dropped : (rows : List Process) (q : ℕ) → list_any (is_live_master q) (filter_map (drop_where test) rows) ≡ list_any (is_live_master q) rows
  live-dropped [] q = refl
  live-dropped (p ∷ rows) q = at (test p) (worker q p) (live-dropped rows q)
    where
      at : (b : Bool) → (b ≡ true → is_live_master q p ≡ false) → list_any (is_live_master q) (filter_map (drop_where test) rows) ≡ list_any (is_live_master q) rows → list_any (is_live_master q) (cons_option (cond b None (Some p)) (filter_map (drop_where test) rows)) ≡ (is_live_master q p || list_any (is_live_master q) rows)
      at true w ih = ih ∙ sym (ap (λ b. b || list_any (is_live_master q) rows) (w refl))
      at false w ih = ap (λ b. is_live_master q p || b) ih

pub worker-named : (stance : Stance → Bool) (m : ℕ) (g : Generation) (k : ℕ) (q : ℕ) (p : Process) → is_worker stance m g k p ≡ true → is_live_master q p ≡ false
worker-named stance m g k q (Worker n q' g' k' s hs) e = refl
worker-named stance m g k q (Master n q' i live hs) e = absurd (false≢true e)
worker-named stance m g k q (Foreign n hs) e = absurd (false≢true e)

pub worker-of : (m : ℕ) (q : ℕ) (p : Process) → is_exited_of m p ≡ true → is_live_master q p ≡ false
worker-of m q (Worker n q' g' k' s hs) e = refl
worker-of m q (Master n q' i live hs) e = absurd (false≢true e)
worker-of m q (Foreign n hs) e = absurd (false≢true e)

-- ---- edits of the rows
module _ (next socket : ℕ) (rows : List Process) (h : AreKept rows next socket) where
  pub kept-change : (test : Process → Bool) (f : Process → Process) → ((q : ℕ) (p : Process) → is_live_master q (f p) ≡ is_live_master q p)
      → ((rows' : List Process) → KeepsMasters rows rows' → (p : Process) → test p ≡ true → Follows rows rows' socket socket p (f p))
      → AreKept (filter_map (change test f) rows) next socket
  kept-change test f same says =
      let rows' = filter_map (change test f) rows in
      let up : KeepsMasters rows rows' = λ q e. live-change test f same rows q ∙ e in
      AreKept-becomes rows rows' next socket socket (Becomes-filter_map (Follows rows rows' socket socket) (change test f) (says-change (Follows rows rows' socket socket) (stays_so rows rows' socket up) test f (says rows' up)) rows) h

  -- rows leave, and no live master
  pub kept-without : (test : Process → Bool) → KeepsMasters rows (filter_map (drop_where test) rows) → AreKept (filter_map (drop_where test) rows) next socket
  kept-without test up =
      let rows' = filter_map (drop_where test) rows in
      AreKept-becomes rows rows' next socket socket (Becomes-filter_map (Follows rows rows' socket socket) (drop_where test) (says-dropped (Follows rows rows' socket socket) (stays_so rows rows' socket up) test) rows) h

  pub kept-dropped : (test : Process → Bool) → ((q : ℕ) (p : Process) → test p ≡ true → is_live_master q p ≡ false) → AreKept (filter_map (drop_where test) rows) next socket
  kept-dropped test worker = kept-without test (λ q e. live-dropped test worker rows q ∙ e)

  kept-worker : (g : Generation) (k : ℕ) → AreKept (filter_map (change (is_named is_active g k) made_exited) rows) next socket
  kept-worker g k = kept-change (is_named is_active g k) made_exited same-exited (λ rows' up p t. exits_so rows rows' socket up p)

  kept-draining : (g : Generation) (k : ℕ) → AreKept (first_changed (is_named is_draining g k) made_exited rows) next socket
  kept-draining g k =
      let test = is_named is_draining g k in
      let rows' = first_changed test made_exited rows in
      let up : KeepsMasters rows rows' = λ q e. live-first test made_exited same-exited rows q ∙ e in
      AreKept-becomes rows rows' next socket socket (Becomes-first_changed (Follows rows rows' socket socket) (stays_so rows rows' socket up) test made_exited (λ p t. exits_so rows rows' socket up p) rows) h

-- ---- a master exits
module _ (gone : ℕ) (lives : ℕ → Bool) where
  live-exit : (q : ℕ) → nat_eq q gone ≡ false → (rows : List Process) → list_any (is_live_master q) rows ≡ true → list_any (is_live_master q) (filter_map (without_exited gone lives) rows) ≡ true
  live-exit q other [] e = e
  live-exit q other (Worker n q' g k s hs ∷ rows) e = at (nat_eq q' gone) (live-exit q other rows e)
    where
      at : (b : Bool) → list_any (is_live_master q) (filter_map (without_exited gone lives) rows) ≡ true → list_any (is_live_master q) (cons_option (cond b None (Some (Worker n q' g k s hs))) (filter_map (without_exited gone lives) rows)) ≡ true
      at true ih = ih
      at false ih = ih
  live-exit q other (Foreign n hs ∷ rows) e = live-exit q other rows e
  live-exit q other (Master n q' i live hs ∷ rows) e = at (nat_eq n gone) (λ t. grind (arith, nat_tests)) (live && nat_eq n q) refl e (live-exit q other rows)
    where
      left : (b : Bool) → list_any (is_live_master q) (filter_map (without_exited gone lives) rows) ≡ true → list_any (is_live_master q) (cons_option (then_some b (Master n q' i false [])) (filter_map (without_exited gone lives) rows)) ≡ true
      left true ih = ih
      left false ih = ih

      and-false : (b c : Bool) → c ≡ false → (b && c) ≡ false
      and-false true c e = e
      and-false false c e = refl

      at : (b : Bool) → (b ≡ true → nat_eq n q ≡ false) → (c : Bool) → (live && nat_eq n q) ≡ c → (c || list_any (is_live_master q) rows) ≡ true
          → (list_any (is_live_master q) rows ≡ true → list_any (is_live_master q) (filter_map (without_exited gone lives) rows) ≡ true)
          → list_any (is_live_master q) (cons_option (cond b (then_some (lives q') (Master n q' i false [])) (Some (Master n (cond (nat_eq q' gone) 1 q') i live hs))) (filter_map (without_exited gone lives) rows)) ≡ true
      at true apart true is e ih = absurd (false≢true (sym (and-false live (nat_eq n q) (apart refl)) ∙ is))
      at true apart false is e ih = left (lives q') (ih e)
      at false apart true is e ih = ap (λ b. b || list_any (is_live_master q) (filter_map (without_exited gone lives) rows)) is
      at false apart false is e ih = ap (λ b. b || list_any (is_live_master q) (filter_map (without_exited gone lives) rows)) is ∙ ih e

  pub exit_says : (rows : List Process) (socket : ℕ) (p : Process) → IfSome (without_exited gone lives p) (Follows rows (filter_map (without_exited gone lives) rows) socket socket p)
  exit_says rows socket (Worker n q g k s hs) = at (nat_eq q gone) refl
    where
      at : (b : Bool) → nat_eq q gone ≡ b → IfSome (cond b None (Some (Worker n q g k s hs))) (Follows rows (filter_map (without_exited gone lives) rows) socket socket (Worker n q g k s hs))
      at true e = tt
      at false e = record { number = refl; quiet = λ h. h; active = λ q' g' k' t. t; image = λ i e. e; parent = λ h. live-exit q e rows h; sockets = λ h. h }
  exit_says rows socket (Foreign n hs) = record { number = refl; quiet = λ h. h; active = λ q' g' k' t. t; image = λ i e. e; parent = λ h. h; sockets = λ h. h }
  exit_says rows socket (Master n q i live hs) = at (nat_eq n gone) (lives q)
    where
      at : (b c : Bool) → IfSome (cond b (then_some c (Master n q i false [])) (Some (Master n (cond (nat_eq q gone) 1 q) i live hs))) (Follows rows (filter_map (without_exited gone lives) rows) socket socket (Master n q i live hs))
      at true true = record { number = refl; quiet = λ h. tt; active = λ q' g' k' t. t; image = λ i e. e; parent = λ h. tt; sockets = λ h. tt }
      at true false = tt
      at false c = record { number = refl; quiet = λ h. tt; active = λ q' g' k' t. t; image = λ i e. e; parent = λ h. tt; sockets = λ h. h }

kept-caller_exits : (next socket : ℕ) (c : Option Caller) (rows : List Process) → AreKept rows next socket → AreKept (caller_exits c rows) next socket
kept-caller_exits next socket None rows h = h
kept-caller_exits next socket (Some c) rows h =
    let lives : ℕ → Bool = λ q. list_any (is_live_master q) rows in
    AreKept-becomes rows _ next socket socket (Becomes-filter_map _ (without_exited c.number lives) (exit_says c.number lives rows socket) rows) h

-- ---- exits
pub kept-exited : (next socket : ℕ) (e : Name) (rows : List Process) → AreKept rows next socket → AreKept (exited e rows) next socket
kept-exited next socket (name.Worker g k) rows h = kept-worker next socket rows h g k
kept-exited next socket (name.Draining g k) rows h = kept-draining next socket rows h g k
kept-exited next socket (name.Master image) rows h = kept-caller_exits next socket (live_master image rows) rows h

pub kept-all_exited : (next socket : ℕ) (es : List Name) (rows : List Process) → AreKept rows next socket → AreKept (all_exited es rows) next socket
kept-all_exited next socket [] rows h = h
kept-all_exited next socket (e ∷ es) rows h = kept-all_exited next socket es (exited e rows) (kept-exited next socket e rows h)
