-- A table that a record agrees with looks like the record.
use Rattle.std.proofs.Common.{inl, ◌+◌, ◌≡◌, ℕ, ◌<◌, ◌≤◌, Bool, true, false, cond, not, List, [], ◌∷◌, length, Some, None, refl, sym, ap, ◌∙◌, subst, arith}
use Rattle.std.specs.Prelude.{◌||◌, ◌&&◌, ◌==◌, ⊤}
use Rattle.std.specs.List.{AllByRecursion, list_any}
use Rattle.definitions.specs.Table.{same_generation, Hold, Process, Master, Worker, Foreign, Table, Caller, live_master}
use Rattle.definitions.specs.Table.{is_active, is_worker, is_master, IsQuiet, HasParent}
use Rattle.call_laws.specs.Pieces.{is_live_master, caller_if, is_ready, share}
use Rattle.vocabulary.specs.declared.table.Stance.TheVariants.{Starting, Ready, Draining, Exited}
use Rattle.listener_set.specs.Numbers.{is_in, lacks, IsRising, RisesFrom}
use Rattle.definitions.specs.Master.{Record, IsRunning, crew_of}
use Rattle.definitions.specs.Claims.{IsStart}
use Rattle.table_laws.proofs.Rows.{one, weigh, every-more, every-both, count-weigh, both-true}
use Rattle.call_laws.proofs.Choices.{and-right}
use Rattle.table_laws.proofs.Views.{Row, master_at, named, View, Fine, Looks, ready_in, masters, eqb-refl, eqb-is}
use Rattle.table_laws.proofs.Effects.{same-refl, none}
use Rattle.table_laws.proofs.Counts.{Distinct, count-set, every-any_of}
use Rattle.table_laws.proofs.Sets.{in-here, in-there}

-- the one master's row
abbrev IsThe : ℕ → Caller → Process → Type 0
IsThe image c (Master n q i live hs) = (n ≡ c.number) × (i ≡ image) × (live ≡ true) × (hs ≡ c.holds)
IsThe image c (Worker n q g k s hs) = ⊤
IsThe image c (Foreign n hs) = ⊤

no-master : (image : ℕ) (c : Caller) (rows : List Process) → weigh masters rows ≡ 0 → AllByRecursion (IsThe image c) rows
no-master image c [] e = tt
no-master image c (Master n q i live hs ∷ rows) e = absurd (omega arith)
no-master image c (Worker n q g k s hs ∷ rows) e = (tt, no-master image c rows (omega arith))
no-master image c (Foreign n hs ∷ rows) e = (tt, no-master image c rows (omega arith))

not-found : (image : ℕ) (rows : List Process) → weigh masters rows ≡ 0 → live_master image rows ≡ None
not-found image [] e = refl
not-found image (Master n q i live hs ∷ rows) e = absurd (omega arith)
not-found image (Worker n q g k s hs ∷ rows) e = not-found image rows (omega arith)
not-found image (Foreign n hs ∷ rows) e = not-found image rows (omega arith)

the-master : (image : ℕ) (c : Caller) (rows : List Process) → weigh masters rows ≡ 1 → live_master image rows ≡ Some c → AllByRecursion (IsThe image c) rows
the-master image c [] e f = tt
the-master image c (Master n q i true hs ∷ rows) e f =
    let off : weigh masters rows ≡ 0 = omega arith in
    (go (i == image) refl f (not-found image rows off), no-master image c rows off)
  where
    go :
        (b : Bool) → (i == image) ≡ b → caller_if b n hs (live_master image rows) ≡ Some c →
        live_master image rows ≡ None → (n ≡ c.number) × (i ≡ image) × (true ≡ true) × (hs ≡ c.holds)
    go true is found off =
        let same : record { number = n; holds = hs } ≡ c = cc in
        (ap (λ (x : Caller). x.number) same, eqb-is i image is, refl, ap (λ (x : Caller). x.holds) same)
    go false is found off = absurd (cc)
the-master image c (Master n q i false hs ∷ rows) e f = let off = not-found image rows (omega arith) in absurd (cc)
the-master image c (Worker n q g k s hs ∷ rows) e f = (tt, the-master image c rows (omega arith) f)
the-master image c (Foreign n hs ∷ rows) e f = (tt, the-master image c rows (omega arith) f)

the-parent :
    (image : ℕ) (c : Caller) (q : ℕ) (rows : List Process) → AllByRecursion (IsThe image c) rows →
    list_any (is_live_master q) rows ≡ true → q ≡ c.number
the-parent image c q [] all e = absurd (cc)
the-parent image c q (Master n p i live hs ∷ rows) all e = go (live && (n == q)) refl e (the-parent image c q rows all.1)
  where
    go :
        (b : Bool) → (live && (n == q)) ≡ b → (b || list_any (is_live_master q) rows) ≡ true →
        (list_any (is_live_master q) rows ≡ true → q ≡ c.number) → q ≡ c.number
    go true is f ih = sym (eqb-is n q (and-right live _ is)) ∙ all.0.0
    go false is f ih = ih f
the-parent image c q (Worker n p g k s hs ∷ rows) all e = the-parent image c q rows all.1 e
the-parent image c q (Foreign n hs ∷ rows) all e = the-parent image c q rows all.1 e

the-row : (image : ℕ) (c : Caller) (rows : List Process) → AllByRecursion (IsThe image c) rows → weigh (master_at c.number) rows ≡ weigh masters rows
the-row image c [] all = refl
the-row image c (Master n q i live hs ∷ rows) all = omega (arith, ap one (eqb-refl n c.number all.0.0), the-row image c rows all.1)
the-row image c (Worker n q g k s hs ∷ rows) all = omega (arith, the-row image c rows all.1)
the-row image c (Foreign n hs ∷ rows) all = omega (arith, the-row image c rows all.1)

-- the view of a record
abbrev pub first_view : Record → List Hold → View
first_view r holds = record {
  number = r.pid;
  others = λ n. false;
  image = r.generation.image;
  holds = holds;
  starting = none;
  ready = λ h k. same_generation h r.generation && is_in r.ready k;
  held = λ h k. share r.posts k holds;
}

begin-row :
    (r : Record) (holds : List Hold) (rows : List Process) →
    AllByRecursion (IsThe r.generation.image (record { number = r.pid; holds = holds })) rows → (p : Process) →
    IsThe r.generation.image (record { number = r.pid; holds = holds }) p × HasParent rows p →
    IsRunning r.pid (crew_of r) holds p × IsQuiet p →
    ((k : ℕ) → is_worker is_ready r.pid r.generation k p ≡ true → is_in r.ready k ≡ true) → Fine (first_view r holds) p
begin-row r holds rows all (Master n q i live hs) a b c = a.0
begin-row r holds rows all (Worker n q g k Starting hs) a b c = absurd (b.0 (the-parent _ _ q rows all a.1))
begin-row r holds rows all (Worker n q g k Ready hs) a b c =
    let parent = the-parent _ _ q rows all a.1 in
    let run = b.0 parent in
    let same : same_generation g r.generation ≡ true = subst (λ f. same_generation f r.generation ≡ true) (sym run.0) (same-refl r.generation) in
    (parent, (both-true _ _ same (c k (both-true (q == r.pid) _ (eqb-refl q r.pid parent) (both-true (same_generation g r.generation) (k == k) same (eqb-refl k k refl)))), run.1))
begin-row r holds rows all (Worker n q g k Draining hs) a b c = (the-parent _ _ q rows all a.1, b.1)
begin-row r holds rows all (Worker n q g k Exited hs) a b c = (the-parent _ _ q rows all a.1, b.1)
begin-row r holds rows all (Foreign n hs) a b c = tt

pub begin : (t : Table) (r : Record) (s : IsStart t r) → Looks (first_view r s.agrees.holds) t.rows
begin t r s =
    let a = s.agrees in
    let alone : weigh masters t.rows ≡ 1 = sym (count-weigh is_master t.rows) ∙ a.alone in
    let all = the-master r.generation.image (record { number = r.pid; holds = a.holds }) t.rows alone a.lives in
    record {
      fine =
          every-more
          (λ p. ((IsThe r.generation.image (record { number = r.pid; holds = a.holds }) p × HasParent t.rows p) × (IsRunning r.pid (crew_of r) a.holds p × IsQuiet p)) × ((k : ℕ) → is_worker is_ready r.pid r.generation k p ≡ true → list_any (is_worker is_ready r.pid r.generation k) t.rows ≡ true))
          (Row (first_view r a.holds))
          (λ p h. inl (begin-row r a.holds t.rows all p h.0.0 h.0.1 (λ k e. sym (a.ready k) ∙ h.1 k e))) t.rows
          (every-both _ _ t.rows (every-both _ _ t.rows (every-both _ _ t.rows all s.formed.parents) (every-both _ _ t.rows a.running s.formed.quiet)) (every-any_of (λ k. is_worker is_ready r.pid r.generation k) t.rows));
      alone = the-row r.generation.image (record { number = r.pid; holds = a.holds }) t.rows all ∙ alone;
      once = λ g k. subst (λ n. n ≤ 1) (count-weigh (is_worker is_active r.pid g k) t.rows) (s.formed.once r.pid g k);
    }

-- numbers that rise are distinct
rising-off : (x bound : ℕ) (ks : List ℕ) → x < bound → RisesFrom bound ks → is_in ks x ≡ false
rising-off x bound [] lt rises = refl
rising-off x bound (y ∷ ks) lt rises = go (y == x) refl (rising-off x (y + 1) ks (omega (arith, rises.0)) rises.1)
  where
    go : (b : Bool) → (y == x) ≡ b → is_in ks x ≡ false → (b || is_in ks x) ≡ false
    go true is e = let same = eqb-is y x is in absurd (omega (arith, rises.0))
    go false is e = e

rising-from : (bound : ℕ) (ks : List ℕ) → RisesFrom bound ks → Distinct ks
rising-from bound [] rises = tt
rising-from bound (x ∷ ks) rises = (rising-off x (x + 1) ks (omega arith) rises.1, rising-from (x + 1) ks rises.1)

pub rising-distinct : (ks : List ℕ) → IsRising ks → Distinct ks
rising-distinct ks rises = rising-from 0 ks rises

pub none-lack : (l ks : List ℕ) → ((k : ℕ) → is_in l k ≡ true → is_in ks k ≡ true) → lacks l ks ≡ []
none-lack [] ks h = refl
none-lack (x ∷ l) ks h = go (is_in ks x) (h x (in-here x x l refl)) (none-lack l ks (λ k e. h k (in-there x k l e)))
  where
    go : (b : Bool) → b ≡ true → lacks l ks ≡ [] → cond (not b) (x ∷ lacks l ks) (lacks l ks) ≡ []
    go true e ih = ih
    go false e ih = absurd (cc)

pub every-all : (P : ℕ → Type 0) (ks : List ℕ) → ((k : ℕ) → P k) → AllByRecursion P ks
every-all P [] h = tt
every-all P (x ∷ ks) h = (h x, every-all P ks h)

-- its Ready workers are the record's
pub begin-count : (t : Table) (r : Record) (s : IsStart t r) → weigh (ready_in r.pid (named r.generation (is_in r.ready))) t.rows ≡ length r.ready
begin-count t r s =
    let all =
    count-set (first_view r s.agrees.holds) r.generation t.rows r.ready (begin t r s) r.ready
    (rising-distinct r.ready s.rising)
    (every-all (λ k. list_any (is_worker is_ready r.pid r.generation k) t.rows ≡ is_in r.ready k) r.ready s.agrees.ready)
    in
    omega (arith, all, ap length (none-lack r.ready r.ready (λ k e. e)))
