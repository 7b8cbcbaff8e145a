-- Facts on each row of a table with one master: what exits and calls do to them.
use Rattle.std.proofs.Common.{◌≡◌, ◌≢◌, ℕ, ◌+◌, ◌<◌, ◌≤◌, Bool, true, false, List, [], ◌∷◌, Option, Some, None, refl}
use Rattle.std.proofs.Common.{sym, ap, ◌∙◌, subst, arith, ◌⊎◌, inr, ⊎_elim}
use Rattle.std.specs.Prelude.{filter_map, ⊤, ◌&&◌, ◌==◌, nat_lt, length, if◌then◌else◌}
use Rattle.std.specs.List.{AllByRecursion, list_any}
use Rattle.listener_set.specs.declared.generation.Generation.{Generation}
use Rattle.vocabulary.specs.declared.names.Name.{Name}
use Rattle.vocabulary.specs.declared.names.Name.TheVariants as name
use Rattle.vocabulary.specs.declared.table.Stance.{Stance}
use Rattle.vocabulary.specs.declared.table.Stance.TheVariants.{Starting}
use Rattle.vocabulary.specs.declared.calls.Call.{Call}
use Rattle.vocabulary.specs.declared.calls.Call.TheVariants.{Adopt, WritePid, MovePid, SpawnMaster, TermMaster, OpenAt}
use Rattle.vocabulary.specs.declared.calls.Call.TheVariants.{CloseAt, Fork, AwaitReady, Quit, Kill, Census, Usr1, Ask}
use Rattle.vocabulary.specs.declared.calls.Answer.{Answer}
use Rattle.vocabulary.specs.declared.calls.Answer.TheVariants as answer
use Rattle.vocabulary.specs.declared.calls.Fate.{Fate}
use Rattle.definitions.specs.Table.{Hold, Process, Master, Worker, Foreign, Table, Caller, owner_at, live_master}
use Rattle.definitions.specs.Table.{is_worker, is_active, is_held}
use Rattle.call_laws.specs.Pieces.{is_live_master, is_named, caller_if, is_starting, is_draining, is_exited, is_any}
use Rattle.call_laws.specs.Pieces.{made_exited, caller_exits, moved_if, is_image_row, lacks_address, is_row}
use Rattle.call_laws.specs.Pieces.{with_new_socket, made_ready, made_draining, fault_or_own, fault_at}
use Rattle.definitions.specs.Calls.{without_exited, change, first_changed, exited, all_exited, after_exits, is_image}
use Rattle.definitions.specs.Calls.{is_of_image, census_of, Stepped, gives, suits, each_row, drop_where, with_holds}
use Rattle.definitions.specs.Calls.{put_hold, is_of, is_exited_of, with_new_row, shared, lowest_free, has_process_room}
use Rattle.definitions.specs.Calls.{own_step, step_by, step_with, Handed}
use Rattle.std.specs.Bool.{then_some}
use Rattle.table_laws.proofs.Rows.{weigh-append, one, weigh, worth, FitsIn, change-same, every-filter_map, every-append, every-any}
use Rattle.call_laws.proofs.Choices.{pick}
use Rattle.table_laws.proofs.Views.{master_at, eqb-refl, eqb-off, eqb-is}
use Rattle.call_laws.proofs.Cases.{unfailing}
use Rattle.table_laws.proofs.Exits.{IsNot, Spares, kept-master}

---- The one master

-- each master's row is the live one of the number and the image, or of another number and another image
abbrev pub IsOf : ℕ → ℕ → Process → Type 0
IsOf m image (Master n q i live hs) = ((n ≡ m) × (i ≡ image) × (live ≡ true)) ⊎ ((n ≢ m) × (i ≢ image))
IsOf m image (Worker n q g k s hs) = ⊤
IsOf m image (Foreign n hs) = ⊤

-- and it is there
pub record HasOne (m image : ℕ) (rows : List Process) : Type 0 where
  pub all : AllByRecursion (IsOf m image) rows
  pub some : 1 ≤ weigh (master_at m) rows

pub one-found :
    (m image : ℕ) (rows : List Process) → AllByRecursion (IsOf m image) rows → 1 ≤ weigh (master_at m) rows →
    (hs : List Hold) × (live_master image rows ≡ Some (record { number = m; holds = hs }))
one-found m image [] all some = absurd (omega arith)
one-found m image (Master n q i live hs ∷ rows) all some =
    ⊎_elim (λ o. (hs, go live (i == image) o.0 o.2 (eqb-refl i image o.1)))
    (λ o. let (zs, found) = one-found m image rows all.1 (omega (arith, some, ap one (eqb-off n m o.0))) in (zs, skip live (i == image) (eqb-off i image o.1) ∙ found))
    all.0
  where
    go : (l b : Bool) → n ≡ m → l ≡ true → b ≡ true → caller_if (l && b) n hs (live_master image rows) ≡ Some (record { number = m; holds = hs })
    go true true is e f = λ i. Some (record { number = is i; holds = hs })
    go true false is e f = absurd (cc)
    go false b is e f = absurd (cc)

    skip : (l b : Bool) → b ≡ false → caller_if (l && b) n hs (live_master image rows) ≡ live_master image rows
    skip true true e = absurd (cc)
    skip true false e = refl
    skip false b e = refl
one-found m image (Worker n q g k s hs ∷ rows) all some = one-found m image rows all.1 (omega (arith, some))
one-found m image (Foreign n hs ∷ rows) all some = one-found m image rows all.1 (omega (arith, some))

-- A live master of another image has another number.
pub other-number :
    (m image i : ℕ) (rows : List Process) → i ≢ image → AllByRecursion (IsOf m image) rows → (c : Caller) →
    live_master i rows ≡ Some c → m ≢ c.number
other-number m image i [] ne all c e = absurd (cc)
other-number m image i (Master n q j live hs ∷ rows) ne all c e = go live (j == i) refl e (other-number m image i rows ne all.1 c)
  where
    go : (l b : Bool) → (j == i) ≡ b → caller_if (l && b) n hs (live_master i rows) ≡ Some c → (live_master i rows ≡ Some c → m ≢ c.number) → m ≢ c.number
    go true true is e ih =
        let same : record { number = n; holds = hs } ≡ c = cc in
        ⊎_elim (λ o. absurd (ne (sym (eqb-is j i is) ∙ o.1))) (λ o is_m. o.0 (ap (λ (x : Caller). x.number) same ∙ sym is_m)) all.0
    go true false is e ih = ih e
    go false b is e ih = ih e
other-number m image i (Worker n q g k s hs ∷ rows) ne all c e = other-number m image i rows ne all.1 c e
other-number m image i (Foreign n hs ∷ rows) ne all c e = other-number m image i rows ne all.1 c e

---- Facts that last

-- What exits, and the calls of the master, do to a fact on a row; `Quits` says of which names a worker may be told to quit, and
-- `n` is below each new process number.
pub record Lasts (m n : ℕ) (P : Process → Type 0) (Quits : Generation → ℕ → Type 0) : Type 0 where
  pub ends : (p : Process) → P p → P (made_exited p)
  pub keeps : (f : List Hold → List Hold) (p : Process) → P p → P (with_holds f p)
  pub readies : (c : ℕ) (g : Generation) (x : ℕ) (p : Process) → is_worker is_starting c g x p ≡ true → P p → P (made_ready p)
  pub drains : (g : Generation) (x : ℕ) (p : Process) → Quits g x → is_worker is_active m g x p ≡ true → P p → P (made_draining p)
  pub starts : (number c : ℕ) (g : Generation) (x : ℕ) (hs : List Hold) → n < number → P (Worker number c g x Starting hs)
  pub spawns : (number parent i : ℕ) (hs : List Hold) → n < number → P (Master number parent i true hs)
  pub leaves : (gone : ℕ) (lives : ℕ → Bool) (p : Process) → m ≢ gone → P p → FitsIn P (without_exited gone lives p)

-- calls that let it last
abbrev pub Lets : (Generation → ℕ → Type 0) → Call → Type 0
Lets Quits (OpenAt a) = ⊤
Lets Quits (CloseAt a) = ⊤
Lets Quits (Fork g x fds) = ⊤
Lets Quits (AwaitReady g x) = ⊤
Lets Quits (Quit g x) = Quits g x
Lets Quits (Kill g x) = ⊤
Lets Quits (Census g) = ⊤
Lets Quits (Usr1 g x) = ⊤
Lets Quits _ = ⊥

pub record Fact (m image n : ℕ) (P : Process → Type 0) (t : Table) : Type 0 where
  pub one : HasOne m image t.rows
  pub all : AllByRecursion P t.rows
  pub below : n < t.next_process
  pub above : m < t.next_process

module _ (m n : ℕ) (P : Process → Type 0) (Quits : Generation → ℕ → Type 0) (lasts : Lasts m n P Quits) where
  every-change :
      (test : Process → Bool) (f : Process → Process) → ((p : Process) → test p ≡ true → P p → P (f p)) →
      (rows : List Process) → AllByRecursion P rows → AllByRecursion P (filter_map (change test f) rows)
  every-change test f h rows all = every-filter_map P P (change test f) (λ p x. pick P (test p) (f p) p (λ e. h p e x) (λ e. x)) rows all

  every-first : (test : Process → Bool) (rows : List Process) → AllByRecursion P rows → AllByRecursion P (first_changed test made_exited rows)
  every-first test [] all = tt
  every-first test (p ∷ rows) all =
      pick (AllByRecursion P) (test p) (made_exited p ∷ rows) (p ∷ first_changed test made_exited rows)
      (λ e. (lasts.ends p all.0, all.1)) (λ e. (all.0, every-first test rows all.1))

  -- one exit, of whoever is not the master
  exit-one :
      (image : ℕ) (e : Name) (rows : List Process) → IsNot image e → AllByRecursion (IsOf m image) rows →
      AllByRecursion P rows → AllByRecursion P (exited e rows)
  exit-one image (name.Worker g k) rows is one all = every-change (is_named is_active g k) made_exited (λ p e x. lasts.ends p x) rows all
  exit-one image (name.Draining g k) rows is one all = every-first (is_named is_draining g k) rows all
  exit-one image (name.Master i) rows is one all = go (live_master i rows) refl
    where
      go : (o : Option Caller) → live_master i rows ≡ o → AllByRecursion P (caller_exits o rows)
      go None e = all
      go (Some c) e =
          every-filter_map P P (without_exited c.number (λ q. list_any (is_live_master q) rows))
          (λ p x. lasts.leaves c.number (λ q. list_any (is_live_master q) rows) p (other-number m image i rows is one c e) x)
          rows all

every-dropped :
    (P : Process → Type 0) (test : Process → Bool) (rows : List Process) → AllByRecursion P rows →
    AllByRecursion P (filter_map (drop_where test) rows)
every-dropped P test rows all = every-filter_map P P (drop_where test) (λ p x. pick (FitsIn P) (test p) None (Some p) (λ e. tt) (λ e. x)) rows all

-- The masters' own fact lasts, but for new masters.
abbrev pub OfLasts : ℕ → ℕ → Type 0
OfLasts m image =
    ((p : Process) → IsOf m image p → IsOf m image (made_exited p)) ×
    ((f : List Hold → List Hold) (p : Process) → IsOf m image p → IsOf m image (with_holds f p)) ×
    ((p : Process) → IsOf m image p → IsOf m image (made_ready p)) ×
    ((p : Process) → IsOf m image p → IsOf m image (made_draining p)) ×
    ((gone : ℕ) (lives : ℕ → Bool) (p : Process) → m ≢ gone → IsOf m image p → FitsIn (IsOf m image) (without_exited gone lives p))

pub of-lasts : (m image : ℕ) → OfLasts m image
of-lasts m image = (of-exited, of-holds, of-ready, of-draining, of-left)
  where
    of-exited : (p : Process) → IsOf m image p → IsOf m image (made_exited p)
    of-exited (Master n q i live hs) h = h
    of-exited (Worker n q g k s hs) h = tt
    of-exited (Foreign n hs) h = tt

    of-holds : (f : List Hold → List Hold) (p : Process) → IsOf m image p → IsOf m image (with_holds f p)
    of-holds f (Master n q i live hs) h = h
    of-holds f (Worker n q g k s hs) h = tt
    of-holds f (Foreign n hs) h = tt

    of-ready : (p : Process) → IsOf m image p → IsOf m image (made_ready p)
    of-ready (Master n q i live hs) h = h
    of-ready (Worker n q g k s hs) h = tt
    of-ready (Foreign n hs) h = tt

    of-draining : (p : Process) → IsOf m image p → IsOf m image (made_draining p)
    of-draining (Master n q i live hs) h = h
    of-draining (Worker n q g k s hs) h = tt
    of-draining (Foreign n hs) h = tt

    of-left : (gone : ℕ) (lives : ℕ → Bool) (p : Process) → m ≢ gone → IsOf m image p → FitsIn (IsOf m image) (without_exited gone lives p)
    of-left gone lives (Master n q i live hs) ne h =
        pick (FitsIn (IsOf m image)) (n == gone) _ _ (λ e. ⊎_elim (λ o. absurd (ne (sym o.0 ∙ eqb-is n gone e))) (λ o. kept (lives q) o) h) (λ e. h)
      where
        kept : (b : Bool) → (n ≢ m) × (i ≢ image) → FitsIn (IsOf m image) (then_some b (Master n q i false []))
        kept true o = inr o
        kept false o = tt
    of-left gone lives (Worker n q g k s hs) ne h = pick (FitsIn (IsOf m image)) (q == gone) None (Some (Worker n q g k s hs)) (λ e. tt) (λ e. tt)
    of-left gone lives (Foreign n hs) ne h = tt

-- Masters are counted as before where no change makes or takes one.
masters-changed :
    (m : ℕ) (test : Process → Bool) (f : Process → Process) → ((p : Process) → master_at m (f p) ≡ master_at m p) →
    (rows : List Process) → weigh (master_at m) (filter_map (change test f) rows) ≡ weigh (master_at m) rows
masters-changed m test f same rows =
    change-same (λ p. ⊤) (master_at m) (change test f)
    (λ p x. pick (λ p'. master_at m p' ≡ master_at m p) (test p) (f p) p (λ e. same p) (λ e. refl)) rows
    (every-any rows)

masters-dropped :
    (m : ℕ) (test : Process → Bool) → ((p : Process) → test p ≡ true → master_at m p ≡ 0) → (rows : List Process) →
    weigh (master_at m) (filter_map (drop_where test) rows) ≡ weigh (master_at m) rows
masters-dropped m test none rows =
    change-same (λ p. ⊤) (master_at m) (drop_where test)
    (λ p x. pick (λ o. worth (master_at m) o ≡ master_at m p) (test p) None (Some p) (λ e. sym (none p e)) (λ e. refl))
    rows (every-any rows)

no-master : (stance : Stance → Bool) (m c : ℕ) (g : Generation) (x : ℕ) (p : Process) → is_worker stance c g x p ≡ true → master_at m p ≡ 0
no-master stance m c g x (Master n q i live hs) e = absurd (cc e)
no-master stance m c g x (Worker n q h k s hs) e = refl
no-master stance m c g x (Foreign n hs) e = refl

no-master-exited : (m c : ℕ) (p : Process) → is_exited_of c p ≡ true → master_at m p ≡ 0
no-master-exited m c (Master n q i live hs) e = absurd (cc e)
no-master-exited m c (Worker n q h k s hs) e = refl
no-master-exited m c (Foreign n hs) e = refl

exited-kind : (m : ℕ) (p : Process) → master_at m (made_exited p) ≡ master_at m p
exited-kind m (Master n q i live hs) = refl
exited-kind m (Worker n q g k s hs) = refl
exited-kind m (Foreign n hs) = refl

holds-kind : (m : ℕ) (f : List Hold → List Hold) (p : Process) → master_at m (with_holds f p) ≡ master_at m p
holds-kind m f (Master n q i live hs) = refl
holds-kind m f (Worker n q g k s hs) = refl
holds-kind m f (Foreign n hs) = refl

ready-kind : (m : ℕ) (p : Process) → master_at m (made_ready p) ≡ master_at m p
ready-kind m (Master n q i live hs) = refl
ready-kind m (Worker n q g k s hs) = refl
ready-kind m (Foreign n hs) = refl

draining-kind : (m : ℕ) (p : Process) → master_at m (made_draining p) ≡ master_at m p
draining-kind m (Master n q i live hs) = refl
draining-kind m (Worker n q g k s hs) = refl
draining-kind m (Foreign n hs) = refl

masters-first : (m : ℕ) (test : Process → Bool) (rows : List Process) → weigh (master_at m) (first_changed test made_exited rows) ≡ weigh (master_at m) rows
masters-first m test [] = refl
masters-first m test (p ∷ rows) =
    pick (λ l. weigh (master_at m) l ≡ master_at m p + weigh (master_at m) rows) (test p) (made_exited p ∷ rows)
    (p ∷ first_changed test made_exited rows) (λ e. ap (λ k. k + weigh (master_at m) rows) (exited-kind m p))
    (λ e. ap (λ k. master_at m p + k) (masters-first m test rows))

exit-masters :
    (m image : ℕ) (e : Name) (rows : List Process) → IsNot image e → AllByRecursion (IsOf m image) rows →
    weigh (master_at m) (exited e rows) ≡ weigh (master_at m) rows
exit-masters m image (name.Worker g k) rows is one = masters-changed m (is_named is_active g k) made_exited (exited-kind m) rows
exit-masters m image (name.Draining g k) rows is one = masters-first m (is_named is_draining g k) rows
exit-masters m image (name.Master i) rows is one = go (live_master i rows) refl
  where
    go : (o : Option Caller) → live_master i rows ≡ o → weigh (master_at m) (caller_exits o rows) ≡ weigh (master_at m) rows
    go None e = refl
    go (Some c) e =
        change-same (λ p. ⊤) (master_at m) (without_exited c.number (λ q. list_any (is_live_master q) rows))
        (λ p x. kept-master m c.number (λ q. list_any (is_live_master q) rows) (other-number m image i rows is one c e) p)
        rows (every-any rows)

-- one exit keeps the masters' own fact
of-exit-one :
    (m image : ℕ) (e : Name) (rows : List Process) → IsNot image e → AllByRecursion (IsOf m image) rows →
    AllByRecursion (IsOf m image) (exited e rows)
of-exit-one m image (name.Worker g k) rows is one =
    every-filter_map (IsOf m image) (IsOf m image) (change (is_named is_active g k) made_exited)
    (λ p x. pick (IsOf m image) (is_named is_active g k p) (made_exited p) p (λ e. (of-lasts m image).0 p x) (λ e. x))
    rows one
of-exit-one m image (name.Draining g k) rows is one = first (is_named is_draining g k) rows one
  where
    first :
        (test : Process → Bool) (rows : List Process) → AllByRecursion (IsOf m image) rows →
        AllByRecursion (IsOf m image) (first_changed test made_exited rows)
    first test [] all = tt
    first test (p ∷ rows) all =
        pick (AllByRecursion (IsOf m image)) (test p) (made_exited p ∷ rows) (p ∷ first_changed test made_exited rows)
        (λ e. ((of-lasts m image).0 p all.0, all.1)) (λ e. (all.0, first test rows all.1))
of-exit-one m image (name.Master i) rows is one = go (live_master i rows) refl
  where
    go : (o : Option Caller) → live_master i rows ≡ o → AllByRecursion (IsOf m image) (caller_exits o rows)
    go None e = one
    go (Some c) e =
        every-filter_map (IsOf m image) (IsOf m image) (without_exited c.number (λ q. list_any (is_live_master q) rows))
        (λ p x. (of-lasts m image).4 c.number (λ q. list_any (is_live_master q) rows) p (other-number m image i rows is one c e) x)
        rows one

-- A fact lasts through all exits that spare the master.
pub fact-exits :
    (m image n : ℕ) (P : Process → Type 0) (Quits : Generation → ℕ → Type 0) → Lasts m n P Quits →
    (es : List Name) (t : Table) → Spares image es → Fact m image n P t → Fact m image n P (after_exits es t)
fact-exits m image n P Quits lasts es t sp fact =
    let all = go es t.rows sp fact.one fact.all in
    record { one = all.0; all = all.1; below = fact.below; above = fact.above }
  where
    go :
        (es : List Name) (rows : List Process) → Spares image es → HasOne m image rows → AllByRecursion P rows →
        HasOne m image (all_exited es rows) × AllByRecursion P (all_exited es rows)
    go [] rows sp one all = (one, all)
    go (e ∷ es) rows sp one all =
        go es (exited e rows) sp.1
        (record { all = of-exit-one m image e rows sp.0 one.all; some = omega (arith, one.some, exit-masters m image e rows sp.0 one.all) })
        (exit-one m n P Quits lasts image e rows sp.0 one.all all)

-- calls that any master may make, beside the master of the image
abbrev pub AnyCall : ℕ → Call → Type 0
AnyCall image (OpenAt a) = ⊤
AnyCall image (CloseAt a) = ⊤
AnyCall image (Fork g x fds) = ⊤
AnyCall image (AwaitReady g x) = ⊤
AnyCall image (Census g) = ⊤
AnyCall image Adopt = ⊤
AnyCall image (WritePid path) = ⊤
AnyCall image (MovePid from to) = ⊤
AnyCall image (SpawnMaster i) = i ≢ image
AnyCall image (TermMaster i) = i ≢ image
AnyCall image (Ask q) = ⊤
AnyCall image _ = ⊥

-- The call's own effect.
module _ (m image n : ℕ) (P : Process → Type 0) (Quits : Generation → ℕ → Type 0) (lasts : Lasts m n P Quits) (hs : List Hold) where
  abbrev me : Caller
  me = record { number = m; holds = hs }

  abbrev F : Table → Type 0
  F t = Fact m image n P t

  fact-changed :
      (test : Process → Bool) (f : Process → Process) (t : Table) → ((p : Process) → test p ≡ true → P p → P (f p)) →
      ((p : Process) → test p ≡ true → IsOf m image p → IsOf m image (f p)) →
      ((p : Process) → master_at m (f p) ≡ master_at m p) → F t → F (each_row (change test f) t)
  fact-changed test f t h o kind fact = record {
    one = record {
      all =
          every-filter_map (IsOf m image) (IsOf m image) (change test f)
          (λ p x. pick (IsOf m image) (test p) (f p) p (λ e. o p e x) (λ e. x)) t.rows fact.one.all;
      some = omega (arith, fact.one.some, masters-changed m test f kind t.rows);
    };
    all = every-change m n P Quits lasts test f h t.rows fact.all;
    below = fact.below;
    above = fact.above;
  }

  fact-dropped : (test : Process → Bool) (t : Table) → ((p : Process) → test p ≡ true → master_at m p ≡ 0) → F t → F (each_row (drop_where test) t)
  fact-dropped test t none fact = record {
    one = record { all = every-dropped (IsOf m image) test t.rows fact.one.all; some = omega (arith, fact.one.some, masters-dropped m test none t.rows) };
    all = every-dropped P test t.rows fact.all;
    below = fact.below;
    above = fact.above;
  }

  fact-opened : (h : Hold) (t : Table) → F t → F (with_new_socket t m h)
  fact-opened h t fact =
      let f =
      fact-changed (is_row m) (with_holds (put_hold h)) t (λ p e x. lasts.keeps (put_hold h) p x)
      (λ p e x. (of-lasts m image).1 (put_hold h) p x) (holds-kind m (put_hold h)) fact in
      record { one = f.one; all = f.all; below = f.below; above = f.above }

  fact-forked : (g : Generation) (x : ℕ) (fds : Option (List ℕ)) (t : Table) → F t → F (with_new_row t (λ k. Worker k m g x Starting (shared fds hs)))
  fact-forked g x fds t fact =
      let new = Worker t.next_process m g x Starting (shared fds hs) in
      record {
        one =
            record
            { all = every-append (IsOf m image) t.rows new fact.one.all tt; some = omega (arith, fact.one.some, weigh-append (master_at m) t.rows (new ∷ [])) };
        all = every-append P t.rows new fact.all (lasts.starts t.next_process m g x (shared fds hs) fact.below);
        below = omega (arith, fact.below);
        above = omega (arith, fact.above);
      }

  own-keeps : (handed : Handed) (call : Call) (t : Table) → Lets Quits call → F t → F (own_step handed image me call t).table
  own-keeps handed (OpenAt a) t lets fact =
      let h : Hold = record { fd = lowest_free hs; socket = t.next_socket; address = a } in
      let done = gives (answer.Opened (lowest_free hs)) (with_new_socket t m h) in
      pick (λ (st : Stepped). F st.table) (is_held a t.rows) (gives answer.InUse t)
      (if nat_lt (length hs) t.limits.descriptors then done else gives answer.TooMany t) (λ e. fact)
      (λ e. pick (λ (st : Stepped). F st.table) (nat_lt (length hs) t.limits.descriptors) done (gives answer.TooMany t) (λ e. fact-opened h t fact) (λ e. fact))
  own-keeps handed (CloseAt a) t lets fact =
      fact-changed (is_of m) (with_holds (lacks_address a)) t (λ p e x. lasts.keeps (lacks_address a) p x)
      (λ p e x. (of-lasts m image).1 (lacks_address a) p x) (holds-kind m (lacks_address a)) fact
  own-keeps handed (Fork g x fds) t lets fact =
      let done = gives answer.Forked (with_new_row t (λ k. Worker k m g x Starting (shared fds hs))) in
      pick (λ (st : Stepped). F st.table) (list_any (is_worker is_active m g x) t.rows) (gives answer.Again t)
      (if has_process_room t then done else gives answer.Again t) (λ e. fact)
      (λ e. pick (λ (st : Stepped). F st.table) (has_process_room t) done (gives answer.Again t) (λ e. fact-forked g x fds t fact) (λ e. fact))
  own-keeps handed (AwaitReady g x) t lets fact =
      pick (λ (st : Stepped). F st.table) (list_any (is_worker is_active m g x) t.rows) _ _
      (λ e. fact-changed (is_worker is_starting m g x) made_ready t (lasts.readies m g x) (λ p e x. (of-lasts m image).2 p x) (ready-kind m) fact)
      (λ e. fact-dropped (is_worker is_exited m g x) t (no-master is_exited m m g x) fact)
  own-keeps handed (Quit g x) t lets fact =
      fact-changed (is_worker is_active m g x) made_draining t (λ p e h. lasts.drains g x p lets e h)
      (λ p e h. (of-lasts m image).3 p h) (draining-kind m) fact
  own-keeps handed (Kill g x) t lets fact = fact-dropped (is_worker is_any m g x) t (no-master is_any m m g x) fact
  own-keeps handed (Census g) t lets fact = fact-dropped (is_exited_of m) t (no-master-exited m m) fact
  own-keeps handed (Usr1 g x) t lets fact = fact
  own-keeps handed _ t lets fact = absurd lets

  -- what another image's end takes
  kept-of-image :
      (i : ℕ) (rows : List Process) → i ≢ image → (p : Process) → IsOf m image p →
      worth (master_at m) (drop_where (is_of_image i rows) p) ≡ master_at m p
  kept-of-image i rows ne (Master k q j live zs) h =
      pick (λ o. worth (master_at m) o ≡ one (k == m)) (j == i) None (Some (Master k q j live zs))
      (λ e. ⊎_elim (λ o. absurd (ne (sym (eqb-is j i e) ∙ o.1))) (λ o. sym (ap one (eqb-off k m o.0))) h) (λ e. refl)
  kept-of-image i rows ne (Worker k q g j s zs) h =
      pick (λ o. worth (master_at m) o ≡ 0) (list_any (is_image_row i q) rows) None (Some (Worker k q g j s zs))
      (λ e. refl) (λ e. refl)
  kept-of-image i rows ne (Foreign k zs) h = refl

  any-keeps : (handed : Handed) (by : ℕ) (c : Caller) (call : Call) (t : Table) → AnyCall image call → F t → F (own_step handed by c call t).table
  any-keeps handed by c (OpenAt a) t any fact =
      let h : Hold = record { fd = lowest_free c.holds; socket = t.next_socket; address = a } in
      let done = gives (answer.Opened (lowest_free c.holds)) (with_new_socket t c.number h) in
      let opened : F done.table =
      (let f = fact-changed (is_row c.number) (with_holds (put_hold h)) t (λ p e x. lasts.keeps (put_hold h) p x) (λ p e x. (of-lasts m image).1 (put_hold h) p x) (holds-kind m (put_hold h)) fact in record { one = f.one; all = f.all; below = f.below; above = f.above })
      in
      pick (λ (st : Stepped). F st.table) (is_held a t.rows) (gives answer.InUse t)
      (if nat_lt (length c.holds) t.limits.descriptors then done else gives answer.TooMany t) (λ e. fact)
      (λ e. pick (λ (st : Stepped). F st.table) (nat_lt (length c.holds) t.limits.descriptors) done (gives answer.TooMany t) (λ e. opened) (λ e. fact))
  any-keeps handed by c (CloseAt a) t any fact =
      fact-changed (is_of c.number) (with_holds (lacks_address a)) t (λ p e x. lasts.keeps (lacks_address a) p x)
      (λ p e x. (of-lasts m image).1 (lacks_address a) p x) (holds-kind m (lacks_address a)) fact
  any-keeps handed by c (Fork g x fds) t any fact =
      let new = Worker t.next_process c.number g x Starting (shared fds c.holds) in
      let done = gives answer.Forked (with_new_row t (λ k. Worker k c.number g x Starting (shared fds c.holds))) in
      let forked : F done.table = record {
        one =
            record
            { all = every-append (IsOf m image) t.rows new fact.one.all tt; some = omega (arith, fact.one.some, weigh-append (master_at m) t.rows (new ∷ [])) };
        all = every-append P t.rows new fact.all (lasts.starts t.next_process c.number g x (shared fds c.holds) fact.below);
        below = omega (arith, fact.below);
        above = omega (arith, fact.above);
      } in
      pick (λ (st : Stepped). F st.table) (list_any (is_worker is_active c.number g x) t.rows) (gives answer.Again t)
      (if has_process_room t then done else gives answer.Again t) (λ e. fact)
      (λ e. pick (λ (st : Stepped). F st.table) (has_process_room t) done (gives answer.Again t) (λ e. forked) (λ e. fact))
  any-keeps handed by c (AwaitReady g x) t any fact =
      pick (λ (st : Stepped). F st.table) (list_any (is_worker is_active c.number g x) t.rows) _ _
      (λ e. fact-changed (is_worker is_starting c.number g x) made_ready t (lasts.readies c.number g x) (λ p e x. (of-lasts m image).2 p x) (ready-kind m) fact)
      (λ e. fact-dropped (is_worker is_exited c.number g x) t (no-master is_exited m c.number g x) fact)
  any-keeps handed by c (Census g) t any fact = fact-dropped (is_exited_of c.number) t (no-master-exited m c.number) fact
  any-keeps handed by c Adopt t any fact =
      pick (λ (st : Stepped). F st.table) (suits handed by c.holds) (gives answer.Adopted t)
      (gives answer.Refused t) (λ e. fact) (λ e. fact)
  any-keeps handed by c (WritePid path) t any fact = record { one = fact.one; all = fact.all; below = fact.below; above = fact.above }
  any-keeps handed by c (MovePid from to) t any fact = go (owner_at from t.files)
    where
      go : (o : Option ℕ) → F (moved_if o from to t).table
      go None = fact
      go (Some owner) = record { one = fact.one; all = fact.all; below = fact.below; above = fact.above }
  any-keeps handed by c (SpawnMaster i) t any fact =
      let new = Master t.next_process c.number i true c.holds in
      let done = gives answer.Spawned (with_new_row t (λ k. Master k c.number i true c.holds)) in
      let spawned : F done.table = record {
        one =
            record
            { all = every-append (IsOf m image) t.rows new fact.one.all (inr ((λ e. absurd (omega (arith, e, fact.above))), any)); some = omega (arith, fact.one.some, weigh-append (master_at m) t.rows (new ∷ [])) };
        all = every-append P t.rows new fact.all (lasts.spawns t.next_process c.number i c.holds fact.below);
        below = omega (arith, fact.below);
        above = omega (arith, fact.above);
      } in
      pick (λ (st : Stepped). F st.table) (list_any (is_image i) t.rows) (gives answer.Again t)
      (if has_process_room t then done else gives answer.Again t) (λ e. fact)
      (λ e. pick (λ (st : Stepped). F st.table) (has_process_room t) done (gives answer.Again t) (λ e. spawned) (λ e. fact))
  any-keeps handed by c (TermMaster i) t any fact = record {
    one =
        record
        { all = every-dropped (IsOf m image) (is_of_image i t.rows) t.rows fact.one.all; some = omega (arith, fact.one.some, change-same (IsOf m image) (master_at m) (drop_where (is_of_image i t.rows)) (kept-of-image i t.rows any) t.rows fact.one.all) };
    all = every-dropped P (is_of_image i t.rows) t.rows fact.all;
    below = fact.below;
    above = fact.above;
  }
  any-keeps handed by c (Ask q) t any fact = fact
  any-keeps handed by c _ t any fact = absurd any

  -- A fact lasts through the calls that any master may make.
  pub fact-any : (handed : Handed) (by : ℕ) (call : Call) (fate : Option Fate) (t : Table) → AnyCall image call → F t →
      F (step_with handed by call fate t).table
  fact-any handed by call fate t any fact = go (live_master by t.rows)
    where
      or : (o : Option Answer) (c : Caller) → F (fault_or_own o handed by c call t).table
      or (Some a) c = fact
      or None c = any-keeps handed by c call t any fact

      go : (o : Option Caller) → F (step_by handed by o call fate t).table
      go None = fact
      go (Some c) = or (fault_at c call fate t) c

  fault-or :
      (o : Option Answer) (handed : Handed) (call : Call) (t : Table) → F t → F (own_step handed image me call t).table →
      F (fault_or_own o handed image me call t).table
  fault-or (Some a) handed call t same own = same
  fault-or None handed call t same own = own

-- A fact lasts through the calls that let it.
pub fact-steps :
    (m image n : ℕ) (P : Process → Type 0) (Quits : Generation → ℕ → Type 0) → Lasts m n P Quits →
    (handed : Handed) (call : Call) (fate : Option Fate) (t : Table) → Lets Quits call → Fact m image n P t →
    Fact m image n P (step_with handed image call fate t).table
fact-steps m image n P Quits lasts handed call fate t lets fact =
    let (hs, found) = one-found m image t.rows fact.one.all fact.one.some in
    let me : Caller = record { number = m; holds = hs } in
    subst (λ (o : Option Caller). Fact m image n P (step_by handed image o call fate t).table) (sym found)
    (fault-or m image n P Quits lasts hs (fault_at me call fate t) handed call t fact (own-keeps m image n P Quits lasts hs handed call t lets fact))

-- What a census is answered.
pub fact-census :
    (m image n : ℕ) (P : Process → Type 0) (handed : Handed) (g : Generation) (fate : Option Fate) (t : Table) → Fact m
    image n P t → step_with handed image (Census g) fate t ≡ gives (answer.Counted (census_of m g t.rows))
    (each_row (drop_where (is_exited_of m)) t)
fact-census m image n P handed g fate t fact =
    let (hs, found) = one-found m image t.rows fact.one.all fact.one.some in
    ap (λ (o : Option Caller). step_by handed image o (Census g) fate t) found ∙ unfailing handed image (record { number = m; holds = hs }) (Census g) fate t tt
