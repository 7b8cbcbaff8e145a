-- A process that is Ready at first stays so, unless it is lost or told to quit.
use Rattle.std.proofs.Common.{◌≡◌, ◌≢◌, ℕ, ◌<◌, Bool, true, false, List, [], ◌∷◌, ◌++◌, Option, Some, None, refl, sym, ◌∙◌, subst, arith, ⊎_elim}
use Rattle.std.specs.Prelude.{filter_map, ⊤, ◌&&◌, ◌||◌, ◌==◌, nat_lt, length, if◌then◌else◌}
use Rattle.std.specs.List.{AllByRecursion, list_any, cons_option}
use Rattle.listener_set.specs.Numbers.{is_in}
use Rattle.listener_set.specs.declared.generation.Generation.{Generation}
use Rattle.vocabulary.specs.declared.names.Name.{Name}
use Rattle.vocabulary.specs.declared.table.Stance.{Stance}
use Rattle.vocabulary.specs.declared.table.Stance.TheVariants.{Starting, Ready, Draining, Exited}
use Rattle.vocabulary.specs.declared.calls.Call.{Call}
use Rattle.vocabulary.specs.declared.calls.Call.TheVariants.{Adopt, WritePid, MovePid, SpawnMaster, TermMaster, OpenAt}
use Rattle.vocabulary.specs.declared.calls.Call.TheVariants.{CloseAt, Fork, AwaitReady, Quit, Kill, Census, Usr1, Ask}
use Rattle.vocabulary.specs.declared.calls.Answer.{Answer}
use Rattle.vocabulary.specs.declared.calls.Answer.TheVariants as answer
use Rattle.vocabulary.specs.declared.calls.Fate.{Fate}
use Rattle.definitions.specs.Table.{Hold, Process, Master, Worker, Foreign, Table, Caller, owner_at, live_master}
use Rattle.definitions.specs.Table.{number_of, bears, is_worker, is_active, is_held}
use Rattle.call_laws.specs.Pieces.{is_ready, is_starting, is_exited, is_any, made_exited, moved_if, is_image_row}
use Rattle.call_laws.specs.Pieces.{lacks_address, is_row, made_ready, made_draining, with_new_socket, fault_or_own}
use Rattle.call_laws.specs.Pieces.{fault_at, is_active_process}
use Rattle.definitions.specs.Calls.{without_exited, change, all_exited, after_exits, is_image, is_of_image, Stepped}
use Rattle.definitions.specs.Calls.{gives, with_holds, suits, put_hold, is_of, is_exited_of, drop_where, census_of}
use Rattle.definitions.specs.Calls.{with_new_row, shared, lowest_free, has_process_room, own_step, step_by, step_with}
use Rattle.definitions.specs.Calls.{Handed}
use Rattle.std.specs.Bool.{then_some}
use Rattle.table_laws.proofs.Rows.{FitsIn, or-right}
use Rattle.call_laws.proofs.Choices.{pick, and-left, and-right}
use Rattle.table_laws.proofs.Views.{eqb-is}
use Rattle.table_laws.proofs.Exits.{Spares}
use Rattle.table_laws.proofs.Effects.{bears-is}
use Rattle.table_laws.proofs.Counts.{census-in}
use Rattle.run_laws.proofs.Logic.{Exiting, Unasked}
use Rattle.run_laws.proofs.Processes.{IsOf, AnyCall, Lasts, Lets, Fact, one-found, fact-any, fact-exits, fact-steps, fact-census}
use Rattle.run_laws.proofs.Lights.{Light}

-- the exits do not end the process while it is Starting or Ready
abbrev pub Unlost : ℕ → Exiting
Unlost n es rows = list_any (is_active_process n) rows ≡ true → list_any (is_active_process n) (all_exited es rows) ≡ true

module _ (m image n : ℕ) (g0 : Generation) (k0 : ℕ) (low : k0 < 1024) where
  -- the process itself, Ready under its name
  abbrev pub is_it : Process → Bool
  is_it p = is_worker is_ready m g0 k0 p && (number_of p == n)

  -- whoever is active with its number is it
  abbrev pub IsIt : Process → Type 0
  IsIt p = is_active_process n p ≡ true → is_it p ≡ true

  abbrev pub IsFree : Generation → ℕ → Type 0
  IsFree g x = bears g x g0 k0 ≡ false

  it-lasts : Lasts m n IsIt IsFree
  it-lasts = record {
    ends = ends;
    keeps = keeps;
    readies = readies;
    drains = λ g x p free e h. drains p;
    starts = starts;
    spawns = λ number parent i hs lt e. absurd (cc e);
    leaves = leaves;
  }
    where
      ends : (p : Process) → IsIt p → IsIt (made_exited p)
      ends (Master k q i live hs) h e = absurd (cc e)
      ends (Worker k q g j s hs) h e = absurd (cc e)
      ends (Foreign k hs) h e = absurd (cc e)

      keeps : (f : List Hold → List Hold) (p : Process) → IsIt p → IsIt (with_holds f p)
      keeps f (Master k q i live hs) h e = absurd (cc e)
      keeps f (Worker k q g j s hs) h e = h e
      keeps f (Foreign k hs) h e = absurd (cc e)

      readies : (c : ℕ) (g : Generation) (x : ℕ) (p : Process) → is_worker is_starting c g x p ≡ true → IsIt p → IsIt (made_ready p)
      readies c g x (Master k q i live hs) t h e = absurd (cc t)
      readies c g x (Worker k q h' j Starting hs) t h e = absurd (let no = h e in cc)
      readies c g x (Worker k q h' j Ready hs) t h e = absurd (cc t)
      readies c g x (Worker k q h' j Draining hs) t h e = absurd (cc t)
      readies c g x (Worker k q h' j Exited hs) t h e = absurd (cc t)
      readies c g x (Foreign k hs) t h e = absurd (cc t)

      drains : (p : Process) → IsIt (made_draining p)
      drains (Master k q i live hs) e = absurd (cc e)
      drains (Worker k q g j s hs) e = absurd (cc e)
      drains (Foreign k hs) e = absurd (cc e)

      leaves : (gone : ℕ) (lives : ℕ → Bool) (p : Process) → m ≢ gone → IsIt p → FitsIn IsIt (without_exited gone lives p)
      leaves gone lives (Master k q i live hs) ne h = pick (FitsIn IsIt) (k == gone) _ _ (λ e. kept (lives q)) (λ e f. absurd (cc f))
        where
          kept : (b : Bool) → FitsIn IsIt (then_some b (Master k q i false []))
          kept true = λ e. absurd (cc e)
          kept false = tt
      leaves gone lives (Worker k q g j s hs) ne h = pick (FitsIn IsIt) (q == gone) None (Some (Worker k q g j s hs)) (λ e. tt) (λ e. h)
      leaves gone lives (Foreign k hs) ne h = h

      starts : (number c : ℕ) (g : Generation) (x : ℕ) (hs : List Hold) → n < number → IsIt (Worker number c g x Starting hs)
      starts number c g x hs lt e = absurd (let same = eqb-is number n e in omega arith)

  ---- It is there

  abbrev Has : List Process → Type 0
  Has rows = list_any is_it rows ≡ true

  has-changed :
      (test : Process → Bool) (f : Process → Process) →
      ((p : Process) → is_it p ≡ true → is_it (if test p then f p else p) ≡ true) → (rows : List Process) → Has rows →
      Has (filter_map (change test f) rows)
  has-changed test f h [] e = e
  has-changed test f h (p ∷ rows) e = go (is_it p) refl e (has-changed test f h rows)
    where
      go :
          (b : Bool) → is_it p ≡ b → (b || list_any is_it rows) ≡ true →
          (Has rows → Has (filter_map (change test f) rows)) →
          (is_it (if test p then f p else p) || list_any is_it (filter_map (change test f) rows)) ≡ true
      go true is e ih = rw (h p is) refl
      go false is e ih = or-right (is_it (if test p then f p else p)) (list_any is_it (filter_map (change test f) rows)) (ih e)

  has-dropped :
      (test : Process → Bool) → ((p : Process) → is_it p ≡ true → test p ≡ false) → (rows : List Process) → Has rows →
      Has (filter_map (drop_where test) rows)
  has-dropped test h [] e = e
  has-dropped test h (p ∷ rows) e = go (is_it p) refl (test p) refl e (has-dropped test h rows)
    where
      go :
          (b : Bool) → is_it p ≡ b → (c : Bool) → test p ≡ c → (b || list_any is_it rows) ≡ true →
          (Has rows → Has (filter_map (drop_where test) rows)) →
          list_any is_it (cons_option (if c then None else Some p) (filter_map (drop_where test) rows)) ≡ true
      go true is true t e ih = let off = h p is in absurd (cc)
      go true is false t e ih = rw is refl
      go false is true t e ih = ih e
      go false is false t e ih = rw is (ih e)

  has-append : (rows : List Process) (p : Process) → Has rows → Has (rows ++ p ∷ [])
  has-append [] p e = absurd (cc e)
  has-append (x ∷ rows) p e = go (is_it x) e (has-append rows p)
    where
      go : (b : Bool) → (b || list_any is_it rows) ≡ true → (Has rows → Has (rows ++ p ∷ [])) → (b || list_any is_it (rows ++ p ∷ [])) ≡ true
      go true e ih = refl
      go false e ih = ih e

  ---- What each call does to it

  holds-it : (test : Process → Bool) (f : List Hold → List Hold) (p : Process) → is_it p ≡ true → is_it (if test p then with_holds f p else p) ≡ true
  holds-it test f p e = pick (λ p'. is_it p' ≡ true) (test p) (with_holds f p) p (λ t. kept p e) (λ t. e)
    where
      kept : (p : Process) → is_it p ≡ true → is_it (with_holds f p) ≡ true
      kept (Master k q i live hs) e = absurd (cc e)
      kept (Worker k q g j s hs) e = e
      kept (Foreign k hs) e = absurd (cc e)

  ready-it : (test : Process → Bool) (p : Process) → is_it p ≡ true → is_it (if test p then made_ready p else p) ≡ true
  ready-it test p e = pick (λ p'. is_it p' ≡ true) (test p) (made_ready p) p (λ t. kept p e) (λ t. e)
    where
      kept : (p : Process) → is_it p ≡ true → is_it (made_ready p) ≡ true
      kept (Master k q i live hs) e = absurd (cc e)
      kept (Worker k q g j Starting hs) e = absurd (cc e)
      kept (Worker k q g j Ready hs) e = e
      kept (Worker k q g j Draining hs) e = absurd (cc e)
      kept (Worker k q g j Exited hs) e = absurd (cc e)
      kept (Foreign k hs) e = absurd (cc e)

  -- a worker of another name is another
  free-it : (stance : Stance → Bool) (g : Generation) (x : ℕ) → IsFree g x → (p : Process) → is_it p ≡ true → is_worker stance m g x p ≡ false
  free-it stance g x free (Master k q i live hs) e = refl
  free-it stance g x free (Worker k q h j s hs) e =
      let named = bears-is g0 k0 h j (and-right (q == m) _ (and-right (is_ready s) _ (and-left (is_worker is_ready m g0 k0 (Worker k q h j s hs)) _ e))) in
      let off : bears g x h j ≡ false = subst (λ f. bears g x f j ≡ false) (sym named.0) (subst (λ z. bears g x g0 z ≡ false) (sym named.1) free) in
      no-name (stance s) (q == m) (bears g x h j) off
    where
      no-name : (a b c : Bool) → c ≡ false → (a && (b && c)) ≡ false
      no-name true true c e = e
      no-name true false c e = refl
      no-name false b c e = refl
  free-it stance g x free (Foreign k hs) e = refl

  not-exited : (c : ℕ) (g : Generation) (x : ℕ) (p : Process) → is_it p ≡ true → is_worker is_exited c g x p ≡ false
  not-exited c g x (Master k q i live hs) e = refl
  not-exited c g x (Worker k q h j Starting hs) e = refl
  not-exited c g x (Worker k q h j Ready hs) e = refl
  not-exited c g x (Worker k q h j Draining hs) e = refl
  not-exited c g x (Worker k q h j Exited hs) e = absurd (cc e)
  not-exited c g x (Foreign k hs) e = refl

  not-zombie : (c : ℕ) (p : Process) → is_it p ≡ true → is_exited_of c p ≡ false
  not-zombie c (Master k q i live hs) e = refl
  not-zombie c (Worker k q h j Starting hs) e = refl
  not-zombie c (Worker k q h j Ready hs) e = refl
  not-zombie c (Worker k q h j Draining hs) e = refl
  not-zombie c (Worker k q h j Exited hs) e = absurd (cc e)
  not-zombie c (Foreign k hs) e = refl

  abbrev pub Others : Call → Type 0
  Others (Kill g x) = IsFree g x
  Others _ = ⊤

  own-has :
      (handed : Handed) (hs : List Hold) (call : Call) (t : Table) → Lets IsFree call → Others call → Has t.rows →
      Has (own_step handed image (record { number = m; holds = hs }) call t).table.rows
  own-has handed hs (OpenAt a) t lets other has =
      let h : Hold = record { fd = lowest_free hs; socket = t.next_socket; address = a } in
      let done = gives (answer.Opened (lowest_free hs)) (with_new_socket t m h) in
      pick (λ (st : Stepped). Has st.table.rows) (is_held a t.rows) (gives answer.InUse t)
      (if nat_lt (length hs) t.limits.descriptors then done else gives answer.TooMany t) (λ e. has)
      (λ e. pick (λ (st : Stepped). Has st.table.rows) (nat_lt (length hs) t.limits.descriptors) done (gives answer.TooMany t) (λ e. has-changed (is_row m) (with_holds (put_hold h)) (holds-it (is_row m) (put_hold h)) t.rows has) (λ e. has))
  own-has handed hs (CloseAt a) t lets other has = has-changed (is_of m) (with_holds (lacks_address a)) (holds-it (is_of m) (lacks_address a)) t.rows has
  own-has handed hs (Fork g x fds) t lets other has =
      let done = gives answer.Forked (with_new_row t (λ k. Worker k m g x Starting (shared fds hs))) in
      pick (λ (st : Stepped). Has st.table.rows) (list_any (is_worker is_active m g x) t.rows) (gives answer.Again t)
      (if has_process_room t then done else gives answer.Again t) (λ e. has)
      (λ e. pick (λ (st : Stepped). Has st.table.rows) (has_process_room t) done (gives answer.Again t) (λ e. has-append t.rows (Worker t.next_process m g x Starting (shared fds hs)) has) (λ e. has))
  own-has handed hs (AwaitReady g x) t lets other has =
      pick (λ (st : Stepped). Has st.table.rows) (list_any (is_worker is_active m g x) t.rows) _ _
      (λ e. has-changed (is_worker is_starting m g x) made_ready (ready-it (is_worker is_starting m g x)) t.rows has)
      (λ e. has-dropped (is_worker is_exited m g x) (not-exited m g x) t.rows has)
  own-has handed hs (Quit g x) t lets other has =
      has-changed (is_worker is_active m g x) made_draining
      (λ p e. pick (λ p'. is_it p' ≡ true) (is_worker is_active m g x p) (made_draining p) p (λ on. let off = free-it is_active g x lets p e in absurd (cc)) (λ off. e))
      t.rows has
  own-has handed hs (Kill g x) t lets other has = has-dropped (is_worker is_any m g x) (free-it is_any g x other) t.rows has
  own-has handed hs (Census g) t lets other has = has-dropped (is_exited_of m) (not-zombie m) t.rows has
  own-has handed hs (Usr1 g x) t lets other has = has
  own-has handed hs _ t lets other has = absurd lets

  ---- The light fact

  pub record Stands (t : Table) : Type 0 where
    pub fact : Fact m image n IsIt t
    pub has : list_any is_it t.rows ≡ true

  -- who is active and it, is there
  there : (rows : List Process) → AllByRecursion IsIt rows → list_any (is_active_process n) rows ≡ true → Has rows
  there [] all e = e
  there (p ∷ rows) all e = go (is_active_process n p) refl e (there rows all.1)
    where
      go :
          (b : Bool) → is_active_process n p ≡ b → (b || list_any (is_active_process n) rows) ≡ true →
          (list_any (is_active_process n) rows ≡ true → Has rows) → Has (p ∷ rows)
      go true is e ih = rw (all.0 is) refl
      go false is e ih = or-right (is_it p) (list_any is_it rows) (ih e)

  it-active : (p : Process) → is_it p ≡ true → is_active_process n p ≡ true
  it-active (Master k q i live hs) e = absurd (cc e)
  it-active (Worker k q g j Starting hs) e = absurd (cc e)
  it-active (Worker k q g j Ready hs) e = and-right (is_worker is_ready m g0 k0 (Worker k q g j Ready hs)) _ e
  it-active (Worker k q g j Draining hs) e = absurd (cc e)
  it-active (Worker k q g j Exited hs) e = absurd (cc e)
  it-active (Foreign k hs) e = absurd (cc e)

  active : (rows : List Process) → Has rows → list_any (is_active_process n) rows ≡ true
  active [] e = e
  active (p ∷ rows) e = go (is_it p) refl e (active rows)
    where
      go :
          (b : Bool) → is_it p ≡ b → (b || list_any is_it rows) ≡ true →
          (Has rows → list_any (is_active_process n) rows ≡ true) →
          (is_active_process n p || list_any (is_active_process n) rows) ≡ true
      go true is e ih = rw (it-active p is) refl
      go false is e ih = or-right (is_active_process n p) (list_any (is_active_process n) rows) (ih e)

  pub stands-exits : (es : List Name) (t : Table) → Spares image es → Unlost n es t.rows → Stands t → Stands (after_exits es t)
  stands-exits es t sp mild st =
      let fact = fact-exits m image n IsIt IsFree it-lasts es t sp st.fact in
      record { fact = fact; has = there (all_exited es t.rows) fact.all (mild (active t.rows st.has)) }

  has-or :
      (o : Option Answer) (handed : Handed) (hs : List Hold) (call : Call) (t : Table) → Has t.rows →
      Has (own_step handed image (record { number = m; holds = hs }) call t).table.rows →
      Has (fault_or_own o handed image (record { number = m; holds = hs }) call t).table.rows
  has-or (Some a) handed hs call t same own = same
  has-or None handed hs call t same own = own

  pub stands-steps :
      (handed : Handed) (call : Call) (fate : Option Fate) (t : Table) → Lets IsFree call × Others call → Stands t →
      Stands (step_with handed image call fate t).table
  stands-steps handed call fate t gentle st =
      let (hs, found) = one-found m image t.rows st.fact.one.all st.fact.one.some in
      let me : Caller = record { number = m; holds = hs } in
      record {
        fact = fact-steps m image n IsIt IsFree it-lasts handed call fate t gentle.0 st.fact;
        has =
            subst (λ (o : Option Caller). Has (step_by handed image o call fate t).table.rows) (sym found)
            (has-or (fault_at me call fate t) handed hs call t st.has (own-has handed hs call t gentle.0 gentle.1 st.has));
      }

  ---- What any master may do

  -- another image's end leaves it
  not-ended : (i : ℕ) (rows : List Process) → i ≢ image → AllByRecursion (IsOf m image) rows → (p : Process) → is_it p ≡ true → is_of_image i rows p ≡ false
  not-ended i rows ne all (Master k q j live zs) e = absurd (cc e)
  not-ended i rows ne all (Worker k q h j s zs) e =
      subst (λ z. list_any (is_image_row i z) rows ≡ false)
      (sym (eqb-is q m (and-left _ _ (and-right (is_ready s) _ (and-left (is_worker is_ready m g0 k0 (Worker k q h j s zs)) _ e)))))
      (none-here rows all)
    where
      off : (a b : Bool) → (a ≡ true → b ≡ true → ⊥) → (a && b) ≡ false
      off true true no_both = absurd (no_both refl refl)
      off true false no_both = refl
      off false b no_both = refl

      none-here : (rows : List Process) → AllByRecursion (IsOf m image) rows → list_any (is_image_row i m) rows ≡ false
      none-here [] all = refl
      none-here (Master k q j live zs ∷ rows) all =
          let apart : ((j == i) && (k == m)) ≡ false =
          off (j == i) (k == m) (λ a b. ⊎_elim (λ o. ne (sym (eqb-is j i a) ∙ o.1)) (λ o. o.0 (eqb-is k m b)) all.0)
          in
          rw apart (none-here rows all.1)
      none-here (Worker k q h j s zs ∷ rows) all = none-here rows all.1
      none-here (Foreign k zs ∷ rows) all = none-here rows all.1
  not-ended i rows ne all (Foreign k zs) e = refl

  any-has :
      (handed : Handed) (by : ℕ) (c : Caller) (call : Call) (t : Table) → AnyCall image call →
      AllByRecursion (IsOf m image) t.rows → Has t.rows → Has (own_step handed by c call t).table.rows
  any-has handed by c (OpenAt a) t any all has =
      let h : Hold = record { fd = lowest_free c.holds; socket = t.next_socket; address = a } in
      let done = gives (answer.Opened (lowest_free c.holds)) (with_new_socket t c.number h) in
      pick (λ (st : Stepped). Has st.table.rows) (is_held a t.rows) (gives answer.InUse t)
      (if nat_lt (length c.holds) t.limits.descriptors then done else gives answer.TooMany t) (λ e. has)
      (λ e. pick (λ (st : Stepped). Has st.table.rows) (nat_lt (length c.holds) t.limits.descriptors) done (gives answer.TooMany t) (λ e. has-changed (is_row c.number) (with_holds (put_hold h)) (holds-it (is_row c.number) (put_hold h)) t.rows has) (λ e. has))
  any-has handed by c (CloseAt a) t any all has =
      has-changed (is_of c.number) (with_holds (lacks_address a)) (holds-it (is_of c.number) (lacks_address a)) t.rows
      has
  any-has handed by c (Fork g x fds) t any all has =
      let done = gives answer.Forked (with_new_row t (λ k. Worker k c.number g x Starting (shared fds c.holds))) in
      pick (λ (st : Stepped). Has st.table.rows) (list_any (is_worker is_active c.number g x) t.rows)
      (gives answer.Again t) (if has_process_room t then done else gives answer.Again t) (λ e. has)
      (λ e. pick (λ (st : Stepped). Has st.table.rows) (has_process_room t) done (gives answer.Again t) (λ e. has-append t.rows (Worker t.next_process c.number g x Starting (shared fds c.holds)) has) (λ e. has))
  any-has handed by c (AwaitReady g x) t any all has =
      pick (λ (st : Stepped). Has st.table.rows) (list_any (is_worker is_active c.number g x) t.rows) _ _
      (λ e. has-changed (is_worker is_starting c.number g x) made_ready (ready-it (is_worker is_starting c.number g x)) t.rows has)
      (λ e. has-dropped (is_worker is_exited c.number g x) (not-exited c.number g x) t.rows has)
  any-has handed by c (Census g) t any all has = has-dropped (is_exited_of c.number) (not-zombie c.number) t.rows has
  any-has handed by c Adopt t any all has =
      pick (λ (st : Stepped). Has st.table.rows) (suits handed by c.holds) (gives answer.Adopted t)
      (gives answer.Refused t) (λ e. has) (λ e. has)
  any-has handed by c (WritePid path) t any all has = has
  any-has handed by c (MovePid from to) t any all has = go (owner_at from t.files)
    where
      go : (o : Option ℕ) → Has (moved_if o from to t).table.rows
      go None = has
      go (Some owner) = has
  any-has handed by c (SpawnMaster i) t any all has =
      let done = gives answer.Spawned (with_new_row t (λ k. Master k c.number i true c.holds)) in
      pick (λ (st : Stepped). Has st.table.rows) (list_any (is_image i) t.rows) (gives answer.Again t)
      (if has_process_room t then done else gives answer.Again t) (λ e. has)
      (λ e. pick (λ (st : Stepped). Has st.table.rows) (has_process_room t) done (gives answer.Again t) (λ e. has-append t.rows (Master t.next_process c.number i true c.holds) has) (λ e. has))
  any-has handed by c (TermMaster i) t any all has = has-dropped (is_of_image i t.rows) (not-ended i t.rows any all) t.rows has
  any-has handed by c (Ask q) t any all has = has
  any-has handed by c _ t any all has = absurd any

  pub stands-any :
      (handed : Handed) (by : ℕ) (call : Call) (fate : Option Fate) (t : Table) → AnyCall image call → Stands t →
      Stands (step_with handed by call fate t).table
  stands-any handed by call fate t any st = record {
    fact = fact-any m image n IsIt IsFree it-lasts [] handed by call fate t any st.fact;
    has = go (live_master by t.rows);
  }
    where
      or : (o : Option Answer) (c : Caller) → Has (fault_or_own o handed by c call t).table.rows
      or (Some a) c = st.has
      or None c = any-has handed by c call t any st.fact.one.all st.has

      go : (o : Option Caller) → Has (step_by handed by o call fate t).table.rows
      go None = st.has
      go (Some c) = or (fault_at c call fate t) c

  -- it is counted
  it-ready : (rows : List Process) → Has rows → list_any (is_worker is_ready m g0 k0) rows ≡ true
  it-ready [] e = e
  it-ready (p ∷ rows) e = go (is_it p) refl e (it-ready rows)
    where
      go :
          (b : Bool) → is_it p ≡ b → (b || list_any is_it rows) ≡ true →
          (Has rows → list_any (is_worker is_ready m g0 k0) rows ≡ true) →
          (is_worker is_ready m g0 k0 p || list_any (is_worker is_ready m g0 k0) rows) ≡ true
      go true is e ih = rw (and-left (is_worker is_ready m g0 k0 p) _ is) refl
      go false is e ih = or-right (is_worker is_ready m g0 k0 p) (list_any (is_worker is_ready m g0 k0) rows) (ih e)

  pub lacks-other : (g : Generation) (t : Table) (x : ℕ) → Stands t → is_in (census_of m g t.rows) x ≡ false → IsFree g x
  lacks-other g t x st off = go (bears g x g0 k0) refl
    where
      go : (b : Bool) → bears g x g0 k0 ≡ b → b ≡ false
      go false e = refl
      go true e =
          let is = bears-is g x g0 k0 e in
          let on = census-in m g0 t.rows k0 low ∙ it-ready t.rows st.has in
          let none = subst (λ f. is_in (census_of m f t.rows) k0 ≡ false) (sym is.0) (subst (λ z. is_in (census_of m g t.rows) z ≡ false) (sym is.1) off) in
          absurd (cc)

  abbrev pub standing : Light image (Unlost n) Unasked
  standing = record {
    number = m;
    Holds = Stands;
    Gentle = λ call. Lets IsFree call × Others call;
    Fits = λ g S. ⊤;
    May = λ g x t. IsFree g x;
    exits = stands-exits;
    steps = stands-steps;
    idles = λ call t gentle st. tt;
    forks = λ g x fds. (tt, tt);
    waits = λ g x. (tt, tt);
    censuses = λ g. (tt, tt);
    counted = λ handed g fate t st. fact-census m image n IsIt handed g fate t st.fact;
    lacking = λ g S t x fits st on off. lacks-other g t x st off;
    may_exits = λ es t g x sp mild st may. may;
    may_steps = λ handed call fate t g x gentle st may. may;
    kill_due = λ g x t st may. tt;
    kills = λ handed g x fate t st may. stands-steps handed (Kill g x) fate t (tt, may) st;
  }
