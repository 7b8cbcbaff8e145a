-- No kill takes a process that was Ready at first: as long as it is untouched, or when only other names are killed.
use Rattle.table_laws.proofs.Exits.{Spares}
use Rattle.std.proofs.Common.{◌≡◌, ◌≢◌, ℕ, ◌<◌, Bool, true, false, List, [], ◌∷◌, Option, Some, None, refl, sym, ◌∙◌, subst, arith, ◌⊎◌, inl, inr, ⊎_elim}
use Rattle.std.specs.Prelude.{⊤, ◌&&◌, ◌||◌, ◌==◌}
use Rattle.std.specs.List.{AllByRecursion, list_any}
use Rattle.listener_set.specs.Numbers.{is_in}
use Rattle.listener_set.specs.declared.generation.Generation.{Generation}
use Rattle.vocabulary.specs.declared.names.Name.{Name}
use Rattle.vocabulary.specs.declared.calls.Fate.{Fate}
use Rattle.vocabulary.specs.declared.table.Stance.{Stance}
use Rattle.vocabulary.specs.declared.table.Stance.TheVariants.{Starting, Ready, Draining, Exited}
use Rattle.vocabulary.specs.declared.calls.Call.{Call}
use Rattle.vocabulary.specs.declared.calls.Call.TheVariants.{OpenAt, CloseAt, Fork, AwaitReady, Quit, Kill, Census, Usr1}
use Rattle.definitions.specs.Table.{Hold, Process, Master, Worker, Foreign, Table, number_of, bears, is_worker, is_active}
use Rattle.call_laws.specs.Pieces.{is_ready, is_any, made_exited, made_ready, made_draining, is_process_of}
use Rattle.definitions.specs.Calls.{without_exited, after_exits, with_holds, is_exited_of, drop_where, each_row}
use Rattle.definitions.specs.Calls.{census_of, Stepped, step_with, Handed}
use Rattle.std.specs.Bool.{then_some}
use Rattle.table_laws.proofs.Rows.{FitsIn, every-filter_map, every-both, every-more, both-true}
use Rattle.call_laws.proofs.Choices.{pick, and-right}
use Rattle.table_laws.proofs.Views.{eqb-is, eqb-refl, eqb-off}
use Rattle.table_laws.proofs.Effects.{bears-is, bears-refl}
use Rattle.table_laws.proofs.Counts.{census-in}
use Rattle.run_laws.proofs.Logic.{Anyhow}
use Rattle.run_laws.proofs.Processes.{AnyCall, Lasts, Lets, Fact, fact-any, fact-exits, fact-steps, fact-census}
use Rattle.run_laws.proofs.Lights.{Light}

-- a kill that does not take the process
abbrev pub NotTaken : ℕ → Call → Table → Type 0
NotTaken n (Kill g x) t = list_any (is_process_of n g x) t.rows ≡ false
NotTaken n _ t = ⊤

-- the process has left the table
abbrev pub IsOther : ℕ → Process → Type 0
IsOther n p = number_of p ≢ n

pub gone-lasts : (m n : ℕ) → Lasts m n (IsOther n) (λ g x. ⊤)
gone-lasts m n = record {
  ends = gone-exited;
  keeps = gone-holds;
  readies = λ c g x p e h. gone-ready p h;
  drains = λ g x p q e h. gone-draining p h;
  starts = λ k c g x hs lt e. absurd (omega arith);
  spawns = λ k parent i hs lt e. absurd (omega arith);
  leaves = λ gone lives p ne h. gone-left gone lives p h;
}
  where
    gone-left : (gone : ℕ) (lives : ℕ → Bool) (p : Process) → IsOther n p → FitsIn (IsOther n) (without_exited gone lives p)
    gone-left gone lives (Master k q i live hs) h = pick (FitsIn (IsOther n)) (k == gone) _ _ (λ e. kept (lives q)) (λ e. h)
      where
        kept : (b : Bool) → FitsIn (IsOther n) (then_some b (Master k q i false []))
        kept true = h
        kept false = tt
    gone-left gone lives (Worker k q g j s hs) h = pick (FitsIn (IsOther n)) (q == gone) None (Some (Worker k q g j s hs)) (λ e. tt) (λ e. h)
    gone-left gone lives (Foreign k hs) h = h

    gone-exited : (p : Process) → IsOther n p → IsOther n (made_exited p)
    gone-exited (Master k q i live hs) h = h
    gone-exited (Worker k q g j s hs) h = h
    gone-exited (Foreign k hs) h = h

    gone-holds : (f : List Hold → List Hold) (p : Process) → IsOther n p → IsOther n (with_holds f p)
    gone-holds f (Master k q i live hs) h = h
    gone-holds f (Worker k q g j s hs) h = h
    gone-holds f (Foreign k hs) h = h

    gone-ready : (p : Process) → IsOther n p → IsOther n (made_ready p)
    gone-ready (Master k q i live hs) h = h
    gone-ready (Worker k q g j s hs) h = h
    gone-ready (Foreign k hs) h = h

    gone-draining : (p : Process) → IsOther n p → IsOther n (made_draining p)
    gone-draining (Master k q i live hs) h = h
    gone-draining (Worker k q g j s hs) h = h
    gone-draining (Foreign k hs) h = h

pub not-gone-taken : (n : ℕ) (g : Generation) (x : ℕ) (rows : List Process) → AllByRecursion (IsOther n) rows → list_any (is_process_of n g x) rows ≡ false
not-gone-taken n g x [] all = refl
not-gone-taken n g x (Master k q i live hs ∷ rows) all = not-gone-taken n g x rows all.1
not-gone-taken n g x (Worker k q h j s hs ∷ rows) all = rw (eqb-off k n all.0) (not-gone-taken n g x rows all.1)
not-gone-taken n g x (Foreign k hs ∷ rows) all = not-gone-taken n g x rows all.1

-- Where no row passes a test, each fails it.
all-fail : (test : Process → Bool) (rows : List Process) → list_any test rows ≡ false → AllByRecursion (λ p. test p ≡ false) rows
all-fail test [] e = tt
all-fail test (p ∷ rows) e = go (test p) refl e (all-fail test rows)
  where
    go :
        (b : Bool) → test p ≡ b → (b || list_any test rows) ≡ false →
        (list_any test rows ≡ false → AllByRecursion (λ p. test p ≡ false) rows) →
        (test p ≡ false) × AllByRecursion (λ p. test p ≡ false) rows
    go true is e rest = absurd (cc)
    go false is e rest = (is, rest e)

module _ (m image n : ℕ) (g0 : Generation) (k0 : ℕ) (low : k0 < 1024) where
  -- a name that the process does not bear
  abbrev pub IsFree : Generation → ℕ → Type 0
  IsFree g x = bears g x g0 k0 ≡ false

  -- whoever has the process number is a worker of the name, in such a stance
  abbrev pub OnlyOurs : (Stance → Type 0) → Process → Type 0
  OnlyOurs S (Master k q i live hs) = k ≡ n → ⊥
  OnlyOurs S (Worker k q g j s hs) = k ≡ n → (q ≡ m) × (g ≡ g0) × (j ≡ k0) × S s
  OnlyOurs S (Foreign k hs) = k ≡ n → ⊥

  -- neither told to quit nor new
  abbrev pub IsUntouched : Stance → Type 0
  IsUntouched Starting = ⊥
  IsUntouched Ready = ⊤
  IsUntouched Draining = ⊥
  IsUntouched Exited = ⊤

  abbrev pub InAny : Stance → Type 0
  InAny s = ⊤

  ours-lasts :
      (S : Stance → Type 0) (Quits : Generation → ℕ → Type 0) → S Ready → S Exited →
      ((g : Generation) (x : ℕ) → Quits g x → IsFree g x ⊎ S Draining) → Lasts m n (OnlyOurs S) Quits
  ours-lasts S Quits at_ready at_exited quits = record {
    ends = ends;
    keeps = keeps;
    readies = λ c g x p e h. readies p h;
    drains = drains;
    starts = λ k c g x hs lt e. absurd (omega arith);
    spawns = λ k parent i hs lt e. absurd (omega arith);
    leaves = λ gone lives p ne h. leaves gone lives p h;
  }
    where
      leaves : (gone : ℕ) (lives : ℕ → Bool) (p : Process) → OnlyOurs S p → FitsIn (OnlyOurs S) (without_exited gone lives p)
      leaves gone lives (Master k q i live hs) h = pick (FitsIn (OnlyOurs S)) (k == gone) _ _ (λ e. kept (lives q)) (λ e. h)
        where
          kept : (b : Bool) → FitsIn (OnlyOurs S) (then_some b (Master k q i false []))
          kept true = h
          kept false = tt
      leaves gone lives (Worker k q g j s hs) h = pick (FitsIn (OnlyOurs S)) (q == gone) None (Some (Worker k q g j s hs)) (λ e. tt) (λ e. h)
      leaves gone lives (Foreign k hs) h = h

      ends : (p : Process) → OnlyOurs S p → OnlyOurs S (made_exited p)
      ends (Master k q i live hs) h = h
      ends (Worker k q g j s hs) h = λ e. let o = h e in (o.0, o.1, o.2, at_exited)
      ends (Foreign k hs) h = h

      keeps : (f : List Hold → List Hold) (p : Process) → OnlyOurs S p → OnlyOurs S (with_holds f p)
      keeps f (Master k q i live hs) h = h
      keeps f (Worker k q g j s hs) h = h
      keeps f (Foreign k hs) h = h

      readies : (p : Process) → OnlyOurs S p → OnlyOurs S (made_ready p)
      readies (Master k q i live hs) h = h
      readies (Worker k q g j s hs) h = λ e. let o = h e in (o.0, o.1, o.2, at_ready)
      readies (Foreign k hs) h = h

      drains : (g : Generation) (x : ℕ) (p : Process) → Quits g x → is_worker is_active m g x p ≡ true → OnlyOurs S p → OnlyOurs S (made_draining p)
      drains g x (Master k q i live hs) ok e h = h
      drains g x (Worker k q h' j s hs) ok e h = λ is.
          let o = h is in
          let named : bears g x g0 k0 ≡ true =
          subst (λ z. bears g x g0 z ≡ true) o.2
          (subst (λ f. bears g x f j ≡ true) o.1 (and-right (q == m) _ (and-right (is_active s) _ e))) in
          ⊎_elim (λ free. absurd (cc)) (λ at. (o.0, o.1, o.2, at)) (quits g x ok)
      drains g x (Foreign k hs) ok e h = h

  pub free-taken :
      (S : Stance → Type 0) (g : Generation) (x : ℕ) (rows : List Process) → IsFree g x →
      AllByRecursion (OnlyOurs S) rows → list_any (is_process_of n g x) rows ≡ false
  free-taken S g x [] free all = refl
  free-taken S g x (Master k q i live hs ∷ rows) free all = free-taken S g x rows free all.1
  free-taken S g x (Worker k q h j s hs ∷ rows) free all = go (k == n) refl (free-taken S g x rows free all.1)
    where
      go : (b : Bool) → (k == n) ≡ b → list_any (is_process_of n g x) rows ≡ false → ((b && bears g x h j) || list_any (is_process_of n g x) rows) ≡ false
      go true e ih =
          let o = all.0 (eqb-is k n e) in
          let off : bears g x h j ≡ false = subst (λ f. bears g x f j ≡ false) (sym o.1) (subst (λ z. bears g x g0 z ≡ false) (sym o.2) free) in
          rw off ih
      go false e ih = ih
  free-taken S g x (Foreign k hs ∷ rows) free all = free-taken S g x rows free all.1

  ---- As long as it is untouched

  abbrev pub Kills : Call → Type 0
  Kills (Kill g x) = IsFree g x
  Kills _ = ⊤

  abbrev pub Gentle : Call → Type 0
  Gentle call = Lets IsFree call × Kills call

  pub close-lasts : Lasts m n (OnlyOurs IsUntouched) IsFree
  close-lasts = ours-lasts IsUntouched IsFree tt tt (λ g x free. inl free)

  abbrev Close : Table → Type 0
  Close t = Fact m image n (OnlyOurs IsUntouched) t

  abbrev IsGone : Table → Type 0
  IsGone t = Fact m image n (IsOther n) t

  abbrev May : Generation → ℕ → Table → Type 0
  May g x t = IsFree g x ⊎ IsGone t

  pub idle : (S : Stance → Type 0) (call : Call) (t : Table) → Kills call → Fact m image n (OnlyOurs S) t → NotTaken n call t
  idle S (Kill g x) t kills fact = free-taken S g x t.rows kills fact.all
  idle S _ t kills fact = tt

  -- who lacks at a census is gone
  left-out : (p : Process) → OnlyOurs IsUntouched p × (is_worker is_ready m g0 k0 p ≡ false) → is_exited_of m p ≡ false → IsOther n p
  left-out (Master k q i live hs) h e = h.0
  left-out (Worker k q g j Starting hs) h e = λ is. (h.0 is).3
  left-out (Worker k q g j Ready hs) h e = λ is.
      let o = h.0 is in
      let name : bears g0 k0 g j ≡ true = subst (λ f. bears g0 k0 f j ≡ true) (sym o.1) (subst (λ z. bears g0 k0 g0 z ≡ true) (sym o.2) (bears-refl g0 k0)) in
      let on = both-true (q == m) (bears g0 k0 g j) (eqb-refl q m o.0) name in
      let off = h.1 in
      absurd (cc)
  left-out (Worker k q g j Draining hs) h e = λ is. (h.0 is).3
  left-out (Worker k q g j Exited hs) h e = λ is.
      let o = h.0 is in
      let on : (q == m) ≡ true = eqb-refl q m o.0 in
      absurd (cc)
  left-out (Foreign k hs) h e = h.0

  pub lacks-ours : (g : Generation) (t : Table) (x : ℕ) → Close t → is_in (census_of m g t.rows) x ≡ false → May g x (each_row (drop_where (is_exited_of m)) t)
  lacks-ours g t x close off = go (bears g x g0 k0) refl
    where
      go : (b : Bool) → bears g x g0 k0 ≡ b → May g x (each_row (drop_where (is_exited_of m)) t)
      go false e = inl e
      go true e =
          let is = bears-is g x g0 k0 e in
          let none : list_any (is_worker is_ready m g0 k0) t.rows ≡ false =
          sym (census-in m g0 t.rows k0 low) ∙ subst (λ f. is_in (census_of m f t.rows) k0 ≡ false) (sym is.0)
          (subst (λ z. is_in (census_of m g t.rows) z ≡ false) (sym is.1) off) in
          let both =
          every-both (OnlyOurs IsUntouched) (λ p. is_worker is_ready m g0 k0 p ≡ false) t.rows close.all
          (all-fail (is_worker is_ready m g0 k0) t.rows none) in
          let kept = fact-steps m image n (OnlyOurs IsUntouched) IsFree close-lasts None (Census g) None t tt close in
          let dropped_now = subst (λ (st : Stepped). Close st.table) (fact-census m image n (OnlyOurs IsUntouched) None g None t close) kept in
          inr (record {
            one = dropped_now.one;
            all =
                every-filter_map (λ p. OnlyOurs IsUntouched p × (is_worker is_ready m g0 k0 p ≡ false)) (IsOther n)
                (drop_where (is_exited_of m))
                (λ p h. pick (FitsIn (IsOther n)) (is_exited_of m p) None (Some p) (λ e. tt) (λ e. left-out p h e))
                t.rows both;
            below = dropped_now.below;
            above = dropped_now.above;
          })

  lets-any : (call : Call) → Lets IsFree call → Lets (λ g x. ⊤) call
  lets-any (OpenAt a) lets = tt
  lets-any (CloseAt a) lets = tt
  lets-any (Fork g x fds) lets = tt
  lets-any (AwaitReady g x) lets = tt
  lets-any (Quit g x) lets = tt
  lets-any (Kill g x) lets = tt
  lets-any (Census g) lets = tt
  lets-any (Usr1 g x) lets = tt
  lets-any _ lets = absurd lets

  pub may-exits : (es : List Name) (t : Table) (g : Generation) (x : ℕ) → Spares image es → May g x t → May g x (after_exits es t)
  may-exits es t g x sp may = ⊎_elim (λ free. inl free) (λ gone. inr (fact-exits m image n (IsOther n) (λ g x. ⊤) (gone-lasts m n) es t sp gone)) may

  pub may-steps :
      (handed : Handed) (call : Call) (fate : Option Fate) (t : Table) (g : Generation) (x : ℕ) → Lets IsFree call →
      May g x t → May g x (step_with handed image call fate t).table
  may-steps handed call fate t g x lets may =
      ⊎_elim (λ free. inl free)
      (λ gone. inr (fact-steps m image n (IsOther n) (λ g x. ⊤) (gone-lasts m n) handed call fate t (lets-any call lets) gone))
      may

  pub may-any :
      (handed : Handed) (by : ℕ) (call : Call) (fate : Option Fate) (t : Table) (g : Generation) (x : ℕ) →
      AnyCall image call → May g x t → May g x (step_with handed by call fate t).table
  may-any handed by call fate t g x is may =
      ⊎_elim (λ free. inl free)
      (λ gone. inr (fact-any m image n (IsOther n) (λ g x. ⊤) (gone-lasts m n) [] handed by call fate t is gone)) may

  abbrev pub untouched : Light image Anyhow (NotTaken n)
  untouched = record {
    number = m;
    Holds = Close;
    Gentle = Gentle;
    Fits = λ g S. ⊤;
    May = May;
    exits = λ es t sp mild h. fact-exits m image n (OnlyOurs IsUntouched) IsFree close-lasts es t sp h;
    steps = λ handed call fate t gentle h. fact-steps m image n (OnlyOurs IsUntouched) IsFree close-lasts handed call fate t gentle.0 h;
    idles = λ call t gentle h. idle IsUntouched call t gentle.1 h;
    forks = λ g x fds. (tt, tt);
    waits = λ g x. (tt, tt);
    censuses = λ g. (tt, tt);
    counted = λ handed g fate t h. fact-census m image n (OnlyOurs IsUntouched) handed g fate t h;
    lacking = λ g S t x fits h on off. lacks-ours g t x h off;
    may_exits = λ es t g x sp mild h may. may-exits es t g x sp may;
    may_steps = λ handed call fate t g x gentle h may. may-steps handed call fate t g x gentle.0 may;
    kill_due = λ g x t h may. ⊎_elim (λ free. free-taken IsUntouched g x t.rows free h.all) (λ gone. not-gone-taken n g x t.rows gone.all) may;
    kills = λ handed g x fate t h may. fact-steps m image n (OnlyOurs IsUntouched) IsFree close-lasts handed (Kill g x) fate t tt h;
  }

  ---- When it may have been told to quit

  abbrev Loose : Table → Type 0
  Loose t = Fact m image n (OnlyOurs InAny) t

  pub loose-lasts : Lasts m n (OnlyOurs InAny) (λ g x. ⊤)
  loose-lasts = ours-lasts InAny (λ g x. ⊤) tt tt (λ g x ok. inr tt)

  pub loosens : (t : Table) → Close t → Loose t
  loosens t close = record {
    one = close.one;
    all = every-more (OnlyOurs IsUntouched) (OnlyOurs InAny) loosen t.rows close.all;
    below = close.below;
    above = close.above;
  }
    where
      loosen : (p : Process) → OnlyOurs IsUntouched p → OnlyOurs InAny p
      loosen (Master k q i live hs) h = h
      loosen (Worker k q g j s hs) h = λ e. let o = h e in (o.0, o.1, o.2, tt)
      loosen (Foreign k hs) h = h

  -- who is killed is gone
  pub not-killed : (row : Process) → OnlyOurs InAny row → is_worker is_any m g0 k0 row ≡ false → IsOther n row
  not-killed (Master j q i live hs) h e = h
  not-killed (Worker j q f x st hs) h e = λ is.
      let o = h is in
      let name : bears g0 k0 f x ≡ true = subst (λ z. bears g0 k0 z x ≡ true) (sym o.1) (subst (λ z. bears g0 k0 g0 z ≡ true) (sym o.2) (bears-refl g0 k0)) in
      let all = both-true (q == m) (bears g0 k0 f x) (eqb-refl q m o.0) name in
      absurd (cc)
  not-killed (Foreign j hs) h e = h

  -- Other names alone are killed.
  abbrev pub loose : Light image Anyhow (NotTaken n)
  loose = record {
    number = m;
    Holds = Loose;
    Gentle = λ call. Lets (λ g x. ⊤) call × Kills call;
    Fits = λ g S. (x : ℕ) → is_in S x ≡ true → IsFree g x;
    May = λ g x t. IsFree g x;
    exits = λ es t sp mild h. fact-exits m image n (OnlyOurs InAny) (λ g x. ⊤) loose-lasts es t sp h;
    steps = λ handed call fate t gentle h. fact-steps m image n (OnlyOurs InAny) (λ g x. ⊤) loose-lasts handed call fate t gentle.0 h;
    idles = λ call t gentle h. idle InAny call t gentle.1 h;
    forks = λ g x fds. (tt, tt);
    waits = λ g x. (tt, tt);
    censuses = λ g. (tt, tt);
    counted = λ handed g fate t h. fact-census m image n (OnlyOurs InAny) handed g fate t h;
    lacking = λ g S t x fits h on off. fits x on;
    may_exits = λ es t g x sp mild h may. may;
    may_steps = λ handed call fate t g x gentle h may. may;
    kill_due = λ g x t h may. free-taken InAny g x t.rows may h.all;
    kills = λ handed g x fate t h may. fact-steps m image n (OnlyOurs InAny) (λ g x. ⊤) loose-lasts handed (Kill g x) fate t tt h;
  }
