-- Names of which each is alive once at most, and which of them drain: what exits and calls do to that.
use Rattle.std.proofs.Common.{◌≡◌, ℕ, ◌+◌, ◌≤◌, Bool, true, false, not, List, [], ◌∷◌, length, Option, Some, None, refl, sym, ap, subst, arith, ◌⊎◌, inl, inr, ⊎_elim}
use Rattle.std.specs.Prelude.{⊤, ◌&&◌, ◌||◌, ◌==◌}
use Rattle.std.specs.List.{list_any}
use Rattle.listener_set.specs.Numbers.{is_in}
use Rattle.listener_set.specs.declared.generation.Generation.{Generation}
use Rattle.vocabulary.specs.declared.names.Name.{Name}
use Rattle.vocabulary.specs.declared.table.Stance.{Stance}
use Rattle.vocabulary.specs.declared.table.Stance.TheVariants.{Starting, Ready, Draining, Exited}
use Rattle.vocabulary.specs.declared.calls.Call.{Call}
use Rattle.vocabulary.specs.declared.calls.Call.TheVariants.{OpenAt, CloseAt, Fork, AwaitReady, Quit, Kill, Census, AwaitGone, Ask}
use Rattle.vocabulary.specs.declared.calls.Fate.{Fate}
use Rattle.definitions.specs.Table.{Hold, Process, Master, Worker, Foreign, Table, Caller, is_worker, is_active, same_generation, bears}
use Rattle.definitions.specs.Calls.{after_exits, without_exited, Stepped, step_by, step_with, with_new_row, shared, Handed}
use Rattle.call_laws.specs.Pieces.{is_draining}
use Rattle.call_laws.proofs.Cases.{fork-cases}
use Rattle.call_laws.proofs.Choices.{and-left, and-right}
use Rattle.table_laws.proofs.Rows.{one, one-le, weigh, weigh-append, weigh-add, weigh-le-all, any-none, both-true, FitsIn}
use Rattle.table_laws.proofs.Views.{Names, named, live_named, eqb-refl}
use Rattle.table_laws.proofs.Effects.{bears-is}
use Rattle.table_laws.proofs.Exits.{Spares}
use Rattle.table_laws.proofs.Sets.{in-cases}
use Rattle.table_laws.proofs.Small.{or-elim}
use Rattle.run_laws.proofs.Processes.{Fact, Lasts, one-found, fact-exits, fact-steps, fact-any}
use Rattle.run_laws.proofs.Rules.{minus}
use Rattle.stepped_reloads.specs.Steps.{is_living}
use Rattle.theorems.proofs.Late.{Cut, kill-is, wait-keeps}
use Rattle.stepped_reloads.proofs.Living.{lives, is_left, lives-sub, lives-exits, lives-steps, Lowers, lives-cut}

-- Nothing is known of a row.
abbrev pub Any : Process → Type 0
Any p = ⊤

any-lasts : (m n : ℕ) → Lasts m n Any (λ g x. ⊤)
any-lasts m n = record {
  ends = λ p h. tt;
  keeps = λ f p h. tt;
  readies = λ c g x p e h. tt;
  drains = λ g x p ok e h. tt;
  starts = λ number c g x hs lt. tt;
  spawns = λ number parent i hs lt. tt;
  leaves = λ gone alive p ne h. fits gone alive p;
}
  where
    fits : (gone : ℕ) (alive : ℕ → Bool) (p : Process) → FitsIn Any (without_exited gone alive p)
    fits gone alive p = go (without_exited gone alive p)
      where
        go : (o : Option Process) → FitsIn Any o
        go None = tt
        go (Some q) = tt

-- Each living worker has one of these names, each name is alive once at most, and of those that drain the names are these.
pub record Alive (m image : ℕ) (dr : ℕ → Bool) (s d : Names) (t : Table) : Type 0 where
  pub fact : Fact m image m Any t
  pub once : (h : Generation) (k : ℕ) → weigh (lives is_left m dr (bears h k)) t.rows ≤ 1
  pub within : weigh (lives is_left m dr (λ h k. not (s h k))) t.rows ≤ 0
  pub calm : weigh (lives is_draining m dr (λ h k. not (d h k))) t.rows ≤ 0

-- these numbers of one generation, and those of another
abbrev pub both_in : Generation → Generation → List ℕ → List ℕ → Names
both_in g h X Y j k = named g (is_in X) j k || named h (is_in Y) j k

not-more : (s s' : Names) → ((h : Generation) (k : ℕ) → s h k ≡ true → s' h k ≡ true) → (h : Generation) (k : ℕ) → not (s' h k) ≡ true → not (s h k) ≡ true
not-more s s' sub h k e = go (s h k) (s' h k) (sub h k) e
  where
    go : (a b : Bool) → (a ≡ true → b ≡ true) → not b ≡ true → not a ≡ true
    go true true h e = e
    go true false h e = absurd (cc (h refl))
    go false b h e = refl

module _ (m image : ℕ) (dr : ℕ → Bool) where
  abbrev L : Names → List Process → ℕ
  L s rows = weigh (lives is_left m dr s) rows

  abbrev D : Names → List Process → ℕ
  D d rows = weigh (lives is_draining m dr d) rows

  abbrev A : Names → Names → Table → Type 0
  A s d t = Alive m image dr s d t

  pub more : (s s' d d' : Names) → ((h : Generation) (k : ℕ) → s h k ≡ true → s' h k ≡ true) → ((h : Generation) (k : ℕ) → d h k ≡ true → d' h k ≡ true) → (t : Table) → A s d t → A s' d' t
  more s s' d d' sub sub_d t a = record {
    fact = a.fact;
    once = a.once;
    within = omega (arith, a.within, lives-sub is_left refl refl m dr (λ h k. not (s' h k)) (λ h k. not (s h k)) (not-more s s' sub) t.rows);
    calm = omega (arith, a.calm, lives-sub is_draining refl refl m dr (λ h k. not (d' h k)) (λ h k. not (d h k)) (not-more d d' sub_d) t.rows);
  }

  pub exits-alive : (s d : Names) (es : List Name) (t : Table) → Spares image es → A s d t → A s d (after_exits es t)
  exits-alive s d es t sp a = record {
    fact = fact-exits m image m Any (λ g x. ⊤) (any-lasts m m) es t sp a.fact;
    once = λ h k. omega (arith, a.once h k, lives-exits is_left refl refl m dr (bears h k) es t.rows);
    within = omega (arith, a.within, lives-exits is_left refl refl m dr (λ h k. not (s h k)) es t.rows);
    calm = omega (arith, a.calm, lives-exits is_draining refl refl m dr (λ h k. not (d h k)) es t.rows);
  }

  -- Whom a call may start, and tell to quit.
  abbrev pub Ok : Names → Names → Call → Type 0
  Ok s d (OpenAt a) = ⊤
  Ok s d (CloseAt a) = ⊤
  Ok s d (Fork g x fds) = (s g x ≡ true) × (d g x ≡ false)
  Ok s d (AwaitReady g x) = ⊤
  Ok s d (Quit g x) = d g x ≡ true
  Ok s d (Kill g x) = ⊤
  Ok s d (Census g) = ⊤
  Ok s d (AwaitGone g x) = ⊤
  Ok s d (Ask q) = ⊤
  Ok s d _ = ⊥

  -- A call that starts nobody.
  plain :
      (s d : Names) (handed : Handed) (call : Call) (fate : Option Fate) (t : Table) →
      ((test : Names) → Lowers is_left refl refl m dr test call) →
      Lowers is_draining refl refl m dr (λ h k. not (d h k)) call → Fact m image m Any (step_with handed image call fate t).table →
      A s d t → A s d (step_with handed image call fate t).table
  plain s d handed call fate t ok ok_d fact a =
      let (hs, found) = one-found m image t.rows a.fact.one.all a.fact.one.some in
      let at : (st : Stance → Bool) → Names → Option Caller → ℕ = λ st test o. weigh (lives st m dr test) (step_by handed image o call fate t).table.rows in
      let low = λ (test : Names). subst (λ (o : Option Caller). at is_left test o ≤ L test t.rows) (sym found) (lives-steps is_left refl refl m dr test handed image hs call fate t (ok test)) in
      record {
        fact = fact;
        once = λ h k. omega (arith, a.once h k, low (bears h k));
        within = omega (arith, a.within, low (λ h k. not (s h k)));
        calm =
            omega (
              arith,
              a.calm,
              subst (λ (o : Option Caller). at is_draining (λ h k. not (d h k)) o ≤ D (λ h k. not (d h k)) t.rows) (sym found)
                  (lives-steps is_draining refl refl m dr (λ h k. not (d h k)) handed image hs call fate t ok_d),
            );
      }

  -- A living worker of a name is active, or drains.
  either-row : (g : Generation) (x : ℕ) (p : Process) → lives is_left m dr (bears g x) p ≤ live_named m g x p + lives is_draining m dr (bears g x) p
  either-row g x (Worker n q h k Starting hs) = drop (q == m) (not (dr n)) (bears g x h k)
    where
      drop : (a b c : Bool) → one (a && (b && c)) ≤ one (a && c) + 0
      drop true true c = omega arith
      drop true false c = omega arith
      drop false b c = omega arith
  either-row g x (Worker n q h k Ready hs) = drop (q == m) (not (dr n)) (bears g x h k)
    where
      drop : (a b c : Bool) → one (a && (b && c)) ≤ one (a && c) + 0
      drop true true c = omega arith
      drop true false c = omega arith
      drop false b c = omega arith
  either-row g x (Worker n q h k Draining hs) = omega arith
  either-row g x (Worker n q h k Exited hs) = omega arith
  either-row g x (Master n q i live hs) = omega arith
  either-row g x (Foreign n hs) = omega arith

  alone : (s d : Names) (g : Generation) (x : ℕ) (t : Table) → d g x ≡ false → A s d t → list_any (is_worker is_active m g x) t.rows ≡ false → L (bears g x) t.rows ≤ 0
  alone s d g x t off a idle =
      omega
      (arith, weigh-le-all (lives is_left m dr (bears g x)) (λ p. live_named m g x p + lives is_draining m dr (bears g x) p) (either-row g x) t.rows, weigh-add (live_named m g x) (lives is_draining m dr (bears g x)) t.rows, any-none (is_worker is_active m g x) t.rows idle, lives-sub is_draining refl refl m dr (bears g x) (λ h k. not (d h k)) (λ h k e. let is = bears-is g x h k e in ap not (subst (λ f. d f k ≡ false) (sym is.0) (subst (λ y. d g y ≡ false) (sym is.1) off))) t.rows, a.calm)

  new-row : (test : Names) (st : Stance → Bool) (n : ℕ) (g : Generation) (x : ℕ) (hs : List Hold) → lives st m dr test (Worker n m g x Starting hs) ≤ one (test g x)
  new-row test st n g x hs = go (st Starting) (m == m) (not (dr n)) (test g x)
    where
      go : (a b c d : Bool) → one (a && (b && (c && d))) ≤ one d
      go true true true d = omega arith
      go true true false d = omega arith
      go true false c d = omega arith
      go false b c d = omega arith

  started :
      (s d : Names) (g : Generation) (x : ℕ) (hs : List Hold) (t : Table) → s g x ≡ true → d g x ≡ false → A s d t →
      list_any (is_worker is_active m g x) t.rows ≡ false →
      Fact m image m Any (with_new_row t (λ n. Worker n m g x Starting hs)) → A s d (with_new_row t (λ n. Worker n m g x Starting hs))
  started s d g x hs t on off a idle fact =
      let new = Worker t.next_process m g x Starting hs in
      let zero_at = alone s d g x t off a idle in
      record {
        fact = fact;
        once = λ h k. omega (arith, weigh-append (lives is_left m dr (bears h k)) t.rows (new ∷ []), new-row (bears h k) is_left t.next_process g x hs, one-more h k (bears h k g x) refl zero_at);
        within = omega (arith, weigh-append (lives is_left m dr (λ h k. not (s h k))) t.rows (new ∷ []), new-row (λ h k. not (s h k)) is_left t.next_process g x hs, ap (λ z. one (not z)) on, a.within);
        calm = omega (arith, weigh-append (lives is_draining m dr (λ h k. not (d h k))) t.rows (new ∷ []), a.calm);
      }
    where
      one-more : (h : Generation) (k : ℕ) (b : Bool) → bears h k g x ≡ b → L (bears g x) t.rows ≤ 0 → L (bears h k) t.rows + one (bears h k g x) ≤ 1
      one-more h k true e z =
          let is = bears-is h k g x e in
          let same : L (bears h k) t.rows ≤ 0 = subst (λ f. L (bears f k) t.rows ≤ 0) is.0 (subst (λ y. L (bears g y) t.rows ≤ 0) is.1 z) in
          omega (arith, same, one-le (bears h k g x))
      one-more h k false e z = omega (arith, a.once h k, ap one e)

  forked :
      (s d : Names) (handed : Handed) (g : Generation) (x : ℕ) (fds : Option (List ℕ)) (fate : Option Fate) (t : Table) →
      s g x ≡ true → d g x ≡ false → A s d t → A s d (step_with handed image (Fork g x fds) fate t).table
  forked s d handed g x fds fate t on off a =
      let (hs, found) = one-found m image t.rows a.fact.one.all a.fact.one.some in
      let fact = fact-steps m image m Any (λ g x. ⊤) (any-lasts m m) in
      subst (λ (o : Option Caller). A s d (step_by handed image o (Fork g x fds) fate t).table) (sym found)
      (fork-cases handed image (record { number = m; holds = hs }) g x fds fate t (λ st. Fact m image m Any st.table → A s d st.table)
      (λ f. a) (λ f. a) (λ idle f. started s d g x (shared fds hs) t on off a idle f)
      (subst (λ (o : Option Caller). Fact m image m Any (step_by handed image o (Fork g x fds) fate t).table) found (fact handed (Fork g x fds) fate t tt a.fact)))

  pub steps-alive : (s d : Names) (handed : Handed) (call : Call) (fate : Option Fate) (t : Table) → Ok s d call → A s d t → A s d (step_with handed image call fate t).table
  steps-alive s d handed (OpenAt a) fate t ok h = plain s d handed (OpenAt a) fate t (λ test. tt) tt (fact-steps m image m Any (λ g x. ⊤) (any-lasts m m) handed (OpenAt a) fate t tt h.fact) h
  steps-alive s d handed (CloseAt a) fate t ok h = plain s d handed (CloseAt a) fate t (λ test. tt) tt (fact-steps m image m Any (λ g x. ⊤) (any-lasts m m) handed (CloseAt a) fate t tt h.fact) h
  steps-alive s d handed (Fork g x fds) fate t ok h = forked s d handed g x fds fate t ok.0 ok.1 h
  steps-alive s d handed (AwaitReady g x) fate t ok h = plain s d handed (AwaitReady g x) fate t (λ test. tt) tt (fact-steps m image m Any (λ g x. ⊤) (any-lasts m m) handed (AwaitReady g x) fate t tt h.fact) h
  steps-alive s d handed (Quit g x) fate t ok h = plain s d handed (Quit g x) fate t (λ test. inl refl) (inr (ap not ok)) (fact-steps m image m Any (λ g x. ⊤) (any-lasts m m) handed (Quit g x) fate t tt h.fact) h
  steps-alive s d handed (Kill g x) fate t ok h = plain s d handed (Kill g x) fate t (λ test. tt) tt (fact-steps m image m Any (λ g x. ⊤) (any-lasts m m) handed (Kill g x) fate t tt h.fact) h
  steps-alive s d handed (Census g) fate t ok h = plain s d handed (Census g) fate t (λ test. tt) tt (fact-steps m image m Any (λ g x. ⊤) (any-lasts m m) handed (Census g) fate t tt h.fact) h
  steps-alive s d handed (AwaitGone g x) fate t ok h =
      plain s d handed (AwaitGone g x) fate t (λ test. tt) tt
      (wait-keeps m image m Any (Fact m image m Any) handed g x fate t h.fact h.fact (fact-steps m image m Any (λ g x. ⊤) (any-lasts m m) None (Kill g x) None t tt h.fact)) h
  steps-alive s d handed (Ask q) fate t ok h = plain s d handed (Ask q) fate t (λ test. tt) tt (fact-any m image m Any (λ g x. ⊤) (any-lasts m m) [] handed image (Ask q) fate t tt h.fact) h
  steps-alive s d handed _ fate t ok h = absurd ok

  -- When a name has left it is free.
  pub cut-alive : (s d : Names) (g : Generation) (x : ℕ) (t : Table) → A s d t → A (minus s g x) (minus d g x) (Cut m g x t)
  cut-alive s d g x t a =
      let killed = subst (λ (st : Stepped). A s d st.table) (kill-is m image m Any None g x None t a.fact) (steps-alive s d None (Kill g x) None t tt a) in
      record {
        fact = killed.fact;
        once = killed.once;
        within = omega (arith, killed.within, split is_left s (Cut m g x t).rows, lives-cut is_left refl refl m dr g x t.rows);
        calm = omega (arith, killed.calm, split is_draining d (Cut m g x t).rows, lives-cut is_draining refl refl m dr g x t.rows);
      }
    where
      row : (st : Stance → Bool) (s : Names) (p : Process) → lives st m dr (λ h k. not (minus s g x h k)) p ≤ lives st m dr (λ h k. not (s h k)) p + lives st m dr (bears g x) p
      row st s (Worker n q h k y hs) = go (st y) (q == m) (not (dr n)) (s h k) (bears g x h k)
        where
          go : (a b c d e : Bool) → one (a && (b && (c && not (d && not e)))) ≤ one (a && (b && (c && not d))) + one (a && (b && (c && e)))
          go true true true true true = omega arith
          go true true true true false = omega arith
          go true true true false e = omega arith
          go true true false d e = omega arith
          go true false c d e = omega arith
          go false b c d e = omega arith
      row st s (Master n q i live hs) = omega arith
      row st s (Foreign n hs) = omega arith

      split : (st : Stance → Bool) (s : Names) (rows : List Process) → weigh (lives st m dr (λ h k. not (minus s g x h k))) rows ≤ weigh (lives st m dr (λ h k. not (s h k))) rows + weigh (lives st m dr (bears g x)) rows
      split st s rows =
          omega
          (arith, weigh-le-all (lives st m dr (λ h k. not (minus s g x h k))) (λ p. lives st m dr (λ h k. not (s h k)) p + lives st m dr (bears g x) p) (row st s) rows, weigh-add (lives st m dr (λ h k. not (s h k))) (lives st m dr (bears g x)) rows)

  ---- How many that is

  either : (s t v : Names) → ((h : Generation) (k : ℕ) → s h k ≡ true → (t h k ≡ true) ⊎ (v h k ≡ true)) → (rows : List Process) → L s rows ≤ L t rows + L v rows
  either s t v or rows =
      omega (arith, weigh-le-all (lives is_left m dr s) (λ p. lives is_left m dr t p + lives is_left m dr v p) row rows, weigh-add (lives is_left m dr t) (lives is_left m dr v) rows)
    where
      row : (p : Process) → lives is_left m dr s p ≤ lives is_left m dr t p + lives is_left m dr v p
      row (Worker n q h k y hs) = go (is_left y) (q == m) (not (dr n)) (s h k) (t h k) (v h k) (or h k)
        where
          go : (a b c d e f : Bool) → (d ≡ true → (e ≡ true) ⊎ (f ≡ true)) → one (a && (b && (c && d))) ≤ one (a && (b && (c && e))) + one (a && (b && (c && f)))
          go true true true true e f h = ⊎_elim (λ x. omega (arith, ap one x)) (λ x. omega (arith, ap one x)) (h refl)
          go true true true false e f h = omega arith
          go true true false d e f h = omega arith
          go true false c d e f h = omega arith
          go false b c d e f h = omega arith
      row (Master n q i live hs) = omega arith
      row (Foreign n hs) = omega arith

  at-most : (g : Generation) (X : List ℕ) (rows : List Process) → ((h : Generation) (k : ℕ) → L (bears h k) rows ≤ 1) → L (named g (is_in X)) rows ≤ length X
  at-most g [] rows once = nobody
    where
      zeros : (rows : List Process) → weigh (λ (p : Process). 0) rows ≡ 0
      zeros [] = refl
      zeros (p ∷ rows) = omega (arith, zeros rows)

      row : (p : Process) → lives is_left m dr (named g (is_in [])) p ≤ 0
      row (Worker n q h k y hs) = go (is_left y) (q == m) (not (dr n)) (same_generation h g)
        where
          go : (a b c d : Bool) → one (a && (b && (c && (d && false)))) ≤ 0
          go true true true true = omega arith
          go true true true false = omega arith
          go true true false d = omega arith
          go true false c d = omega arith
          go false b c d = omega arith
      row (Master n q i live hs) = omega arith
      row (Foreign n hs) = omega arith

      nobody : L (named g (is_in [])) rows ≤ 0
      nobody = omega (arith, weigh-le-all (lives is_left m dr (named g (is_in []))) (λ p. 0) row rows, zeros rows)
  at-most g (x ∷ X) rows once =
      omega (arith, either (named g (is_in (x ∷ X))) (bears g x) (named g (is_in X)) split rows, once g x, at-most g X rows once)
    where
      split : (h : Generation) (k : ℕ) → named g (is_in (x ∷ X)) h k ≡ true → (bears g x h k ≡ true) ⊎ (named g (is_in X) h k ≡ true)
      split h k e =
          ⊎_elim (λ same. inl (both-true (same_generation h g) (k == x) (and-left _ _ e) (eqb-refl k x (sym same))))
          (λ rest. inr (both-true (same_generation h g) (is_in X k) (and-left _ _ e) rest))
          (in-cases x k X (and-right (same_generation h g) _ e))

  living-row : (p : Process) → one (is_living m dr p) ≤ lives is_left m dr (λ h k. true) p
  living-row (Worker n q h k y hs) = go (is_left y) (q == m) (not (dr n))
    where
      go : (a b c : Bool) → one (a && (b && c)) ≤ one (a && (b && (c && true)))
      go true true true = omega arith
      go true true false = omega arith
      go true false c = omega arith
      go false b c = omega arith
  living-row (Master n q i live hs) = omega arith
  living-row (Foreign n hs) = omega arith

  -- At most as many live as there are names.
  pub alive-few : (g h : Generation) (X Y : List ℕ) (d : Names) (t : Table) → A (both_in g h X Y) d t → weigh (λ p. one (is_living m dr p)) t.rows ≤ length X + length Y
  alive-few g h X Y d t a =
      let s = both_in g h X Y in
      omega (
        arith,
        weigh-le-all (λ p. one (is_living m dr p)) (lives is_left m dr (λ h k. true)) living-row t.rows,
        either (λ h k. true) s (λ h k. not (s h k)) (λ j k e. known (s j k)) t.rows,
        a.within,
        either s (named g (is_in X)) (named h (is_in Y)) (λ j k e. or-elim (named g (is_in X) j k) (named h (is_in Y) j k) e) t.rows,
        at-most g X t.rows a.once,
        at-most h Y t.rows a.once,
      )
    where
      known : (b : Bool) → (b ≡ true) ⊎ (not b ≡ true)
      known true = inl refl
      known false = inr refl
