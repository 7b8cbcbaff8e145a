-- How many workers of a master live: what exits and calls do to the weight of those whose names pass a test.
use Rattle.std.proofs.Common.{◌≡◌, ℕ, ◌+◌, ◌≤◌, Bool, true, false, not, List, [], ◌∷◌, Option, Some, None, refl, sym, ap, ◌∙◌, subst, arith, ◌⊎◌, ⊎_elim}
use Rattle.std.specs.Prelude.{⊤, ◌&&◌, ◌==◌, filter_map}
use Rattle.std.specs.List.{list_any}
use Rattle.std.specs.Bool.{then_some}
use Rattle.listener_set.specs.declared.generation.Generation.{Generation}
use Rattle.vocabulary.specs.declared.names.Name.{Name}
use Rattle.vocabulary.specs.declared.names.Name.TheVariants as name
use Rattle.vocabulary.specs.declared.table.Stance.{Stance}
use Rattle.vocabulary.specs.declared.table.Stance.TheVariants.{Starting, Ready, Draining, Exited}
use Rattle.vocabulary.specs.declared.calls.Call.{Call}
use Rattle.vocabulary.specs.declared.calls.Call.TheVariants.{OpenAt, CloseAt, AwaitReady, Quit, Kill, Census, AwaitGone, Ask}
use Rattle.vocabulary.specs.declared.calls.Fate.{Fate}
use Rattle.definitions.specs.Table.{Hold, Process, Master, Worker, Foreign, Table, Caller, live_master, is_worker, is_active, same_stance, bears}
use Rattle.definitions.specs.Calls.{change, first_changed, without_exited, exited, all_exited, Stepped, drop_where}
use Rattle.definitions.specs.Calls.{with_holds, put_hold, is_of, is_exited_of, step_by, Handed}
use Rattle.call_laws.specs.Pieces.{is_live_master, is_named, is_starting, is_draining, is_exited, is_any, is_row, caller_exits, lacks_address}
use Rattle.call_laws.specs.Pieces.{made_exited, made_ready, made_draining}
use Rattle.call_laws.proofs.Cases.{unfailing, open-cases, await-cases, gone-cases, ask-cases}
use Rattle.call_laws.proofs.Choices.{pick, and-left, and-right}
use Rattle.table_laws.proofs.Rows.{one, weigh, worth, weigh-le-all, weigh-filter_map, change-le, every-any}
use Rattle.table_laws.proofs.Views.{Names}
use Rattle.table_laws.proofs.Effects.{bears-is}

-- a worker of the master in such a stance, whose name passes, and which did not drain at first
abbrev pub lives : (Stance → Bool) → ℕ → (ℕ → Bool) → Names → Process → ℕ
lives st m drained test (Worker n q g k s hs) = one (st s && ((q == m) && (not (drained n) && test g k)))
lives st m drained test (Master n q i live hs) = 0
lives st m drained test (Foreign n hs) = 0

-- Starting, Ready or Draining
abbrev pub is_left : Stance → Bool
is_left s = not (same_stance Exited s)

pub none-off : (a x : Bool) (n : ℕ) → a ≡ false → one (a && x) ≤ n
none-off true x n e = absurd (cc)
none-off false x n e = omega arith

same-on : (a b x : Bool) → a ≡ b → one (a && x) ≤ one (b && x)
same-on a b x e = omega (arith, ap (λ z. one (z && x)) e)

none-last : (a b c d : Bool) (n : ℕ) → d ≡ false → one (a && (b && (c && d))) ≤ n
none-last true true true d n e = omega (arith, ap one e)
none-last true true false d n e = omega arith
none-last true false c d n e = omega arith
none-last false b c d n e = omega arith

more-last : (a b c d e : Bool) → (d ≡ true → e ≡ true) → one (a && (b && (c && d))) ≤ one (a && (b && (c && e)))
more-last a b c false e h = none-last a b c false (one (a && (b && (c && e)))) refl
more-last a b c true e h = omega (arith, ap (λ z. one (a && (b && (c && z)))) (h refl))

module _ (st : Stance → Bool) (ended : st Exited ≡ false) (readied : st Ready ≡ st Starting) (m : ℕ) (drained : ℕ → Bool) where
  abbrev W : Names → Process → ℕ
  W test p = lives st m drained test p

  -- where more names pass
  pub lives-sub : (s t : Names) → ((h : Generation) (k : ℕ) → s h k ≡ true → t h k ≡ true) → (rows : List Process) → weigh (W s) rows ≤ weigh (W t) rows
  lives-sub s t sub rows = weigh-le-all (W s) (W t) row rows
    where
      row : (p : Process) → W s p ≤ W t p
      row (Worker n q g k x hs) = more-last (st x) (q == m) (not (drained n)) (s g k) (t g k) (sub g k)
      row (Master n q i live hs) = omega arith
      row (Foreign n hs) = omega arith

  module _ (test : Names) where
    abbrev w : Process → ℕ
    w p = W test p

    exited-row : (p : Process) → w (made_exited p) ≤ w p
    exited-row (Worker n q g k s hs) = none-off (st Exited) ((q == m) && (not (drained n) && test g k)) (w (Worker n q g k s hs)) ended
    exited-row (Master n q i live hs) = omega arith
    exited-row (Foreign n hs) = omega arith

    ready-row : (c : ℕ) (g : Generation) (x : ℕ) (p : Process) → is_worker is_starting c g x p ≡ true → w (made_ready p) ≤ w p
    ready-row c g x (Worker n q h k Starting hs) e = same-on (st Ready) (st Starting) ((q == m) && (not (drained n) && test h k)) readied
    ready-row c g x (Worker n q h k Ready hs) e = absurd (cc e)
    ready-row c g x (Worker n q h k Draining hs) e = absurd (cc e)
    ready-row c g x (Worker n q h k Exited hs) e = absurd (cc e)
    ready-row c g x (Master n q i live hs) e = absurd (cc e)
    ready-row c g x (Foreign n hs) e = absurd (cc e)

    draining-row :
        (g : Generation) (x : ℕ) → (st Draining ≡ st Ready) ⊎ (test g x ≡ false) → (p : Process) →
        is_worker is_active m g x p ≡ true → w (made_draining p) ≤ w p
    draining-row g x ok (Worker n q h k s hs) e =
        ⊎_elim (λ same. active s (and-left (is_active s) _ e) same)
        (λ off.
        let is = bears-is g x h k (and-right (q == m) _ (and-right (is_active s) _ e)) in
        none-last (st Draining) (q == m) (not (drained n)) (test h k) (w (Worker n q h k s hs))
        (subst (λ f. test f k ≡ false) (sym is.0) (subst (λ y. test g y ≡ false) (sym is.1) off)))
        ok
      where
        active : (s : Stance) → is_active s ≡ true → st Draining ≡ st Ready → w (Worker n q h k Draining []) ≤ w (Worker n q h k s hs)
        active Starting e same = same-on (st Draining) (st Starting) ((q == m) && (not (drained n) && test h k)) (same ∙ readied)
        active Ready e same = same-on (st Draining) (st Ready) ((q == m) && (not (drained n) && test h k)) same
        active Draining e same = absurd (cc e)
        active Exited e same = absurd (cc e)
    draining-row g x ok (Master n q i live hs) e = absurd (cc e)
    draining-row g x ok (Foreign n hs) e = absurd (cc e)

    holds-row : (f : List Hold → List Hold) (p : Process) → w (with_holds f p) ≤ w p
    holds-row f (Worker n q g k s hs) = omega arith
    holds-row f (Master n q i live hs) = omega arith
    holds-row f (Foreign n hs) = omega arith

    changed :
        (when : Process → Bool) (f : Process → Process) → ((p : Process) → when p ≡ true → w (f p) ≤ w p) →
        (rows : List Process) → weigh w (filter_map (change when f) rows) ≤ weigh w rows
    changed when f h rows = change-le (λ p. ⊤) w (change when f) (λ p x. pick (λ p'. w p' ≤ w p) (when p) (f p) p (h p) (λ e. omega arith)) rows (every-any rows)

    dropped : (when : Process → Bool) (rows : List Process) → weigh w (filter_map (drop_where when) rows) ≤ weigh w rows
    dropped when rows = change-le (λ p. ⊤) w (drop_where when) (λ p x. pick (λ o. worth w o ≤ w p) (when p) None (Some p) (λ e. omega arith) (λ e. omega arith)) rows (every-any rows)

    first-row : (when : Process → Bool) (rows : List Process) → weigh w (first_changed when made_exited rows) ≤ weigh w rows
    first-row when [] = omega arith
    first-row when (p ∷ rows) =
        pick (λ l. weigh w l ≤ w p + weigh w rows) (when p) (made_exited p ∷ rows) (p ∷ first_changed when made_exited rows)
        (λ e. omega (arith, exited-row p)) (λ e. omega (arith, first-row when rows))

    without-row : (gone : ℕ) (alive : ℕ → Bool) (p : Process) → worth w (without_exited gone alive p) ≤ w p
    without-row gone alive (Master n q i live hs) = pick (λ o. worth w o ≤ 0) (n == gone) _ _ (λ e. both (alive q)) (λ e. omega arith)
      where
        both : (b : Bool) → worth w (then_some b (Master n q i false [])) ≤ 0
        both true = omega arith
        both false = omega arith
    without-row gone alive (Worker n q g k s hs) =
        pick (λ o. worth w o ≤ w (Worker n q g k s hs)) (q == gone) None (Some (Worker n q g k s hs)) (λ e. omega arith)
        (λ e. omega arith)
    without-row gone alive (Foreign n hs) = omega arith

    exit-one : (e : Name) (rows : List Process) → weigh w (exited e rows) ≤ weigh w rows
    exit-one (name.Worker g k) rows = changed (is_named is_active g k) made_exited (λ p e. exited-row p) rows
    exit-one (name.Draining g k) rows = first-row (is_named is_draining g k) rows
    exit-one (name.Master i) rows = go (live_master i rows)
      where
        go : (o : Option Caller) → weigh w (caller_exits o rows) ≤ weigh w rows
        go None = omega arith
        go (Some c) = change-le (λ p. ⊤) w (without_exited c.number (λ q. list_any (is_live_master q) rows)) (λ p x. without-row c.number (λ q. list_any (is_live_master q) rows) p) rows (every-any rows)

    pub lives-exits : (es : List Name) (rows : List Process) → weigh w (all_exited es rows) ≤ weigh w rows
    lives-exits [] rows = omega arith
    lives-exits (e ∷ es) rows = omega (arith, exit-one e rows, lives-exits es (exited e rows))

    -- calls that start nobody, and whom they tell to quit
    abbrev pub Lowers : Call → Type 0
    Lowers (OpenAt a) = ⊤
    Lowers (CloseAt a) = ⊤
    Lowers (AwaitReady g x) = ⊤
    Lowers (Quit g x) = (st Draining ≡ st Ready) ⊎ (test g x ≡ false)
    Lowers (Kill g x) = ⊤
    Lowers (Census g) = ⊤
    Lowers (AwaitGone g x) = ⊤
    Lowers (Ask q) = ⊤
    Lowers _ = ⊥

    pub lives-steps :
        (handed : Handed) (image : ℕ) (hs : List Hold) (call : Call) (fate : Option Fate) (t : Table) → Lowers call →
        weigh w (step_by handed image (Some (record { number = m; holds = hs })) call fate t).table.rows ≤ weigh w t.rows
    lives-steps handed image hs (OpenAt a) fate t ok =
        open-cases handed image (record { number = m; holds = hs }) a fate t (λ s. weigh w s.table.rows ≤ weigh w t.rows) (omega arith) (omega arith) (omega arith) (omega arith)
        (λ off room. changed (is_row m) (with_holds (put_hold _)) (λ p e. holds-row (put_hold _) p) t.rows)
    lives-steps handed image hs (CloseAt a) fate t ok =
        subst (λ (s : Stepped). weigh w s.table.rows ≤ weigh w t.rows) (sym (unfailing handed image (record { number = m; holds = hs }) (CloseAt a) fate t tt))
        (changed (is_of m) (with_holds (lacks_address a)) (λ p e. holds-row (lacks_address a) p) t.rows)
    lives-steps handed image hs (AwaitReady g x) fate t ok =
        await-cases handed image (record { number = m; holds = hs }) g x fate t (λ s. weigh w s.table.rows ≤ weigh w t.rows) (omega arith)
        (λ on. changed (is_worker is_starting m g x) made_ready (λ p e. ready-row m g x p e) t.rows)
        (λ off. dropped (is_worker is_exited m g x) t.rows)
    lives-steps handed image hs (Quit g x) fate t ok =
        subst (λ (s : Stepped). weigh w s.table.rows ≤ weigh w t.rows) (sym (unfailing handed image (record { number = m; holds = hs }) (Quit g x) fate t tt))
        (changed (is_worker is_active m g x) made_draining (λ p e. draining-row g x ok p e) t.rows)
    lives-steps handed image hs (Kill g x) fate t ok =
        subst (λ (s : Stepped). weigh w s.table.rows ≤ weigh w t.rows) (sym (unfailing handed image (record { number = m; holds = hs }) (Kill g x) fate t tt))
        (dropped (is_worker is_any m g x) t.rows)
    lives-steps handed image hs (Census g) fate t ok =
        subst (λ (s : Stepped). weigh w s.table.rows ≤ weigh w t.rows) (sym (unfailing handed image (record { number = m; holds = hs }) (Census g) fate t tt))
        (dropped (is_exited_of m) t.rows)
    lives-steps handed image hs (AwaitGone g x) fate t ok =
        gone-cases handed image (record { number = m; holds = hs }) g x fate t (λ s. weigh w s.table.rows ≤ weigh w t.rows) (omega arith)
        (dropped (is_worker is_any m g x) t.rows)
    lives-steps handed image hs (Ask q) fate t ok =
        ask-cases handed image (record { number = m; holds = hs }) q fate t (λ s. weigh w s.table.rows ≤ weigh w t.rows) (omega arith) (omega arith)
    lives-steps handed image hs _ fate t ok = absurd ok

  -- Nobody of a name lives when all of it have left.
  pub lives-cut : (g : Generation) (x : ℕ) (rows : List Process) → weigh (W (bears g x)) (filter_map (drop_where (is_worker is_any m g x)) rows) ≤ 0
  lives-cut g x rows =
      omega (arith, weigh-filter_map (W (bears g x)) (drop_where (is_worker is_any m g x)) rows, weigh-le-all (λ p. worth (W (bears g x)) (drop_where (is_worker is_any m g x) p)) (λ p. 0) row rows, zeros rows)
    where
      row : (p : Process) → worth (W (bears g x)) (drop_where (is_worker is_any m g x) p) ≤ 0
      row (Worker n q h k s hs) = pick (λ o. worth (W (bears g x)) o ≤ 0) ((q == m) && bears g x h k) None (Some (Worker n q h k s hs)) (λ e. omega arith) (λ e. off (st s) (q == m) (not (drained n)) (bears g x h k) e)
        where
          off : (a b c d : Bool) → (b && d) ≡ false → one (a && (b && (c && d))) ≤ 0
          off a true c d e = none-last a true c d 0 e
          off true false c d e = omega arith
          off false false c d e = omega arith
      row (Master n q i live hs) = omega arith
      row (Foreign n hs) = omega arith

      zeros : (rows : List Process) → weigh (λ (p : Process). 0) rows ≡ 0
      zeros [] = refl
      zeros (p ∷ rows) = omega (arith, zeros rows)
