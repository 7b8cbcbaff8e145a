-- A call of one worker and the exit of another: either may come first.
use Rattle.std.proofs.Common.{◌≡◌, ℕ, ◌+◌, Bool, true, false, List, [], ◌∷◌, ◌++◌, Option, Some, None, refl, sym, ap, ◌∙◌, arith}
use Rattle.std.specs.Prelude.{◌&&◌, ◌||◌, ◌==◌, nat_lt, not, ⊤, if◌then◌else◌, count_by}
use Rattle.std.specs.List.{list_any, filter_map, cons_option}
use Rattle.std.specs.Option.{option_map}
use Rattle.std.proofs.lemmas.List.Elements.{filter_map-append}
use Rattle.listener_set.specs.declared.generation.Generation.{Generation}
use Rattle.vocabulary.specs.declared.names.Name.TheVariants as name
use Rattle.vocabulary.specs.declared.table.Stance.{Stance}
use Rattle.vocabulary.specs.declared.table.Stance.TheVariants.{Starting, Ready, Draining, Exited}
use Rattle.definitions.specs.Table.{Process, Master, Worker, Foreign, Table, Caller, live_master, bears, same_generation, is_own, is_active, is_worker}
use Rattle.call_laws.specs.Pieces.{is_named, caller_if, with_rows, is_any, is_starting, is_exited, made_exited}
use Rattle.call_laws.specs.Pieces.{made_ready, made_draining}
use Rattle.definitions.specs.Calls.{change, after_exits, losses_of, is_active_worker, Stepped, Answer, Call, OpenAt}
use Rattle.definitions.specs.Calls.{CloseAt, Fork, AwaitReady, Quit, Kill, Census, AwaitGone, SpawnMaster, Adopt}
use Rattle.definitions.specs.Calls.{WritePid, MovePid, RemovePid, Alive, Leave, Usr1, TermMaster, Ask, step_with}
use Rattle.definitions.specs.Calls.{step_by, own_step, gives, each_row, drop_where, has_process_room, with_new_row}
use Rattle.definitions.specs.Calls.{shared, Handed}
use Rattle.vocabulary.specs.declared.calls.Answer.TheVariants as answer
use Rattle.table_laws.proofs.Rows.{one, worth, weigh, change-same, count-weigh, weigh-append, every-any, both-true}
use Rattle.call_laws.proofs.Choices.{pick, and-left, and-right}
use Rattle.table_laws.proofs.Views.{eqb-is, eqb-refl}
use Rattle.explorer.specs.Known.{passes_by}

off : (x z : Bool) → z ≡ false → (x && z) ≡ false
off true z e = e
off false z e = refl

-- nobody bears two names
apart : (g h : Generation) (k j : ℕ) (a : Generation) (b : ℕ) → bears g k h j ≡ false → bears g k a b ≡ true → bears h j a b ≡ false
apart g h k j a b other is = both (bears h j a b) refl
  where
    same : (x y z : ℕ) → (x == y) ≡ true → (x == z) ≡ true → (z == y) ≡ true
    same x y z e f = eqb-refl z y (sym (eqb-is x z f) ∙ eqb-is x y e)

    both : (c : Bool) → bears h j a b ≡ c → c ≡ false
    both false e = refl
    both true e =
        let l = and-left (same_generation a g) (b == k) is in
        let m = and-left (same_generation a h) (b == j) e in
        let image = same a.image g.image h.image (and-left (a.image == g.image) (a.config == g.config) l) (and-left (a.image == h.image) (a.config == h.config) m) in
        let config = same a.config g.config h.config (and-right (a.image == g.image) (a.config == g.config) l) (and-right (a.image == h.image) (a.config == h.config) m) in
        let number = same b k j (and-right (same_generation a g) (b == k) is) (and-right (same_generation a h) (b == j) e) in
        sym (both-true (same_generation h g) (j == k) (both-true (h.image == g.image) (h.config == g.config) image config) number) ∙ other

module _ (g : Generation) (k : ℕ) where
  abbrev pub gone : Process → Process
  gone p = if is_named is_active g k p then made_exited p else p

  abbrev exits : Process → Option Process
  exits = change (is_named is_active g k) made_exited

  abbrev exit : Table → Table
  exit t = after_exits (name.Worker g k ∷ []) t

  -- the row of a worker that bears the name and is Starting or Ready
  abbrev pub at_stake : Process → ℕ
  at_stake p = one (is_named is_active g k p)

  ---- Rows

  stays : (p : Process) → is_named is_active g k p ≡ false → gone p ≡ p
  stays p e = ap (λ (b : Bool). if b then made_exited p else p) e

  goes : (p : Process) → is_named is_active g k p ≡ true → gone p ≡ made_exited p
  goes p e = ap (λ (b : Bool). if b then made_exited p else p) e

  -- what is of workers of other names
  pub record IsOfOthers (test : Process → Bool) : Type 0 where
    pub named : (p : Process) → is_named is_active g k p ≡ true → test p ≡ false
    pub exited : (p : Process) → is_named is_active g k p ≡ true → test (made_exited p) ≡ false

  -- what leaves them other names
  abbrev Renames : (Process → Bool) → (Process → Process) → Type 0
  Renames test m = (p : Process) → test p ≡ true → is_named is_active g k (m p) ≡ false

  unnamed : (test : Process → Bool) → IsOfOthers test → (p : Process) → test p ≡ true → is_named is_active g k p ≡ false
  unnamed test others p is = both (is_named is_active g k p) refl
    where
      both : (c : Bool) → is_named is_active g k p ≡ c → c ≡ false
      both false e = refl
      both true e = sym is ∙ others.named p e

  same-test : (test : Process → Bool) → IsOfOthers test → (p : Process) → test (gone p) ≡ test p
  same-test test others p = pick (λ x. test x ≡ test p) (is_named is_active g k p) (made_exited p) p (λ e. others.exited p e ∙ sym (others.named p e)) (λ e. refl)

  own-exited : (p : Process) → is_own (made_exited p) ≡ is_own p
  own-exited (Worker n q a b s hs) = refl
  own-exited (Master n q i live hs) = refl
  own-exited (Foreign n hs) = refl

  same-own : (p : Process) → is_own (gone p) ≡ is_own p
  same-own p = pick (λ x. is_own x ≡ is_own p) (is_named is_active g k p) (made_exited p) p (λ e. own-exited p) (λ e. refl)

  -- f makes of a row that exits what it makes of the row, exited
  abbrev Swaps : (Process → Option Process) → Type 0
  Swaps f = (p : Process) → f (gone p) ≡ option_map gone (f p)

  swap-change : (test : Process → Bool) (m : Process → Process) → IsOfOthers test → Renames test m → Swaps (change test m)
  swap-change test m others renames p = pick (λ x. change test m x ≡ option_map gone (change test m p)) (is_named is_active g k p) (made_exited p) p
      (λ e. ap (λ (b : Bool). Some (if b then m (made_exited p) else made_exited p)) (others.exited p e)
      ∙ sym (ap (λ (b : Bool). Some (gone (if b then m p else p))) (others.named p e) ∙ ap Some (goes p e)))
      (λ e. pick (λ x. Some x ≡ Some (gone x)) (test p) (m p) p (λ is. ap Some (sym (stays (m p) (renames p is)))) (λ is. ap Some (sym (stays p e))))

  swap-drop : (test : Process → Bool) → IsOfOthers test → Swaps (drop_where test)
  swap-drop test others p = pick (λ x. drop_where test x ≡ option_map gone (drop_where test p)) (is_named is_active g k p) (made_exited p) p
      (λ e. ap (λ (b : Bool). if b then None else Some (made_exited p)) (others.exited p e)
      ∙ sym (ap (λ (b : Bool). option_map gone (if b then None else Some p)) (others.named p e) ∙ ap Some (goes p e)))
      (λ e. pick (λ o. o ≡ option_map gone o) (test p) None (Some p) (λ is. refl) (λ is. ap Some (sym (stays p e))))

  ---- Lists of rows

  exits-cons : (o : Option Process) (ps : List Process) → filter_map exits (cons_option o ps) ≡ cons_option (option_map gone o) (filter_map exits ps)
  exits-cons None ps = refl
  exits-cons (Some p) ps = refl

  swapped : (f : Process → Option Process) → Swaps f → (ps : List Process) → filter_map f (filter_map exits ps) ≡ filter_map exits (filter_map f ps)
  swapped f swaps [] = refl
  swapped f swaps (p ∷ ps) = (λ i. cons_option (swaps p i) (swapped f swaps ps i)) ∙ sym (exits-cons (f p) (filter_map f ps))

  same-any : (test : Process → Bool) → IsOfOthers test → (ps : List Process) → list_any test (filter_map exits ps) ≡ list_any test ps
  same-any test others [] = refl
  same-any test others (p ∷ ps) = λ i. same-test test others p i || same-any test others ps i

  same-count : (ps : List Process) → count_by is_own (filter_map exits ps) ≡ count_by is_own ps
  same-count ps =
      count-weigh is_own (filter_map exits ps)
      ∙ change-same (λ p. ⊤) (λ p. one (is_own p)) exits (λ p x. ap one (same-own p)) ps (every-any ps)
      ∙ sym (count-weigh is_own ps)

  pub same-master : (image : ℕ) (ps : List Process) → live_master image (filter_map exits ps) ≡ live_master image ps
  same-master image [] = refl
  same-master image (Master n q i live hs ∷ ps) = ap (caller_if (live && (i == image)) n hs) (same-master image ps)
  same-master image (Worker n q a b s hs ∷ ps) = pick (λ x. live_master image (x ∷ filter_map exits ps) ≡ live_master image ps) (is_named is_active g k (Worker n q a b s hs)) (made_exited (Worker n q a b s hs)) (Worker n q a b s hs) (λ e. same-master image ps) (λ e. same-master image ps)
  same-master image (Foreign n hs ∷ ps) = same-master image ps

  kept-change : (test : Process → Bool) (m : Process → Process) → IsOfOthers test → Renames test m →
      (ps : List Process) → weigh at_stake (filter_map (change test m) ps) ≡ weigh at_stake ps
  kept-change test m others renames ps = change-same (λ p. ⊤) at_stake (change test m)
      (λ p x. pick (λ y. at_stake y ≡ at_stake p) (test p) (m p) p (λ is. ap one (renames p is) ∙ sym (ap one (unnamed test others p is))) (λ is. refl)) ps (every-any ps)

  kept-drop : (test : Process → Bool) → IsOfOthers test → (ps : List Process) → weigh at_stake (filter_map (drop_where test) ps) ≡ weigh at_stake ps
  kept-drop test others ps = change-same (λ p. ⊤) at_stake (drop_where test)
      (λ p x. pick (λ o. worth at_stake o ≡ at_stake p) (test p) None (Some p) (λ is. sym (ap one (unnamed test others p is))) (λ is. refl)) ps (every-any ps)

  ---- Losses

  lost-row : (p : Process) → one (is_active_worker p) ≡ one (is_active_worker (gone p)) + at_stake p
  lost-row (Worker n q a b s hs) = go s (bears g k a b)
    where
      go : (s : Stance) (x : Bool) →
          one (is_active s)
          ≡ one (is_active_worker (if is_active s && x then Worker n q a b Exited [] else Worker n q a b s hs)) + one
          (is_active s && x)
      go Starting true = refl
      go Starting false = refl
      go Ready true = refl
      go Ready false = refl
      go Draining x = refl
      go Exited x = refl
  lost-row (Master n q i live hs) = refl
  lost-row (Foreign n hs) = refl

  lost-rows : (ps : List Process) → weigh (λ p. one (is_active_worker p)) ps ≡ weigh (λ p. one (is_active_worker p)) (filter_map exits ps) + weigh at_stake ps
  lost-rows [] = refl
  lost-rows (p ∷ ps) = omega (arith, lost-row p, lost-rows ps)

  pub losses-at-stake : (t : Table) → losses_of (name.Worker g k ∷ []) t ≡ weigh at_stake t.rows
  losses-at-stake t = omega (arith, count-weigh is_active_worker t.rows, count-weigh is_active_worker (filter_map exits t.rows), lost-rows t.rows)

  ---- Calls

  abbrev pub exited_step : Stepped → Stepped
  exited_step s = record { answer = s.answer; table = exit s.table }

  -- The step is the same before the exit and behind it, and leaves as many who bear the name.
  pub record Passes (step : Table → Stepped) (t : Table) : Type 0 where
    pub same : step (exit t) ≡ exited_step (step t)
    pub stake : weigh at_stake (step t).table.rows ≡ weigh at_stake t.rows

  each : (f : Process → Option Process) → Swaps f → (t : Table) → each_row f (exit t) ≡ exit (each_row f t)
  each f swaps t = ap (with_rows t) (swapped f swaps t.rows)

  -- one of two steps, by a test that the exit does not change
  either : (b b' : Bool) (x x' y y' : Stepped) (t : Table) → b' ≡ b → x' ≡ exited_step x → y' ≡ exited_step y →
      (if b' then x' else y') ≡ exited_step (if b then x else y)
  either b b' x x' y y' t e f h = (λ i. if e i then f i else h i) ∙ out b
    where
      out : (b : Bool) → (if b then exited_step x else exited_step y) ≡ exited_step (if b then x else y)
      out true = refl
      out false = refl

  module _ (c : Caller) (h : Generation) (j : ℕ) (other : bears g k h j ≡ false) where
    others : (stance : Stance → Bool) → IsOfOthers (is_worker stance c.number h j)
    others stance = record { named = named; exited = exited }
      where
        named : (p : Process) → is_named is_active g k p ≡ true → is_worker stance c.number h j p ≡ false
        named (Worker n q a b s hs) e = off (stance s) _ (off (q == c.number) _ (apart g h k j a b other (and-right (is_active s) (bears g k a b) e)))
        named (Master n q i live hs) e = refl
        named (Foreign n hs) e = refl

        exited : (p : Process) → is_named is_active g k p ≡ true → is_worker stance c.number h j (made_exited p) ≡ false
        exited (Worker n q a b s hs) e = off (stance Exited) _ (off (q == c.number) _ (apart g h k j a b other (and-right (is_active s) (bears g k a b) e)))
        exited (Master n q i live hs) e = refl
        exited (Foreign n hs) e = refl

    renames-ready : Renames (is_worker is_starting c.number h j) made_ready
    renames-ready (Worker n q a b s hs) e = bearer a b s q e
      where
        bearer : (a : Generation) (b : ℕ) (s : Stance) (q : ℕ) → (is_starting s && ((q == c.number) && bears h j a b)) ≡ true → bears g k a b ≡ false
        bearer a b s q e = both (bears g k a b) refl
          where
            both : (x : Bool) → bears g k a b ≡ x → x ≡ false
            both false f = refl
            both true f = sym (and-right (q == c.number) (bears h j a b) (and-right (is_starting s) _ e)) ∙ apart g h k j a b other f
    renames-ready (Master n q i live hs) e = refl
    renames-ready (Foreign n hs) e = refl

    renames-draining : Renames (is_worker is_active c.number h j) made_draining
    renames-draining (Worker n q a b s hs) e = refl
    renames-draining (Master n q i live hs) e = refl
    renames-draining (Foreign n hs) e = refl

    drops : (stance : Stance → Bool) (a : Answer) (t : Table) → Passes (λ t. gives a (each_row (drop_where (is_worker stance c.number h j)) t)) t
    drops stance a t = record {
      same = ap (gives a) (each (drop_where (is_worker stance c.number h j)) (swap-drop (is_worker stance c.number h j) (others stance)) t);
      stake = kept-drop (is_worker stance c.number h j) (others stance) t.rows;
    }

    changes : (stance : Stance → Bool) (m : Process → Process) (a : Answer) (t : Table) → Renames (is_worker stance c.number h j) m →
        Passes (λ t. gives a (each_row (change (is_worker stance c.number h j) m) t)) t
    changes stance m a t renames = record {
      same = ap (gives a) (each (change (is_worker stance c.number h j) m) (swap-change (is_worker stance c.number h j) m (others stance) renames) t);
      stake = kept-change (is_worker stance c.number h j) m (others stance) renames t.rows;
    }

    waits : (x y : Table → Stepped) (t : Table) → Passes x t → Passes y t →
        Passes (λ t. if list_any (is_worker is_active c.number h j) t.rows then x t else y t) t
    waits x y t p q = record {
      same = either _ _ (x t) (x (exit t)) (y t) (y (exit t)) t (same-any (is_worker is_active c.number h j) (others is_active) t.rows) p.same q.same;
      stake = pick (λ s. weigh at_stake s.table.rows ≡ weigh at_stake t.rows) (list_any (is_worker is_active c.number h j) t.rows) (x t) (y t) (λ e. p.stake) (λ e. q.stake);
    }

    stands : (a : Answer) (t : Table) → Passes (gives a) t
    stands a t = record { same = refl; stake = refl }

    abbrev new_row : Option (List ℕ) → ℕ → Process
    new_row fds n = Worker n c.number h j Starting (shared fds c.holds)

    unstaked : (fds : Option (List ℕ)) (n : ℕ) → is_named is_active g k (new_row fds n) ≡ false
    unstaked fds n = other

    adds : (fds : Option (List ℕ)) (t : Table) → Passes (λ t. gives answer.Forked (with_new_row t (new_row fds))) t
    adds fds t = record {
      same = ap (λ (ps : List Process). gives answer.Forked (record t { rows = ps; next_process = t.next_process + 1 }))
          (ap (λ p. filter_map exits t.rows ++ p ∷ []) (sym (stays (new_row fds t.next_process) (unstaked fds t.next_process)))
          ∙ sym (filter_map-append exits t.rows (new_row fds t.next_process ∷ [])));
      stake = omega (arith, weigh-append at_stake t.rows (new_row fds t.next_process ∷ []), ap one (unstaked fds t.next_process));
    }

    forks : (fds : Option (List ℕ)) (t : Table) →
        Passes (λ t. if has_process_room t then gives answer.Forked (with_new_row t (new_row fds))
        else gives answer.Again t) t
    forks fds t =
        let a = adds fds t in
        record {
          same = either (has_process_room t) (has_process_room (exit t)) _ _ _ _ t (ap (λ n. nat_lt n t.limits.processes) (same-count t.rows)) a.same refl;
          stake = pick (λ s. weigh at_stake s.table.rows ≡ weigh at_stake t.rows) (has_process_room t) (gives answer.Forked (with_new_row t (new_row fds))) (gives answer.Again t) (λ e. a.stake) (λ e. refl);
        }

  positive : (b : Bool) → not b ≡ true → b ≡ false
  positive true e = sym e
  positive false e = refl

  own : (handed : Handed) (image : ℕ) (c : Caller) (call : Call) (t : Table) → passes_by call (name.Worker g k) ≡ true → Passes (own_step handed image c call) t
  own handed image c (OpenAt a) t e = absurd (cc e)
  own handed image c (CloseAt a) t e = absurd (cc e)
  own handed image c (Fork h j fds) t e =
      let other = positive (bears g k h j) e in
      waits c h j other (gives answer.Again) (λ t. if has_process_room t then gives answer.Forked (with_new_row t (new_row c h j other fds)) else gives answer.Again t) t (stands c h j other answer.Again t) (forks c h j other fds t)
  own handed image c (AwaitReady h j) t e =
      let other = positive (bears g k h j) e in
      waits c h j other _ _ t (changes c h j other is_starting made_ready answer.IsReady t (renames-ready c h j other)) (drops c h j other is_exited answer.Gone t)
  own handed image c (Quit h j) t e =
      let other = positive (bears g k h j) e in
      changes c h j other is_active made_draining answer.Fine t (renames-draining c h j other)
  own handed image c (Kill h j) t e = drops c h j (positive (bears g k h j) e) is_any answer.Fine t
  own handed image c (Census h) t e = absurd (cc e)
  own handed image c (AwaitGone h j) t e =
      let other = positive (bears g k h j) e in
      waits c h j other (gives answer.Late) _ t (stands c h j other answer.Late t) (drops c h j other is_any answer.Gone t)
  own handed image c (SpawnMaster i) t e = absurd (cc e)
  own handed image c Adopt t e = absurd (cc e)
  own handed image c (WritePid path) t e = absurd (cc e)
  own handed image c (MovePid from to) t e = absurd (cc e)
  own handed image c (RemovePid path) t e = absurd (cc e)
  own handed image c (Alive i) t e = absurd (cc e)
  own handed image c Leave t e = absurd (cc e)
  own handed image c (Usr1 h j) t e = stands c h j (positive (bears g k h j) e) answer.Fine t
  own handed image c (TermMaster i) t e = absurd (cc e)
  own handed image c (Ask q) t e = absurd (cc e)

  pub passed : (handed : Handed) (image : ℕ) (call : Call) (t : Table) → passes_by call (name.Worker g k) ≡ true → Passes (step_with handed image call None) t
  passed handed image call t e =
      let by = own_or (live_master image t.rows) in
      record {
        same = ap (λ (o : Option Caller). step_by handed image o call None (exit t)) (same-master image t.rows) ∙ by.same;
        stake = by.stake;
      }
    where
      own_or : (o : Option Caller) → Passes (λ t. step_by handed image o call None t) t
      own_or None = record { same = refl; stake = refl }
      own_or (Some c) =
          let p = own handed image c call t e in
          record { same = p.same; stake = p.stake }

-- What a step's call loses is lost before it or behind it.
pub same-losses : (g : Generation) (k : ℕ) (handed : Handed) (image : ℕ) (call : Call) (t : Table) →
    passes_by call (name.Worker g k) ≡ true →
    losses_of (name.Worker g k ∷ []) (step_with handed image call None t).table ≡ losses_of (name.Worker g k ∷ []) t
same-losses g k handed image call t e =
    losses-at-stake g k (step_with handed image call None t).table ∙ (passed g k handed image call t e).stake ∙ sym (losses-at-stake g k t)
