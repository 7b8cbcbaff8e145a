-- Each worker that is ready at first ends in peace: along the run, with what was called before.
use Rattle.std.proofs.Common.{◌≡◌, ◌≢◌, ℕ, ◌+◌, ◌≤◌, Bool, true, false, not, List, [], ◌∷◌, ◌++◌, Option, Some, None, refl, sym}
use Rattle.std.proofs.Common.{ap, ◌∙◌, subst, arith, ◌⊎◌, inl, inr, ⊎_elim, append_assoc, filter, map, reverse, nat_lt}
use Rattle.std.specs.Prelude.{⊤, ◌&&◌, ◌||◌, ◌==◌, if◌then◌else◌, IfSome, option_map}
use Rattle.std.specs.List.{AllByRecursion, list_any}
use Rattle.listener_set.specs.Numbers.{is_in, numbers_below}
use Rattle.listener_set.specs.declared.generation.Generation.{Generation}
use Rattle.vocabulary.specs.Settings.{Settings}
use Rattle.vocabulary.specs.declared.names.Name.{Name}
use Rattle.vocabulary.specs.declared.plans.Side.TheVariants as side
use Rattle.vocabulary.specs.declared.plans.Turn.{Turn}
use Rattle.vocabulary.specs.declared.table.Stance.{Stance}
use Rattle.vocabulary.specs.declared.table.Stance.TheVariants.{Starting, Ready, Draining, Exited}
use Rattle.vocabulary.specs.declared.calls.Fate.{Fate}
use Rattle.vocabulary.specs.declared.reports.Entry.{Entry}
use Rattle.definitions.specs.Table.{Process, Master, Worker, Foreign, Table, Address, bears, is_worker_where, same_stance}
use Rattle.definitions.specs.Calls.{Call, OpenAt, CloseAt, Fork, AwaitReady, Quit, Kill, Census, AwaitGone, SpawnMaster}
use Rattle.definitions.specs.Calls.{Adopt, WritePid, MovePid, RemovePid, Alive, Leave, Usr1, TermMaster, Ask, Handed}
use Rattle.definitions.specs.Calls.{Stepped, step_with, after_exits}
use Rattle.definitions.specs.Master.{Record, Target, Workers, Mend, Reopen, Reload, Upgrade, Attended, Stop, handover_for}
use Rattle.definitions.specs.Master.{Crew, crew_of, addresses_of, generation_wanted, addresses_wanted}
use Rattle.definitions.specs.After.{crew_wanted}
use Rattle.definitions.specs.Run.{Tree, Branches, Ends, Does, Nothing, Branch, Order, Make, End, Reply, Pattern, Progress}
use Rattle.definitions.specs.Run.{Ran, run_with, goes_with, call_of, lacked_by, after_moment, after_call, reply_of, start_at}
use Rattle.definitions.specs.Plans.{tells, settle, plan_tree, rollout_of, only_in}
use Rattle.definitions.specs.Claims.{has_ready, one_then, is_quit, is_wait, is_late, is_leave_call, was_late, IsKillDue}
use Rattle.definitions.specs.Claims.{KillsAreDue, LeavesLast, before_leave, IsStart, KeepsPromise, run_of}
use Rattle.call_laws.specs.Pieces.{among, noted, answered, was_waited_for}
use Rattle.call_laws.proofs.Choices.{and-left, and-right}
use Rattle.table_laws.proofs.Rows.{weigh, one, every-more, every-any, both-true, or-left, or-right}
use Rattle.table_laws.proofs.Small.{every-is_in}
use Rattle.table_laws.proofs.Views.{master_at, eqb-refl, eqb-off}
use Rattle.table_laws.proofs.Effects.{bears-is, bears-refl}
use Rattle.run_laws.proofs.Processes.{IsOf}
use Rattle.run_laws.proofs.Taken.{OnlyOurs, IsUntouched}
use Rattle.run_laws.proofs.Firsts.{first-in, first-low, first-untouched, first-one}
use Rattle.run_laws.proofs.Traces.{append-nil, then-more}
use Rattle.theorems.proofs.Promise.{headline}
use Rattle.further_theorems.specs.Proper.{IsProperFor}
use Rattle.further_theorems.specs.Named.{is_at, takes_ready, takes_draining}
use Rattle.further_theorems.specs.Peace.{is_by, is_kill, Seen, seen_after, ends_gently, IsGentle, EndsInPeace, AllEndInPeace}
use Rattle.further_theorems.specs.Peace.{KeepsPeace, WorkersEndInPeace}
use Rattle.further_theorems.proofs.Nodes.{Nodes, NodesAll, Settles, Numbers, n-tells, n-map, n-settle, n-starts, n-opens, n-stepped, Always}
use Rattle.further_theorems.proofs.Proper.{Right, Any, All, plan-proper}
use Rattle.further_theorems.proofs.Named.{at, by-name, head-behind}
use Rattle.further_theorems.proofs.OneProcess.{Serves, Drains, HasEnded, Ours, Images, is_it, Knows, Fits}
use Rattle.further_theorems.proofs.OneProcess.{exits-known, step-known, kept-at, none-at, narrows, quit-turns}
use Rattle.further_theorems.proofs.OneProcess.{ready-drains, draining-serves, draining-ended}

---- Entries so far

told-before : (first second : Entry → Bool) (past : List Entry) → one_then first second past ≡ true → list_any first past ≡ true
told-before first second [] e = e
told-before first second (x ∷ xs) e = go (first x) e (told-before first second xs)
  where
    go : (b : Bool) → ((b && list_any second xs) || one_then first second xs) ≡ true →
        (one_then first second xs ≡ true → list_any first xs ≡ true) → (b || list_any first xs) ≡ true
    go true e ih = refl
    go false e ih = ih e

any-split : (test : Entry → Bool) (past : List Entry) (x : Entry) → list_any test (past ++ x ∷ []) ≡ true →
    (list_any test past ≡ true) ⊎ (test x ≡ true)
any-split test [] x e = go (test x) e
  where
    go : (b : Bool) → (b || false) ≡ true → (false ≡ true) ⊎ (b ≡ true)
    go true e = inr refl
    go false e = absurd (cc)
any-split test (y ∷ ys) x e = go (test y) e (any-split test ys x)
  where
    go : (b : Bool) → (b || list_any test (ys ++ x ∷ [])) ≡ true →
        (list_any test (ys ++ x ∷ []) ≡ true → (list_any test ys ≡ true) ⊎ (test x ≡ true)) →
        ((b || list_any test ys) ≡ true) ⊎ (test x ≡ true)
    go true e ih = inl refl
    go false e ih = ih e

then-split : (first second : Entry → Bool) (past : List Entry) (x : Entry) → one_then first second (past ++ x ∷ []) ≡ true →
    (one_then first second past ≡ true) ⊎ ((list_any first past ≡ true) × (second x ≡ true))
then-split first second [] x e = go (first x) e
  where
    go : (b : Bool) → ((b && false) || false) ≡ true → (false ≡ true) ⊎ ((false ≡ true) × (second x ≡ true))
    go true e = absurd (cc)
    go false e = absurd (cc)
then-split first second (y ∷ ys) x e =
    go (first y) (list_any second (ys ++ x ∷ [])) refl (one_then first second (ys ++ x ∷ [])) refl e (any-split second ys x) (then-split first second ys x)
  where
    go : (b c : Bool) → list_any second (ys ++ x ∷ []) ≡ c → (d : Bool) → one_then first second (ys ++ x ∷ []) ≡ d →
        ((b && c) || d) ≡ true → (list_any second (ys ++ x ∷ []) ≡ true → (list_any second ys ≡ true) ⊎ (second x ≡ true)) →
        (one_then first second (ys ++ x ∷ []) ≡ true →
        (one_then first second ys ≡ true) ⊎ ((list_any first ys ≡ true) × (second x ≡ true))) →
        (((b && list_any second ys) || one_then first second ys) ≡ true) ⊎ (((b || list_any first ys) ≡ true) × (second x ≡ true))
    go true true is d so e ih jh = ⊎_elim (λ here. inl (or-left _ _ here)) (λ last. inr (refl, last)) (ih is)
    go true false is d so e ih jh = ⊎_elim (λ here. inl (or-right (list_any second ys) _ here)) (λ last. inr (refl, last.1)) (jh (so ∙ e))
    go false c is d so e ih jh = jh (so ∙ e)

-- no entry more that passes
none-more : (test : Entry → Bool) (past : List Entry) (x : Entry) → list_any test past ≡ false → test x ≡ false →
    list_any test (past ++ x ∷ []) ≡ false
none-more test past x off out = go (list_any test (past ++ x ∷ [])) refl
  where
    go : (b : Bool) → list_any test (past ++ x ∷ []) ≡ b → b ≡ false
    go true is = ⊎_elim (λ on. absurd (cc)) (λ on. absurd (cc)) (any-split test past x is)
    go false is = refl

---- Plans in which nobody leaves

abbrev Stays : ℕ → Order → Branches → Type 0
Stays by order bs = (lacking : List ℕ) → is_leave_call (call_of order lacking) ≡ false

abbrev Whatever : End → Type 0
Whatever e = ⊤

abbrev NobodyLeaves : Tree → Type 0
NobodyLeaves t = Nodes Stays Whatever t

module _ (r : Record) where
  settling : (by : ℕ) (g : Generation) → Settles Stays Whatever by g
  settling by g = record {
    forks = λ crew same bs lacking. refl;
    awaits = λ bs lacking. refl;
    kills = λ bs lacking. refl;
    counts = λ bs lacking. refl;
  }

  starting : (by : ℕ) (g : Generation) → Numbers Stays Whatever by g
  starting by g = record {
    forks = λ crew k same bs lacking. refl;
    awaits = λ k bs lacking. refl;
    kills = λ k bs lacking. refl;
    gones = λ k bs lacking. refl;
  }

  settled : (by : ℕ) (crew : Crew) (set : List ℕ) (sd : Rattle.vocabulary.specs.declared.plans.Side.Side) (rounds : ℕ) →
      NobodyLeaves (settle by crew set sd rounds)
  settled by crew set sd rounds = n-settle Stays Whatever by crew set sd rounds (settling by crew.generation) tt tt

  quitted : (by : ℕ) (g : Generation) (ks : List ℕ) (rest : Tree) → NobodyLeaves rest → NobodyLeaves (tells by (map (Quit g) ks) rest)
  quitted by g ks rest h = n-tells Stays Whatever by (map (Quit g) ks) rest (n-map Stays Whatever by (Quit g) ks (λ k bs lacking. refl)) h

  closing : (by : ℕ) (l : List Address) (rest : Tree) → NobodyLeaves rest → NobodyLeaves (tells by (map CloseAt l) rest)
  closing by l rest h = n-tells Stays Whatever by (map CloseAt l) rest (n-map Stays Whatever by CloseAt l (λ a bs lacking. refl)) h

  abbrev old : ℕ
  old = r.generation.image

  workers-stay : (n : ℕ) (turns : List Turn) → NobodyLeaves (plan_tree r (Workers n) turns)
  workers-stay n turns =
      let ending = settle old (crew_of r) (numbers_below n) side.Target r.retries in
      let gone = reverse (filter (λ k. not (nat_lt k n)) r.ready) in
      n-starts Stays Whatever old (crew_of r) (filter (λ k. not (is_in r.ready k)) (numbers_below n))
      (tells old (map (Quit r.generation) gone) ending)
      (λ l. tells old (map (Quit r.generation) l) (settle old (crew_of r) r.ready side.Old r.retries)) (starting old r.generation)
      (quitted old r.generation gone ending (settled old (crew_of r) (numbers_below n) side.Target r.retries))
      (λ l. quitted old r.generation l (settle old (crew_of r) r.ready side.Old r.retries) (settled old (crew_of r) r.ready side.Old r.retries))

  reopen-stays : (turns : List Turn) → NobodyLeaves (plan_tree r Reopen turns)
  reopen-stays turns =
      n-tells Stays Whatever old (map (Usr1 r.generation) r.ready) (settle old (crew_of r) r.ready side.Target r.retries)
      (n-map Stays Whatever old (Usr1 r.generation) r.ready (λ k bs lacking. refl)) (settled old (crew_of r) r.ready side.Target r.retries)

  reload-stays : (s : Settings) (turns : List Turn) → NobodyLeaves (plan_tree r (Reload s) turns)
  reload-stays s turns =
      let fresh = crew_wanted r (Reload s) in
      let rollout = rollout_of r s s.surge in
      let dropped = only_in (addresses_of r) s.listeners in
      let ending = settle old fresh (numbers_below s.workers) side.Target r.retries in
      let added = only_in s.listeners (addresses_of r) in
      n-stepped Stays Whatever old (crew_of r) fresh (starting old r.generation) (starting old fresh.generation)
      (record {
        quits_old = λ k bs lacking. refl;
        quits_new = λ k bs lacking. refl;
        counts = λ bs lacking. refl;
        asks = λ bs lacking. refl;
      })
      false r.ready r.retries (addresses_of r) s.listeners s.workers rollout (every-any-open added) (λ a. ⊤) (every-any added)
      (quitted old r.generation (reverse rollout.left) (tells old (map CloseAt dropped) ending)
      (closing old dropped ending (settled old fresh (numbers_below s.workers) side.Target r.retries)))
      (λ opened all. closing old opened (settle old (crew_of r) r.ready side.Old r.retries) (settled old (crew_of r) r.ready side.Old r.retries))
    where
      every-any-open : (l : List Address) → AllByRecursion (λ a. Always Stays Whatever old (Make (OpenAt a))) l
      every-any-open [] = tt
      every-any-open (a ∷ l) = ((λ bs lacking. refl), every-any-open l)

---- One call

module _ (r : Record) (wanted : Generation) (addresses : List Address) (handed : Handed) (first : Table) (n k : ℕ)
    (there : has_ready first n k ≡ true) where
  abbrev g : Generation
  g = r.generation

  abbrev i : ℕ
  i = g.image

  abbrev q : ℕ
  q = r.pid

  abbrev Told : List Entry → Bool
  Told past = list_any (λ e. is_quit (bears g k) e.call) past

  abbrev K : (Stance → Type 0) → Table → Type 0
  K S t = Knows q i n g k S t

  -- what is known of it once it was told
  pub record Finishes (past : List Entry) (seen : Seen) (t : Table) : Type 0 where
    pub known : K Drains t
    pub late : was_late g k past ≡ true → is_at Draining n g k t ≡ true → seen.late ≡ true
    pub wait : was_waited_for g k past ≡ true → is_at Draining n g k t ≡ true → seen.wait ≡ true

  -- and before
  abbrev pub State : List Entry → Seen → Table → Type 0
  State past seen t = (K Serves t × (Told past ≡ false)) ⊎ Finishes past seen t

  abbrev Good : ℕ → Call → Type 0
  Good by call = IsProperFor r wanted addresses by call

  ---- Who calls

  quit-by : (by : ℕ) (call : Call) → Good by call → is_quit (bears g k) call ≡ true → by ≡ i
  quit-by by (Quit h j) good e = good.0 ∙ ap (λ (z : Generation). z.image) (bears-is g k h j e).0
  quit-by by call good e = absurd (cc)

  wait-by : (by : ℕ) (call : Call) → Good by call → is_wait (bears g k) call ≡ true → by ≡ i
  wait-by by (AwaitGone h j) good e = good.0 ∙ ap (λ (z : Generation). z.image) (bears-is g k h j e).0
  wait-by by call good e = absurd (cc)

  other-image : (im : ℕ) → im ≡ i + 1 → im ≢ i
  other-image im is same = omega (arith, is, same)

  fits : (S : Stance → Type 0) (by : ℕ) (call : Call) → Good by call → (is_quit (bears g k) call ≡ false) ⊎ (S Ready → ⊥) →
      Fits q i n g k S call
  fits S by (OpenAt a) good h = tt
  fits S by (CloseAt a) good h = tt
  fits S by (Fork h' j fds) good h = tt
  fits S by (AwaitReady h' j) good h = tt
  fits S by (Quit h' j) good h = h
  fits S by (Kill h' j) good h = tt
  fits S by (Census h') good h = tt
  fits S by (AwaitGone h' j) good h = tt
  fits S by (SpawnMaster im) good h = other-image im good.1
  fits S by Adopt good h = tt
  fits S by (WritePid path) good h = tt
  fits S by (MovePid from to) good h = tt
  fits S by (RemovePid path) good h = tt
  fits S by (Alive im) good h = other-image im good.1
  fits S by Leave good h = tt
  fits S by (Usr1 h' j) good h = tt
  fits S by (TermMaster im) good h = other-image im good.1
  fits S by (Ask question) good h = tt

  ---- Exits

  abbrev back : (S : Stance → Type 0) → S Exited → (es : List Name) (t : Table) → K S t → K S (after_exits es t)
  back S can es t h = exits-known q i n g k S can es t h

  -- who drains after the exits drained before
  drained : (es : List Name) (t : Table) → K Drains t → is_at Draining n g k (after_exits es t) ≡ true → is_at Draining n g k t ≡ true
  drained es t h on = go (is_at Draining n g k t) refl
    where
      go : (b : Bool) → is_at Draining n g k t ≡ b → b ≡ true
      go true e = refl
      go false e =
          absurd (let off = none-at q i n g k HasEnded Draining (draining-ended q i n g k) (after_exits es t) (back HasEnded tt es t (narrows q i n g k t h e)) in cc)

  state-exits : (es : List Name) (past : List Entry) (seen : Seen) (t : Table) → State past seen t → State past seen (after_exits es t)
  state-exits es past seen t (inl h) = inl (back Serves tt es t h.0, h.1)
  state-exits es past seen t (inr h) = inr (record {
    known = back Drains tt es t h.known;
    late = λ was on. h.late was (drained es t h.known on);
    wait = λ was on. h.wait was (drained es t h.known on);
  })

  ---- What is due

  -- a kill of its name meets it
  named-at : (stance : Stance) (h : Generation) (j : ℕ) (t : Table) → bears g k h j ≡ true → is_at stance n g k t ≡ true →
      list_any (is_worker_where (λ s. true) (λ m. m == n) (bears h j)) t.rows ≡ true
  named-at stance h j t on at_it = go t.rows at_it
    where
      row : (x : Process) → at stance n g k x ≡ true → is_worker_where (λ s. true) (λ m. m == n) (bears h j) x ≡ true
      row (Master m par im live hs) e = absurd (cc)
      row (Worker m par h' j' s hs) e =
          let its = bears-is g k h j on in
          let mine = bears-is g k h' j' (and-right (m == n) _ (and-right (same_stance stance s) _ e)) in
          let named : bears h j h' j' ≡ true =
          subst (λ z. bears h j z j' ≡ true) (its.0 ∙ sym mine.0) (subst (λ z. bears h j h z ≡ true) (its.1 ∙ sym mine.1) (bears-refl h j)) in
          both-true (m == n) (bears h j h' j') (and-left (m == n) _ (and-right (same_stance stance s) _ e)) named
      row (Foreign m hs) e = absurd (cc)

      go : (rows : List Process) → list_any (at stance n g k) rows ≡ true →
          list_any (is_worker_where (λ s. true) (λ m. m == n) (bears h j)) rows ≡ true
      go [] e = e
      go (x ∷ xs) e = here (at stance n g k x) refl e (go xs)
        where
          here : (b : Bool) → at stance n g k x ≡ b → (b || list_any (at stance n g k) xs) ≡ true →
              (list_any (at stance n g k) xs ≡ true →
              list_any (is_worker_where (λ s. true) (λ m. m == n) (bears h j)) xs ≡ true) →
              (is_worker_where (λ s. true) (λ m. m == n) (bears h j) x ||
              list_any (is_worker_where (λ s. true) (λ m. m == n) (bears h j)) xs) ≡ true
          here true is e ih = or-left _ _ (row x is)
          here false is e ih = or-right (is_worker_where (λ s. true) (λ m. m == n) (bears h j) x) _ (ih e)

  -- so it was late before
  kill-late : (stance : Stance) (past : List Entry) (h : Generation) (j : ℕ) (t : Table) → IsKillDue first past (Kill h j) t →
      bears g k h j ≡ true → is_at stance n g k t ≡ true → was_late g k past ≡ true
  kill-late stance past h j t due on at_it =
      let its = bears-is g k h j on in
      let was = due n k there (named-at stance h j t on at_it) in
      subst (λ z. was_late z k past ≡ true) its.0 (subst (λ z. was_late h z past ≡ true) its.1 (at-number j (λ z. z) was))
    where
      at-number : (j : ℕ) → (ℕ → ℕ) → was_late h j past ≡ true → was_late h j past ≡ true
      at-number j f e = e

  abbrev LeaveDue : List Entry → Call → Type 0
  LeaveDue past call = is_leave_call call ≡ true → was_waited_for g k past ≡ true

  ---- A call is gentle

  module _ (by : ℕ) (fate : Option Fate) (t : Table) (past : List Entry) (seen : Seen) where
    abbrev after : Call → Table
    after call = (step_with handed by call fate t).table

    abbrev entry : Call → Entry
    entry call = record { by = by; call = call; answer = (step_with handed by call fate t).answer }

    -- the end of another master leaves it
    other-ends : (S : Stance → Type 0) (stance : Stance) (im : ℕ) → Good by (TermMaster im) → K S t →
        is_at stance n g k t ≡ true → is_at stance n g k (after (TermMaster im)) ≡ true
    other-ends S stance im good h on = go (Rattle.definitions.specs.Table.live_master by t.rows) h
      where
        go : (o : Option Rattle.definitions.specs.Table.Caller) → K S t →
            is_at stance n g k (Rattle.definitions.specs.Calls.step_by handed by o (TermMaster im) fate t).table ≡ true
        go None h = on
        go (Some c) (inl here) =
            subst (λ (st : Stepped). is_at stance n g k st.table ≡ true)
            (sym (Rattle.call_laws.proofs.Cases.unfailing handed by c (TermMaster im) fate t tt))
            (kept-at q i n g k S im (other-image im good.1) stance t here on)
        go (Some c) (inr gone) = absurd (let off = none-at q i n g k (λ s. ⊥) stance (λ s e o. o) t (inr gone) in cc)

    serving-gentle : (call : Call) → Good by call → IsKillDue first past call t → LeaveDue past call → K Serves t →
        Told past ≡ false → IsGentle i n g k seen (entry call) t (after call)
    serving-gentle call good due leave h untold = (
      λ on off. quits call good due leave on off (go call (takes_ready g k call) refl on off),
      λ on off. absurd (let none = none-at q i n g k Serves Draining (draining-serves q i n g k) t h in cc),
    )
      where
        go : (call : Call) (b : Bool) → takes_ready g k call ≡ b → is_at Ready n g k t ≡ true →
            is_at Ready n g k (after call) ≡ false → b ≡ true
        go call true e on off = refl
        go call false e on off = absurd (let kept = (by-name handed by call fate t).0 n g k on e in cc)

        told : (was : was_late g k past ≡ true) → ⊥
        told was = let on = told-before (λ e. is_quit (bears g k) e.call) (λ e. is_wait (bears g k) e.call && is_late e.answer) past was in cc

        awaited : (was : was_waited_for g k past ≡ true) → ⊥
        awaited was = let on = told-before (λ e. is_quit (bears g k) e.call) (λ e. is_wait (bears g k) e.call) past was in cc

        quits : (call : Call) → Good by call → IsKillDue first past call t → LeaveDue past call → is_at Ready n g k t ≡ true →
            is_at Ready n g k (after call) ≡ false → takes_ready g k call ≡ true →
            (is_by i (is_quit (bears g k)) (entry call) ≡ true) × (is_at Draining n g k (after call) ≡ true)
        quits (Quit h' j) good due leave on off takes =
            let mine = quit-by by (Quit h' j) good takes in (
              both-true (by == i) (bears g k h' j) (eqb-refl by i mine) takes,
              drains h mine,
            )
          where
            drains : K Serves t → by ≡ i → is_at Draining n g k (after (Quit h' j)) ≡ true
            drains (inl here) mine =
                subst (λ z. is_at Draining n g k (step_with handed z (Quit h' j) fate t).table ≡ true) (sym mine)
                ((quit-turns q i n g k h' j takes handed fate t here).1 on)
            drains (inr gone) mine = absurd (let none = none-at q i n g k (λ s. ⊥) Ready (λ s e o. o) t (inr gone) in cc)
        quits (Kill h' j) good due leave on off takes = absurd (told (kill-late Ready past h' j t due takes on))
        quits Leave good due leave on off takes = absurd (awaited (leave refl))
        quits (TermMaster im) good due leave on off takes = absurd (let kept = other-ends Serves Ready im good h on in cc)
        quits call good due leave on off takes = absurd (cc)

    finishing-gentle : (call : Call) → Good by call → IsKillDue first past call t → LeaveDue past call →
        Finishes past seen t → IsGentle i n g k seen (entry call) t (after call)
    finishing-gentle call good due leave h = (
      λ on off. absurd (let none = none-at q i n g k Drains Ready (ready-drains q i n g k) t h.known in cc),
      λ on off. ends call good due leave on off (go call (takes_draining g k call) refl on off),
    )
      where
        go : (call : Call) (b : Bool) → takes_draining g k call ≡ b → is_at Draining n g k t ≡ true →
            is_at Draining n g k (after call) ≡ false → b ≡ true
        go call true e on off = refl
        go call false e on off = absurd (let kept = (by-name handed by call fate t).1 n g k on e in cc)

        ends : (call : Call) → Good by call → IsKillDue first past call t → LeaveDue past call → is_at Draining n g k t ≡ true →
            is_at Draining n g k (after call) ≡ false → takes_draining g k call ≡ true →
            ends_gently i g k seen (entry call) ≡ true
        ends (AwaitGone h' j) good due leave on off takes =
            or-left (is_by i (is_wait (bears g k)) (entry (AwaitGone h' j))) _
            (both-true (by == i) (bears g k h' j) (eqb-refl by i (wait-by by (AwaitGone h' j) good takes)) takes)
        ends (Kill h' j) good due leave on off takes =
            let mine = good.0 ∙ ap (λ (z : Generation). z.image) (bears-is g k h' j takes).0 in
            let was = h.late (kill-late Draining past h' j t due takes on) on in
            or-right (is_by i (is_wait (bears g k)) (entry (Kill h' j))) _
            (or-left (is_by i (is_kill (bears g k)) (entry (Kill h' j)) && seen.late) _
            (both-true (is_by i (is_kill (bears g k)) (entry (Kill h' j))) seen.late
            (both-true (by == i) (bears g k h' j) (eqb-refl by i mine) takes) was))
        ends Leave good due leave on off takes =
            or-right (is_by i (is_wait (bears g k)) (entry Leave)) _
            (or-right (is_by i (is_kill (bears g k)) (entry Leave) && seen.late) _
            (both-true (is_by i is_leave_call (entry Leave)) seen.wait
            (both-true (by == i) true (eqb-refl by i good) refl) (h.wait (leave refl) on)))
        ends (TermMaster im) good due leave on off takes = absurd (let kept = other-ends Drains Draining im good h.known on in cc)
        ends call good due leave on off takes = absurd (cc)

    ---- And what is known after it

    abbrev seen' : Call → Seen
    seen' call = seen_after i g k (is_at Draining n g k t) (entry call) seen

    -- who drains after the call drained before
    drained-call : (call : Call) → Good by call → K Drains t → is_at Draining n g k (after call) ≡ true →
        is_at Draining n g k t ≡ true
    drained-call call good h on = go (is_at Draining n g k t) refl
      where
        go : (b : Bool) → is_at Draining n g k t ≡ b → b ≡ true
        go true e = refl
        go false e =
            absurd (let off =
            none-at q i n g k HasEnded Draining (draining-ended q i n g k) (after call)
            (step-known q i n g k HasEnded tt (λ x. x) handed by call fate t (fits HasEnded by call good (inr (λ x. x)))
            (narrows q i n g k t h e)) in cc)

    finishing-next : (call : Call) → Good by call → Finishes past seen t → Finishes (past ++ entry call ∷ []) (seen' call) (after call)
    finishing-next call good h = record {
      known = step-known q i n g k Drains tt (λ x. x) handed by call fate t (fits Drains by call good (inr (λ x. x))) h.known;
      late = λ was on.
          let before = drained-call call good h.known on in
          ⊎_elim (λ old. or-left seen.late _ (h.late old before))
          (λ now. or-right seen.late _
          (both-true (is_at Draining n g k t && is_by i (is_wait (bears g k)) (entry call)) (is_late (entry call).answer)
          (both-true (is_at Draining n g k t) (is_by i (is_wait (bears g k)) (entry call)) before
          (waits (and-left (is_wait (bears g k) call) _ now.1))) (and-right (is_wait (bears g k) call) _ now.1)))
          (then-split (λ e. is_quit (bears g k) e.call) (λ e. is_wait (bears g k) e.call && is_late e.answer) past (entry call) was);
      wait = λ was on.
          let before = drained-call call good h.known on in
          ⊎_elim (λ old. or-left seen.wait _ (h.wait old before))
          (λ now. or-right seen.wait _
          (both-true (is_at Draining n g k t) (is_by i (is_wait (bears g k)) (entry call)) before (waits now.1)))
          (then-split (λ e. is_quit (bears g k) e.call) (λ e. is_wait (bears g k) e.call) past (entry call) was);
    }
      where
        waits : is_wait (bears g k) call ≡ true → is_by i (is_wait (bears g k)) (entry call) ≡ true
        waits is = both-true (by == i) (is_wait (bears g k) call) (eqb-refl by i (wait-by by call good is)) is

    -- the first quit of its name
    told-next : (call : Call) → Good by call → is_quit (bears g k) call ≡ true → K Serves t → Told past ≡ false →
        Finishes (past ++ entry call ∷ []) (seen' call) (after call)
    told-next (Quit h' j) good is h untold = record {
      known = turns h (quit-by by (Quit h' j) good is);
      late = λ was on. absurd (never (λ e. is_wait (bears g k) e.call && is_late e.answer) refl was);
      wait = λ was on. absurd (never (λ e. is_wait (bears g k) e.call) refl was);
    }
      where
        turns : K Serves t → by ≡ i → K Drains (after (Quit h' j))
        turns (inl here) mine =
            subst (λ z. K Drains (step_with handed z (Quit h' j) fate t).table) (sym mine)
            ((quit-turns q i n g k h' j is handed fate t here).0)
        turns (inr gone) mine = inr (Rattle.run_laws.proofs.Absent.absent-steps n handed by (Quit h' j) fate t gone)

        never : (second : Entry → Bool) → second (entry (Quit h' j)) ≡ false →
            one_then (λ e. is_quit (bears g k) e.call) second (past ++ entry (Quit h' j) ∷ []) ≡ true → ⊥
        never second off was =
            ⊎_elim (λ old. let on = told-before (λ e. is_quit (bears g k) e.call) second past old in cc) (λ now. let on = now.0 in cc)
            (then-split (λ e. is_quit (bears g k) e.call) second past (entry (Quit h' j)) was)
    told-next call good is h untold = absurd (cc)

    state-next : (call : Call) → Good by call → State past seen t → State (past ++ entry call ∷ []) (seen' call) (after call)
    state-next call good (inr h) = inr (finishing-next call good h)
    state-next call good (inl h) = go (is_quit (bears g k) call) refl
      where
        go : (b : Bool) → is_quit (bears g k) call ≡ b → State (past ++ entry call ∷ []) (seen' call) (after call)
        go true is = inr (told-next call good is h.0 h.1)
        go false is = inl (
          step-known q i n g k Serves tt (λ x. x) handed by call fate t (fits Serves by call good (inl is)) h.0,
          none-more (λ e. is_quit (bears g k) e.call) past (entry call) h.1 is,
        )

    gentle : (call : Call) → Good by call → IsKillDue first past call t → LeaveDue past call → State past seen t →
        IsGentle i n g k seen (entry call) t (after call)
    gentle call good due leave (inl h) = serving-gentle call good due leave h.0 h.1
    gentle call good due leave (inr h) = finishing-gentle call good due leave h

  ---- Along a run

  -- each leave is due
  abbrev pub LeavesDue : List Entry → List Entry → Type 0
  LeavesDue past [] = ⊤
  LeavesDue past (e ∷ entries) = LeaveDue past e.call × LeavesDue (past ++ e ∷ []) entries

  module _ (pattern : Pattern) where
    abbrev InPeace : List Entry → Seen → Ran → Type 0
    InPeace past seen ran =
        KillsAreDue first past ran.entries ran.passed → LeavesDue past ran.entries →
        EndsInPeace i n g k seen ran.entries ran.passed

    mutual
      pub peace-tree : (tree : Tree) (p : Progress) (past : List Entry) (seen : Seen) → All r wanted addresses tree →
          State past seen p.table → InPeace past seen (run_with handed tree pattern p)
      peace-tree (Ends e) p past seen right h kills leaves = tt
      peace-tree (Does by order set bs) p past seen right h kills leaves =
          let moment = pattern (p.calls + 1) in
          let middle = after_moment moment.exits p in
          let call = call_of order (lacked_by by middle.lacked) in
          let s = answered handed by order moment.fate middle in
          let next = after_call by order set s middle in
          let good = right.0 (lacked_by by middle.lacked) in
          let now = state-exits moment.exits past seen p.table h in (
            head-behind handed pattern (λ t. IsGentle i n g k seen (record { by = by; call = call; answer = s.answer }) middle.table t) bs
                (reply_of set s.answer) next (gentle by moment.fate middle.table past seen call good kills.0 leaves.0 now),
            peace-behind bs (reply_of set s.answer) next (past ++ record { by = by; call = call; answer = s.answer } ∷ [])
                (seen_after i g k (is_at Draining n g k middle.table) (record { by = by; call = call; answer = s.answer }) seen)
                right.1 (state-next by moment.fate middle.table past seen call good now) kills.1 leaves.1,
          )

      peace-behind : (bs : Branches) (reply : Reply) (p : Progress) (past : List Entry) (seen : Seen) →
          NodesAll (Right r wanted addresses) (Any r wanted addresses) bs → State past seen p.table →
          InPeace past seen (goes_with handed bs reply pattern p)
      peace-behind Nothing reply p past seen right h kills leaves = tt
      peace-behind (Branch replies said rest more) reply p past seen right h kills leaves =
          elim (among replies reply) as
          (λ b. InPeace past seen (elim b as (λ c. Ran) [
            | true ↦ run_with handed rest pattern (noted said p)
            | false ↦ goes_with handed more reply pattern p
          ])) [
            | true ↦ peace-tree rest (noted said p) past seen right.0 h
            | false ↦ peace-behind more reply p past seen right.1 h
          ] kills leaves

  ---- Leaves

  awaited-on : (past entries : List Entry) → was_waited_for g k past ≡ true → LeavesDue past entries
  awaited-on past [] h = tt
  awaited-on past (e ∷ entries) h = (
    (λ is. h),
    awaited-on (past ++ e ∷ []) entries
        (then-more (λ e. is_quit (bears g k) e.call) (λ e. is_wait (bears g k) e.call) past e h),
  )

  abbrev After : List Entry → Option (List Entry) → Type 0
  After past None = ⊤
  After past (Some front) = was_waited_for g k (past ++ front) ≡ true

  leaves-due : (past entries : List Entry) → After past (before_leave entries) → LeavesDue past entries
  leaves-due past [] h = tt
  leaves-due past (e ∷ entries) h = go (is_leave_call e.call) refl (before_leave entries) refl h (leaves-due (past ++ e ∷ []) entries)
    where
      go : (b : Bool) → is_leave_call e.call ≡ b → (o : Option (List Entry)) → before_leave entries ≡ o →
          After past (if b then Some [] else option_map (λ before. e ∷ before) o) →
          (After (past ++ e ∷ []) (before_leave entries) → LeavesDue (past ++ e ∷ []) entries) →
          LeaveDue past e.call × LeavesDue (past ++ e ∷ []) entries
      go true is o so h ih =
          let was = subst (λ l. was_waited_for g k l ≡ true) (append-nil past) h in awaited-on past (e ∷ entries) was
      go false is None so h ih = ((λ on. absurd (cc)), ih (subst (After (past ++ e ∷ [])) (sym so) tt))
      go false is (Some front) so h ih = (
        (λ on. absurd (cc)),
        ih (subst (After (past ++ e ∷ [])) (sym so)
            (subst (λ l. was_waited_for g k l ≡ true) (sym (append_assoc past (e ∷ []) front)) h)),
      )

  pub last-due : (ran : Ran) → is_in r.ready k ≡ true → LeavesLast r ran → LeavesDue [] ran.entries
  last-due ran is h = leaves-due [] ran.entries (go (before_leave ran.entries) h)
    where
      go : (o : Option (List Entry)) →
          IfSome o (λ before. AllByRecursion (λ j. was_waited_for g j before ≡ true) r.ready) → After [] o
      go None h = tt
      go (Some front) h = every-is_in (λ j. was_waited_for g j front ≡ true) r.ready h k is

  -- where nobody leaves, none is due
  module _ (pattern : Pattern) where
    mutual
      pub stays-tree : (tree : Tree) (p : Progress) (past : List Entry) → Nodes Stays Whatever tree →
          LeavesDue past (run_with handed tree pattern p).entries
      stays-tree (Ends e) p past h = tt
      stays-tree (Does by order set bs) p past h =
          let moment = pattern (p.calls + 1) in
          let middle = after_moment moment.exits p in
          let s = answered handed by order moment.fate middle in
          let off = h.0 (lacked_by by middle.lacked) in (
            (λ on. absurd (cc)),
            stays-behind bs (reply_of set s.answer) (after_call by order set s middle)
                (past ++ record { by = by; call = call_of order (lacked_by by middle.lacked); answer = s.answer } ∷ []) h.1,
          )

      stays-behind : (bs : Branches) (reply : Reply) (p : Progress) (past : List Entry) → NodesAll Stays Whatever bs →
          LeavesDue past (goes_with handed bs reply pattern p).entries
      stays-behind Nothing reply p past h = tt
      stays-behind (Branch replies said rest more) reply p past h =
          elim (among replies reply) as
          (λ b. LeavesDue past (elim b as (λ c. Ran) [
            | true ↦ run_with handed rest pattern (noted said p)
            | false ↦ goes_with handed more reply pattern p
          ]).entries) [
            | true ↦ stays-tree rest (noted said p) past h.0
            | false ↦ stays-behind more reply p past h.1
          ]

---- From a start

module _ (t : Table) (r : Record) (s : IsStart t r) (n k : ℕ) (on : has_ready t n k ≡ true) where
  abbrev m : ℕ
  m = r.pid

  abbrev image : ℕ
  image = r.generation.image

  served : (s' : Stance) → IsUntouched m image n r.generation k (first-low t r s n k on) s' → Serves s'
  served Starting h = h
  served Ready h = h
  served Draining h = h
  served Exited h = h

  first-ours : (x : Process) →
      OnlyOurs m image n r.generation k (first-low t r s n k on) (IsUntouched m image n r.generation k (first-low t r s n k on)) x →
      Ours m image n r.generation k Serves x
  first-ours (Master j par im live hs) h = h
  first-ours (Worker j par h' x st hs) h = λ is. let o = h is in (o.0, o.1, o.2, served st o.3)
  first-ours (Foreign j hs) h = h

  first-images : (x : Process) → IsOf m image x → Images m image n r.generation k x
  first-images (Master j par im live hs) h =
      ⊎_elim (λ o. ((λ e. o.0), (λ e. o.1))) (λ o. ((λ e. absurd (o.1 e)), (λ e. absurd (o.0 e)))) h
  first-images (Worker j par h' x st hs) h = tt
  first-images (Foreign j hs) h = tt

  first-lives : (rows : List Process) → AllByRecursion (IsOf m image) rows → 1 ≤ weigh (master_at m) rows →
      list_any (is_it m image n r.generation k) rows ≡ true
  first-lives [] all some = absurd (omega arith)
  first-lives (Master j par im live hs ∷ rows) all some =
      ⊎_elim (λ o. or-left (live && (j == m)) _ (both-true live (j == m) o.2 (eqb-refl j m o.0)))
      (λ o. or-right (live && (j == m)) _ (first-lives rows all.1 (omega (arith, some, ap one (eqb-off j m o.0))))) all.0
  first-lives (Worker j par h' x st hs ∷ rows) all some = first-lives rows all.1 (omega (arith, some))
  first-lives (Foreign j hs ∷ rows) all some = first-lives rows all.1 (omega (arith, some))

  first-known : Knows m image n r.generation k Serves t
  first-known =
      let fact = first-untouched t r s n k on in
      let its = first-one t r s n k on in
      inl (record {
        rows = record {
          ours = every-more (OnlyOurs m image n r.generation k (first-low t r s n k on) (IsUntouched m image n r.generation k (first-low t r s n k on))) (Ours m image n r.generation k Serves) first-ours t.rows fact.all;
          images = every-more (IsOf m image) (Images m image n r.generation k) first-images t.rows its.all;
          lives = first-lives t.rows its.all its.some;
        };
        below = fact.below;
        above = fact.above;
      })

abbrev unseen : Seen
unseen = record { wait = false; late = false }

-- where each kill and each leave is due
module _ (t : Table) (r : Record) (target : Target) (turns : List Turn) (pattern : Pattern) (s : IsStart t r) where
  abbrev ran : Ran
  ran = run_of r target turns pattern t

  abbrev w : Generation
  w = generation_wanted r target

  abbrev A : List Address
  A = addresses_wanted r target

  in-peace : KillsAreDue t [] ran.entries ran.passed →
      ((n k : ℕ) (on : has_ready t n k ≡ true) → LeavesDue r w A (handover_for r target) t n k on [] ran.entries) → AllEndInPeace r t ran
  in-peace kills leaves n k on =
      peace-tree r w A (handover_for r target) t n k on pattern (plan_tree r target turns) (start_at t r.note) [] unseen
      (plan-proper r target turns) (inl (first-known t r s n k on, refl)) kills (leaves n k on)

  -- in peace too where nobody leaves, or where all were waited for
  staying : KillsAreDue t [] ran.entries ran.passed → NobodyLeaves (plan_tree r target turns) → AllEndInPeace r t ran
  staying kills stays =
      in-peace kills (λ n k on. stays-tree r w A (handover_for r target) t n k on pattern (plan_tree r target turns) (start_at t r.note) [] stays)

  leaving : KillsAreDue t [] ran.entries ran.passed → LeavesLast r ran → AllEndInPeace r t ran
  leaving kills last = in-peace kills (λ n k on. last-due r w A (handover_for r target) t n k on ran (first-in t r s n k on) last)

-- A run from a start that keeps the promise keeps the peace.
pub peace-of-kept :
    (t : Table) (r : Record) (target : Target) (turns : List Turn) (pattern : Pattern) → IsStart t r →
    KeepsPromise t r target (run_of r target turns pattern t) → KeepsPeace r target t (run_of r target turns pattern t)
peace-of-kept t r (Workers n) turns pattern s kept = staying t r (Workers n) turns pattern s kept.manner.1 (workers-stay r n turns)
peace-of-kept t r (Mend overdue) turns pattern s kept = tt
peace-of-kept t r Reopen turns pattern s kept = staying t r Reopen turns pattern s kept.manner.2 (reopen-stays r turns)
peace-of-kept t r (Reload new) turns pattern s kept = staying t r (Reload new) turns pattern s kept.manner.1 (reload-stays r new turns)
peace-of-kept t r (Upgrade new) turns pattern s kept = leaving t r (Upgrade new) turns pattern s kept.manner.1 kept.manner.2
peace-of-kept t r (Attended new) turns pattern s kept = leaving t r (Attended new) turns pattern s kept.manner.1 kept.manner.2
peace-of-kept t r (Stop false) turns pattern s kept = leaving t r (Stop false) turns pattern s kept.manner.0 kept.manner.1
peace-of-kept t r (Stop true) turns pattern s kept = tt

pub workers-end-in-peace : WorkersEndInPeace
workers-end-in-peace t r target turns pattern accepted =
    peace-of-kept t r target turns pattern accepted.start (headline t r target turns pattern accepted)
