-- One quiet tick heals: where clean call is made to fail and nobody exits, and there is room for the processes, a mend forks
-- whoever is lacking, all become ready, and the first count is full.
use Rattle.std.proofs.Common.{◌≡◌, ℕ, zero, suc, ◌+◌, ◌<◌, ◌≤◌, Bool, true, false, not, List, [], ◌∷◌, ◌++◌, Option, Some, None, refl, sym, ap, ◌∙◌, subst, arith, length, ◌⊎◌, inl, inr, ⊎_elim}
use Rattle.std.specs.Option.{option_or}
use Rattle.std.specs.Bool.{then_some}
use Rattle.std.specs.Prelude.{filter, map, count_by, ◌&&◌, ◌||◌, ◌==◌, if◌then◌else◌}
use Rattle.std.specs.List.{list_any, filter_map, cons_option, AllByRecursion}
use Rattle.std.proofs.lemmas.Bool.Decides.{nat_tests}
use Rattle.listener_set.specs.Numbers.{numbers_below, is_in, lacks}
use Rattle.listener_set.specs.declared.generation.Generation.{Generation}
use Rattle.vocabulary.specs.declared.table.Stance.TheVariants.{Starting, Ready, Draining, Exited}
use Rattle.vocabulary.specs.declared.plans.Side.TheVariants as side
use Rattle.vocabulary.specs.declared.plans.Order.{Order}
use Rattle.vocabulary.specs.declared.calls.Reply.TheVariants as reply
use Rattle.vocabulary.specs.declared.calls.Reply.{Reply}
use Rattle.vocabulary.specs.declared.calls.Answer.TheVariants as answer
use Rattle.vocabulary.specs.declared.calls.Call.{Call}
use Rattle.vocabulary.specs.declared.calls.Call.TheVariants.{AwaitReady, Kill, Census}
use Rattle.definitions.specs.Table.{Hold, Process, Master, Worker, Foreign, Table, Caller, is_worker, is_active, is_own, live_master, same_generation, bears}
use Rattle.definitions.specs.Calls.{change, drop_where, shared, census_of, has_process_room, with_new_row, step_by, Stepped, gives, each_row}
use Rattle.definitions.specs.Master.{Crew, Record, Mend, IsRunning, crew_of, fork_of, fds_of, sides_of}
use Rattle.definitions.specs.Run.{same_reply, Tree, Branches, Ends, Does, Make, Nothing, Done, At, Pattern, Progress, Outcome, outcome_of, reply_of, run_with, goes_with, after_moment, after_call, start_at}
use Rattle.definitions.specs.Plans.{plan_tree, tells, settle, forks_any, awaits_any, then_edge, await_any_edges, on, round, short_end, failed_replies}
use Rattle.definitions.specs.Claims.{Says, refused_among}
use Rattle.vocabulary.specs.declared.reports.Entry.{Entry}
use Rattle.vocabulary.specs.declared.table.Limits.{Limits}
use Rattle.call_laws.specs.Pieces.{quiet, answered, is_any, is_ready, is_starting, made_ready, caller_if, killed, counted, full_or_short, lacked_last}
use Rattle.call_laws.proofs.Choices.{and-right}
use Rattle.table_laws.proofs.Views.{eqb-refl, eqb-is, eqb-off}
use Rattle.table_laws.proofs.Begins.{none-lack}
use Rattle.table_laws.proofs.Counts.{Distinct, filter-distinct, census-in}
use Rattle.table_laws.proofs.Sets.{in-here, in-there, in-cases, in-filter-of, in-filter-on, below-of, below-distinct}
use Rattle.table_laws.proofs.Small.{true-false, not-is, off-from}
use Rattle.kernel_table.proofs.Leaving.{dropped-count}
use Rattle.kernel_model.proofs.CallSteps.{count-append}
use Rattle.theorems.proofs.Promise.{headline}
use Rattle.lives.specs.Lives.{quiet_tick, to_start, HasProcessesFor, CanBeHealed, IsStanding, run_at}

abbrev no_fault : Pattern
no_fault n = quiet

---- What a call makes of rows

-- the workers of a name, in the master's eyes
abbrev active : ℕ → Generation → ℕ → List Process → Bool
active m g k rows = list_any (is_worker is_active m g k) rows

abbrev ready : ℕ → Generation → ℕ → List Process → Bool
ready m g k rows = list_any (is_worker is_ready m g k) rows

-- what a row becomes passes a test
abbrev pub passes : (Process → Bool) → Option Process → Bool
passes test None = false
passes test (Some p) = test p

or-both : (a b c d : Bool) → (a ≡ true → c ≡ true) → (b ≡ true → d ≡ true) → (a || b) ≡ true → (c || d) ≡ true
or-both true b c d f h e = rw (f refl) refl
or-both false b true d f h e = refl
or-both false b false d f h e = h e

any-cons : (test : Process → Bool) (o : Option Process) (ps : List Process) → list_any test (cons_option o ps) ≡ (passes test o || list_any test ps)
any-cons test None ps = refl
any-cons test (Some p) ps = refl

-- who passes still does
pub any-kept :
    (test : Process → Bool) (f : Process → Option Process) → ((p : Process) → test p ≡ true → passes test (f p) ≡ true) →
    (ps : List Process) → list_any test ps ≡ true → list_any test (filter_map f ps) ≡ true
any-kept test f up [] e = e
any-kept test f up (p ∷ ps) e =
    any-cons test (f p) (filter_map f ps) ∙
    or-both (test p) (list_any test ps) (passes test (f p)) (list_any test (filter_map f ps)) (up p) (any-kept test f up ps) e

-- where nobody passed, nobody does
any-off :
    (test was : Process → Bool) (f : Process → Option Process) → ((p : Process) → passes test (f p) ≡ true → was p ≡ true) →
    (ps : List Process) → list_any was ps ≡ false → list_any test (filter_map f ps) ≡ false
any-off test was f up [] e = refl
any-off test was f up (p ∷ ps) e = any-cons test (f p) (filter_map f ps) ∙ go (was p) (passes test (f p)) (up p) e (any-off test was f up ps)
  where
    go :
        (a b : Bool) → (b ≡ true → a ≡ true) → (a || list_any was ps) ≡ false →
        (list_any was ps ≡ false → list_any test (filter_map f ps) ≡ false) → (b || list_any test (filter_map f ps)) ≡ false
    go true b h e ih = absurd (cc)
    go false true h e ih = absurd (let z = h refl in cc)
    go false false h e ih = ih e

any-append : (test : Process → Bool) (ps : List Process) (p : Process) → list_any test (ps ++ p ∷ []) ≡ (list_any test ps || test p)
any-append test [] p = go (test p)
  where
    go : (b : Bool) → (b || false) ≡ b
    go true = refl
    go false = refl
any-append test (x ∷ ps) p = ap (λ b. test x || b) (any-append test ps p) ∙ go (test x) (list_any test ps) (test p)
  where
    go : (a b c : Bool) → (a || (b || c)) ≡ ((a || b) || c)
    go true b c = refl
    go false b c = refl

or-on-left : (a b : Bool) → a ≡ true → (a || b) ≡ true
or-on-left true b e = refl
or-on-left false b e = absurd (cc)

or-on-right : (a b : Bool) → b ≡ true → (a || b) ≡ true
or-on-right true b e = refl
or-on-right false b e = e

or-off : (a b : Bool) → a ≡ false → b ≡ false → (a || b) ≡ false
or-off true b e f = absurd (cc)
or-off false b e f = f

---- The caller stays

live-dropped :
    (image m : ℕ) (g : Generation) (x : ℕ) (rows : List Process) →
    live_master image (filter_map (drop_where (is_worker is_any m g x)) rows) ≡ live_master image rows
live-dropped image m g x [] = refl
live-dropped image m g x (Master n q i live hs ∷ rows) = ap (caller_if (live && (i == image)) n hs) (live-dropped image m g x rows)
live-dropped image m g x (Worker n q h k s hs ∷ rows) = go (is_worker is_any m g x (Worker n q h k s hs)) (live-dropped image m g x rows)
  where
    go :
        (b : Bool) → live_master image (filter_map (drop_where (is_worker is_any m g x)) rows) ≡ live_master image rows →
        live_master image (cons_option (if b then None else Some (Worker n q h k s hs)) (filter_map (drop_where (is_worker is_any m g x)) rows)) ≡ live_master image rows
    go true ih = ih
    go false ih = ih
live-dropped image m g x (Foreign n hs ∷ rows) = live-dropped image m g x rows

live-readied :
    (image m : ℕ) (g : Generation) (x : ℕ) (rows : List Process) →
    live_master image (filter_map (change (is_worker is_starting m g x) made_ready) rows) ≡ live_master image rows
live-readied image m g x [] = refl
live-readied image m g x (Master n q i live hs ∷ rows) = ap (caller_if (live && (i == image)) n hs) (live-readied image m g x rows)
live-readied image m g x (Worker n q h k s hs ∷ rows) = go (is_worker is_starting m g x (Worker n q h k s hs)) (live-readied image m g x rows)
  where
    go :
        (b : Bool) → live_master image (filter_map (change (is_worker is_starting m g x) made_ready) rows) ≡ live_master image rows →
        live_master image ((if b then made_ready (Worker n q h k s hs) else Worker n q h k s hs) ∷ filter_map (change (is_worker is_starting m g x) made_ready) rows) ≡ live_master image rows
    go true ih = ih
    go false ih = ih
live-readied image m g x (Foreign n hs ∷ rows) = live-readied image m g x rows

pub live-append : (image : ℕ) (c : Caller) (rows : List Process) (p : Process) → live_master image rows ≡ Some c → live_master image (rows ++ p ∷ []) ≡ Some c
live-append image c [] p e = absurd (cc)
live-append image c (Master n q i live hs ∷ rows) p e = go (live && (i == image)) e (live-append image c rows p)
  where
    go :
        (b : Bool) → caller_if b n hs (live_master image rows) ≡ Some c →
        (live_master image rows ≡ Some c → live_master image (rows ++ p ∷ []) ≡ Some c) →
        caller_if b n hs (live_master image (rows ++ p ∷ [])) ≡ Some c
    go true e ih = e
    go false e ih = ih e
live-append image c (Worker n q g k s hs ∷ rows) p e = live-append image c rows p e
live-append image c (Foreign n hs ∷ rows) p e = live-append image c rows p e

---- A worker that becomes ready, and one that is killed

-- another name's worker, or the same one in another stance
kill-passes :
    (stance : Process → Bool) (drop : Process → Bool) (p : Process) → (stance p ≡ true → drop p ≡ false) → stance p ≡ true →
    passes stance (drop_where drop p) ≡ true
kill-passes stance drop p off e = go (drop p) (off e)
  where
    go : (b : Bool) → b ≡ false → passes stance (if b then None else Some p) ≡ true
    go true f = absurd (cc)
    go false f = e

-- a name is clean other's
other-name : (m : ℕ) (g : Generation) (x k : ℕ) (p : Process) → (x == k) ≡ false → is_worker is_ready m g k p ≡ true → is_worker is_any m g x p ≡ false
other-name m g x k (Master n q i live hs) off e = refl
other-name m g x k (Foreign n hs) off e = refl
other-name m g x k (Worker n q h j s hs) off e = go (q == m) (same_generation h g) (j == x) refl
  where
    j_is : (j == k) ≡ true
    j_is = and-right (same_generation h g) (j == k) (and-right (q == m) _ (and-right (is_ready s) _ e))

    go : (a b c : Bool) → (j == x) ≡ c → (a && (b && c)) ≡ false
    go true true true is = let one = eqb-is j x is in let two = eqb-is j k j_is in absurd (let same = eqb-refl x k (sym one ∙ two) in cc)
    go true true false is = refl
    go true false c is = refl
    go false b c is = refl

-- nobody of the name is left
killed-off : (m : ℕ) (g : Generation) (x : ℕ) (rows : List Process) → active m g x (filter_map (drop_where (is_worker is_any m g x)) rows) ≡ false
killed-off m g x rows = any-off (is_worker is_active m g x) (λ p. false) (drop_where (is_worker is_any m g x)) gone rows (none rows)
  where
    none : (ps : List Process) → list_any (λ (p : Process). false) ps ≡ false
    none [] = refl
    none (p ∷ ps) = none ps

    gone : (p : Process) → passes (is_worker is_active m g x) (drop_where (is_worker is_any m g x) p) ≡ true → false ≡ true
    gone (Master n q i live hs) e = e
    gone (Foreign n hs) e = e
    gone (Worker n q h j s hs) e = go ((q == m) && bears g x h j) refl e
      where
        go :
            (b : Bool) → ((q == m) && bears g x h j) ≡ b →
            passes (is_worker is_active m g x) (if b then None else Some (Worker n q h j s hs)) ≡ true → false ≡ true
        go true is e = e
        go false is e = absurd (let on = and-right (is_active s) _ e in cc)

-- who was not there is not there then
off-dropped : (m : ℕ) (g : Generation) (x k : ℕ) (rows : List Process) → active m g k rows ≡ false → active m g k (filter_map (drop_where (is_worker is_any m g x)) rows) ≡ false
off-dropped m g x k rows e = any-off (is_worker is_active m g k) (is_worker is_active m g k) (drop_where (is_worker is_any m g x)) up rows e
  where
    up : (p : Process) → passes (is_worker is_active m g k) (drop_where (is_worker is_any m g x) p) ≡ true → is_worker is_active m g k p ≡ true
    up p e = go (is_worker is_any m g x p) e
      where
        go : (b : Bool) → passes (is_worker is_active m g k) (if b then None else Some p) ≡ true → is_worker is_active m g k p ≡ true
        go true e = absurd (cc)
        go false e = e

ready-dropped :
    (m : ℕ) (g : Generation) (x k : ℕ) (rows : List Process) → (x == k) ≡ false → ready m g k rows ≡ true →
    ready m g k (filter_map (drop_where (is_worker is_any m g x)) rows) ≡ true
ready-dropped m g x k rows off e =
    any-kept (is_worker is_ready m g k) (drop_where (is_worker is_any m g x))
    (λ p on. kill-passes (is_worker is_ready m g k) (is_worker is_any m g x) p (other-name m g x k p off) on) rows e

-- made ready, a worker passes each test that it passed as a Starting one
readied-active : (m : ℕ) (g : Generation) (x k : ℕ) (p : Process) → is_worker is_active m g k p ≡ true → passes (is_worker is_active m g k) (change (is_worker is_starting m g x) made_ready p) ≡ true
readied-active m g x k (Master n q i live hs) e = absurd (cc)
readied-active m g x k (Foreign n hs) e = absurd (cc)
readied-active m g x k (Worker n q h j s hs) e = go (is_worker is_starting m g x (Worker n q h j s hs))
  where
    go : (b : Bool) → is_worker is_active m g k (if b then made_ready (Worker n q h j s hs) else Worker n q h j s hs) ≡ true
    go true = and-right (is_active s) _ e
    go false = e

readied-ready : (m : ℕ) (g : Generation) (x k : ℕ) (p : Process) → is_worker is_ready m g k p ≡ true → passes (is_worker is_ready m g k) (change (is_worker is_starting m g x) made_ready p) ≡ true
readied-ready m g x k (Master n q i live hs) e = absurd (cc)
readied-ready m g x k (Foreign n hs) e = absurd (cc)
readied-ready m g x k (Worker n q h j s hs) e = go (is_worker is_starting m g x (Worker n q h j s hs))
  where
    go : (b : Bool) → is_worker is_ready m g k (if b then made_ready (Worker n q h j s hs) else Worker n q h j s hs) ≡ true
    go true = and-right (is_ready s) _ e
    go false = e

-- one that was Starting or Ready is Ready
made-ready-one : (m : ℕ) (g : Generation) (x : ℕ) (p : Process) → is_worker is_active m g x p ≡ true → passes (is_worker is_ready m g x) (change (is_worker is_starting m g x) made_ready p) ≡ true
made-ready-one m g x (Master n q i live hs) e = absurd (cc)
made-ready-one m g x (Foreign n hs) e = absurd (cc)
made-ready-one m g x (Worker n q h j Starting hs) e = go ((q == m) && bears g x h j) e
  where
    go : (b : Bool) → b ≡ true → is_worker is_ready m g x (if b then made_ready (Worker n q h j Starting hs) else Worker n q h j Starting hs) ≡ true
    go true f = e
    go false f = absurd (cc)
made-ready-one m g x (Worker n q h j Ready hs) e = e
made-ready-one m g x (Worker n q h j Draining hs) e = absurd (cc)
made-ready-one m g x (Worker n q h j Exited hs) e = absurd (cc)

any-ready-then : (m : ℕ) (g : Generation) (x : ℕ) (rows : List Process) → active m g x rows ≡ true → ready m g x (filter_map (change (is_worker is_starting m g x) made_ready) rows) ≡ true
any-ready-then m g x [] e = e
any-ready-then m g x (p ∷ rows) e =
    any-cons (is_worker is_ready m g x) (change (is_worker is_starting m g x) made_ready p) (filter_map (change (is_worker is_starting m g x) made_ready) rows) ∙
    or-both (is_worker is_active m g x p) (active m g x rows) _ _ (made-ready-one m g x p) (any-ready-then m g x rows) e

-- a new worker of a name
new-active : (n m : ℕ) (g : Generation) (x : ℕ) (hs : List Hold) → is_worker is_active m g x (Worker n m g x Starting hs) ≡ true
new-active n m g x hs = rw (eqb-refl m m refl, eqb-refl g.image g.image refl, eqb-refl g.config g.config refl, eqb-refl x x refl) refl

new-other : (n m : ℕ) (g : Generation) (x k : ℕ) (hs : List Hold) → (x == k) ≡ false → is_worker is_active m g k (Worker n m g x Starting hs) ≡ false
new-other n m g x k hs off = go (m == m) (same_generation g g) (x == k) off
  where
    go : (a b c : Bool) → c ≡ false → (a && (b && c)) ≡ false
    go true true c e = e
    go true false c e = refl
    go false b c e = refl

---- Steps under a pattern in which nothing happens

module _ (image : ℕ) (crew : Crew) (m : ℕ) (holds : List Hold) where
  abbrev c : Caller
  c = record { number = m; holds = holds }

  abbrev g : Generation
  g = crew.generation

  abbrev EndsWell : Tree → Progress → Type 0
  EndsWell tree p = let ran = run_with None tree no_fault p in (ran.ending ≡ At Done) × (ran.last.cause ≡ None)

  abbrev GoesWell : Branches → Reply → Progress → Type 0
  GoesWell bs r p = let ran = goes_with None bs r no_fault p in (ran.ending ≡ At Done) × (ran.last.cause ≡ None)

  abbrev Lives : Table → Type 0
  Lives t = live_master image t.rows ≡ Some c

  one-step :
      (order : Order) (set : List ℕ) (bs : Branches) (p : Progress) (s : Stepped) → answered None image order None (after_moment [] p) ≡ s →
      GoesWell bs (reply_of set s.answer) (after_call image order set s (after_moment [] p)) → EndsWell (Does image order set bs) p
  one-step order set bs p s e h =
      subst (λ (z : Stepped). GoesWell bs (reply_of set z.answer) (after_call image order set z (after_moment [] p))) (sym e) h

  calls : (call : Call) (t : Table) (s : Stepped) → Lives t → step_by None image (Some c) call None t ≡ s → step_by None image (live_master image t.rows) call None t ≡ s
  calls call t s lives e = ap (λ o. step_by None image o call None t) lives ∙ e

  -- what is known of a progress after a call, with the rows that it left
  record Left (p : Progress) (rows : List Process) (q : Progress) : Type 0 where
    rows_are : q.table.rows ≡ rows
    limits : q.table.limits ≡ p.table.limits
    cause : q.cause ≡ None

  kill-one :
      (x : ℕ) (rest : Tree) (p : Progress) → Lives p.table → p.cause ≡ None →
      ((q : Progress) → Left p (filter_map (drop_where (is_worker is_any m g x)) p.table.rows) q → EndsWell rest q) →
      EndsWell (tells image (Kill g x ∷ []) rest) p
  kill-one x rest p lives clean next_of =
      one-step (Make (Kill g x)) [] (then_edge rest) p (killed c g x p.table) (calls (Kill g x) p.table (killed c g x p.table) lives refl)
      (next_of _ (record { rows_are = refl; limits = refl; cause = ap (λ o. option_or o None) clean }))

  room-is : (t : Table) → count_by is_own t.rows < t.limits.processes → has_process_room t ≡ true
  room-is t lt = grind (arith, nat_tests)

  fork-is :
      (a b : Bool) (t : Table) (s : Stepped) → a ≡ false → b ≡ true →
      (let z : Stepped = if a then gives answer.Again t else (if b then s else gives answer.Again t) in z ≡ s)
  fork-is true b t s e f = absurd (cc)
  fork-is false true t s e f = refl
  fork-is false false t s e f = absurd (cc)

  fork-one :
      (x : ℕ) (rest : Tree) (p : Progress) → Lives p.table → p.cause ≡ None → active m g x p.table.rows ≡ false →
      count_by is_own p.table.rows < p.table.limits.processes →
      ((q : Progress) → Left p (p.table.rows ++ Worker p.table.next_process m g x Starting (shared (fds_of crew.posts x) holds) ∷ []) q → EndsWell rest q) →
      EndsWell (Does image (Make (fork_of crew x)) [] (on (reply.Forked ∷ reply.Again ∷ reply.NoMemory ∷ []) rest Nothing)) p
  fork-one x rest p lives clean off room next_of =
      let s = gives answer.Forked (with_new_row p.table (λ n. Worker n m g x Starting (shared (fds_of crew.posts x) holds))) in
      one-step (Make (fork_of crew x)) [] (on (reply.Forked ∷ reply.Again ∷ reply.NoMemory ∷ []) rest Nothing) p s
      (calls (fork_of crew x) p.table s lives (fork-is (active m g x p.table.rows) (has_process_room p.table) p.table s off (room-is p.table room)))
      (next_of _ (record { rows_are = refl; limits = refl; cause = ap (λ o. option_or o None) clean }))

  await-is : (a : Bool) (s z : Stepped) → a ≡ true → (let y : Stepped = if a then s else z in y ≡ s)
  await-is true s z e = refl
  await-is false s z e = absurd (cc)

  await-one :
      (x : ℕ) (rest late : Tree) (p : Progress) → Lives p.table → p.cause ≡ None → active m g x p.table.rows ≡ true →
      ((q : Progress) → Left p (filter_map (change (is_worker is_starting m g x) made_ready) p.table.rows) q → EndsWell rest q) →
      EndsWell (Does image (Make (AwaitReady g x)) [] (await_any_edges rest late)) p
  await-one x rest late p lives clean on_it next_of =
      let s = gives answer.IsReady (each_row (change (is_worker is_starting m g x) made_ready) p.table) in
      one-step (Make (AwaitReady g x)) [] (await_any_edges rest late) p s
      (calls (AwaitReady g x) p.table s lives (await-is (active m g x p.table.rows) s _ on_it))
      (next_of _ (record { rows_are = refl; limits = refl; cause = ap (λ o. option_or o None) clean }))

  count-one :
      (set : List ℕ) (more : Branches) (p : Progress) → Lives p.table → p.cause ≡ None →
      ((k : ℕ) → is_in set k ≡ true → (k < 1024) × (ready m g k p.table.rows ≡ true)) →
      EndsWell (Does image (Make (Census g)) set (on (reply.Full ∷ []) (Ends Done) more)) p
  count-one set more p lives clean all =
      let s = counted c g p.table in
      let ns = census_of m g p.table.rows in
      let bs = on (reply.Full ∷ []) (Ends Done) more in
      let middle = after_moment [] p in
      let none : lacks set ns ≡ [] = none-lack set ns (λ k e. let a = all k e in census-in m g p.table.rows k a.0 ∙ a.1) in
      let next_of : List ℕ → Progress = λ l. record (after_call image (Make (Census g)) set s middle) { cause = option_or p.cause (then_some (not (same_reply (full_or_short l) reply.Full)) (p.calls + 1)) } in
      one-step (Make (Census g)) set bs p s (calls (Census g) p.table s lives refl)
      (subst (λ l. GoesWell bs (full_or_short l) (next_of l)) (sym none) (refl, ap (λ o. option_or o None) clean))

  ---- The whole mend

  -- while some are still to be killed
  record Killing (missing kept xs : List ℕ) (t : Table) : Type 0 where
    lives : Lives t
    room : count_by is_own t.rows + length missing ≤ t.limits.processes
    free : (k : ℕ) → is_in missing k ≡ true → (is_in xs k ≡ true) ⊎ (active m g k t.rows ≡ false)
    there : (k : ℕ) → is_in kept k ≡ true → ready m g k t.rows ≡ true
    apart : (k : ℕ) → is_in xs k ≡ true → is_in kept k ≡ false

  -- while some are still to be forked
  record Forking (missing kept ks : List ℕ) (t : Table) : Type 0 where
    lives : Lives t
    room : count_by is_own t.rows + length ks ≤ t.limits.processes
    free : (k : ℕ) → is_in ks k ≡ true → active m g k t.rows ≡ false
    there : (k : ℕ) → is_in kept k ≡ true → ready m g k t.rows ≡ true
    started : (k : ℕ) → is_in missing k ≡ true → (is_in ks k ≡ true) ⊎ (active m g k t.rows ≡ true)

  -- while some are still to be awaited
  record Awaiting (missing kept ks : List ℕ) (t : Table) : Type 0 where
    lives : Lives t
    there : (k : ℕ) → is_in kept k ≡ true → ready m g k t.rows ≡ true
    started : (k : ℕ) → is_in missing k ≡ true → ((is_in ks k ≡ true) × (active m g k t.rows ≡ true)) ⊎ (ready m g k t.rows ≡ true)
    waits : (k : ℕ) → is_in ks k ≡ true → is_in missing k ≡ true

  -- a ready worker is active
  ready-active : (k : ℕ) (rows : List Process) → ready m g k rows ≡ true → active m g k rows ≡ true
  ready-active k [] e = e
  ready-active k (p ∷ rows) e = or-both (is_worker is_ready m g k p) (ready m g k rows) _ _ (one p) (ready-active k rows) e
    where
      one : (p : Process) → is_worker is_ready m g k p ≡ true → is_worker is_active m g k p ≡ true
      one (Master n q i live hs) e = e
      one (Foreign n hs) e = e
      one (Worker n q h j Starting hs) e = absurd (cc)
      one (Worker n q h j Ready hs) e = e
      one (Worker n q h j Draining hs) e = absurd (cc)
      one (Worker n q h j Exited hs) e = absurd (cc)

  settles :
      (retries : ℕ) (missing kept set : List ℕ) (p : Progress) → Awaiting missing kept [] p.table → p.cause ≡ None →
      ((k : ℕ) → is_in set k ≡ true → (k < 1024) × ((is_in kept k ≡ true) ⊎ (is_in missing k ≡ true))) →
      EndsWell (settle image crew set side.Target retries) p
  settles retries missing kept set p a clean cover = go retries
    where
      all : (k : ℕ) → is_in set k ≡ true → (k < 1024) × (ready m g k p.table.rows ≡ true)
      all k e =
          let o = cover k e in (
            o.0,
            ⊎_elim (λ on. a.there k on) (λ on. ⊎_elim (λ left. absurd (let z = left.0 in cc)) (λ r. r) (a.started k on)) o.1,
          )

      go : (n : ℕ) → EndsWell (settle image crew set side.Target n) p
      go zero = count-one set (on (failed_replies (Census g)) (Ends (short_end side.Target)) Nothing) p a.lives clean all
      go (suc n) = count-one set (on (failed_replies (Census g)) (round image crew (settle image crew set side.Target n)) Nothing) p a.lives clean all

  awaits :
      (ks missing kept : List ℕ) (rest : Tree) (p : Progress) → Awaiting missing kept ks p.table → p.cause ≡ None →
      ((q : Progress) → Awaiting missing kept [] q.table → q.cause ≡ None → EndsWell rest q) → EndsWell (awaits_any image g ks rest) p
  awaits [] missing kept rest p a clean next_of = next_of p a clean
  awaits (x ∷ ks) missing kept rest p a clean next_of =
      let here = in-here x x ks refl in
      let on_it = ⊎_elim (λ (s : (is_in (x ∷ ks) x ≡ true) × (active m g x p.table.rows ≡ true)). s.1) (λ r. ready-active x p.table.rows r) (a.started x (a.waits x here)) in
      await-one x (awaits_any image g ks rest) (tells image (Kill g x ∷ []) (awaits_any image g ks rest)) p a.lives clean on_it
      (λ q left. awaits ks missing kept rest q (next q left on_it) left.cause next_of)
    where
      next : (q : Progress) → Left p (filter_map (change (is_worker is_starting m g x) made_ready) p.table.rows) q → active m g x p.table.rows ≡ true → Awaiting missing kept ks q.table
      next q left on_it =
          let rows = p.table.rows in
          let made = filter_map (change (is_worker is_starting m g x) made_ready) rows in
          let still : (k : ℕ) → ready m g k rows ≡ true → ready m g k q.table.rows ≡ true =
          λ k e. subst (λ rs. ready m g k rs ≡ true) (sym left.rows_are) (any-kept (is_worker is_ready m g k) (change (is_worker is_starting m g x) made_ready) (readied-ready m g x k) rows e) in
          let acts : (k : ℕ) → active m g k rows ≡ true → active m g k q.table.rows ≡ true =
          λ k e. subst (λ rs. active m g k rs ≡ true) (sym left.rows_are) (any-kept (is_worker is_active m g k) (change (is_worker is_starting m g x) made_ready) (readied-active m g x k) rows e) in
          let mine : ready m g x q.table.rows ≡ true = subst (λ rs. ready m g x rs ≡ true) (sym left.rows_are) (any-ready-then m g x rows on_it) in
          record {
            lives = ap (live_master image) left.rows_are ∙ live-readied image m g x rows ∙ a.lives;
            there = λ k e. still k (a.there k e);
            started =
                λ k e. ⊎_elim
                (λ s. ⊎_elim (λ same. inr (subst (λ j. ready m g j q.table.rows ≡ true) same mine)) (λ later. inl (later, acts k s.1)) (in-cases x k ks s.0))
                (λ r. inr (still k r)) (a.started k e);
            waits = λ k e. a.waits k (in-there x k ks e);
          }

  forks :
      (ks missing kept : List ℕ) (rest : Tree) (p : Progress) → Distinct ks → Forking missing kept ks p.table → p.cause ≡ None →
      ((q : Progress) → Forking missing kept [] q.table → q.cause ≡ None → EndsWell rest q) → EndsWell (forks_any image crew ks rest) p
  forks [] missing kept rest p d f clean next_of = next_of p f clean
  forks (x ∷ ks) missing kept rest p d f clean next_of =
      fork-one x (forks_any image crew ks rest) p f.lives clean (f.free x (in-here x x ks refl)) (omega (arith, f.room))
      (λ q left. forks ks missing kept rest q d.1 (next q left) left.cause next_of)
    where
      next : (q : Progress) → Left p (p.table.rows ++ Worker p.table.next_process m g x Starting (shared (fds_of crew.posts x) holds) ∷ []) q → Forking missing kept ks q.table
      next q left =
          let rows = p.table.rows in
          let w = Worker p.table.next_process m g x Starting (shared (fds_of crew.posts x) holds) in
          let acts : (k : ℕ) → active m g k rows ≡ true → active m g k q.table.rows ≡ true =
          λ k e. subst (λ rs. active m g k rs ≡ true) (sym left.rows_are) (any-append (is_worker is_active m g k) rows w ∙ or-on-left (active m g k rows) _ e) in
          let mine : active m g x q.table.rows ≡ true =
          subst (λ rs. active m g x rs ≡ true) (sym left.rows_are) (any-append (is_worker is_active m g x) rows w ∙ or-on-right (active m g x rows) _ (new-active p.table.next_process m g x (shared (fds_of crew.posts x) holds))) in
          record {
            lives = ap (live_master image) left.rows_are ∙ live-append image c rows w f.lives;
            room = omega (arith, f.room, ap (count_by is_own) left.rows_are, count-append is_own rows w, ap (λ (l : Limits). l.processes) left.limits);
            free =
                λ k e. subst (λ rs. active m g k rs ≡ false) (sym left.rows_are)
                (any-append (is_worker is_active m g k) rows w
                ∙ or-off (active m g k rows) (is_worker is_active m g k w) (f.free k (in-there x k ks e)) (new-other p.table.next_process m g x k (shared (fds_of crew.posts x) holds) (apart k e)));
            there =
                λ k e. subst (λ rs. ready m g k rs ≡ true) (sym left.rows_are)
                (any-append (is_worker is_ready m g k) rows w ∙ or-on-left (ready m g k rows) _ (f.there k e));
            started =
                λ k e. ⊎_elim
                (λ s. ⊎_elim (λ same. inr (subst (λ j. active m g j q.table.rows ≡ true) same mine)) (λ later. inl later) (in-cases x k ks s))
                (λ r. inr (acts k r)) (f.started k e);
          }
        where
          apart : (k : ℕ) → is_in ks k ≡ true → (x == k) ≡ false
          apart k e = eqb-off x k (λ same. true-false (is_in ks k) e (subst (λ j. is_in ks j ≡ false) same d.0))

  kills :
      (xs missing kept : List ℕ) (rest : Tree) (p : Progress) → Killing missing kept xs p.table → p.cause ≡ None →
      ((q : Progress) → Killing missing kept [] q.table → q.cause ≡ None → EndsWell rest q) →
      EndsWell (tells image (map (Kill g) xs) rest) p
  kills [] missing kept rest p h clean next_of = next_of p h clean
  kills (x ∷ xs) missing kept rest p h clean next_of =
      kill-one x (tells image (map (Kill g) xs) rest) p h.lives clean (λ q left. kills xs missing kept rest q (next q left) left.cause next_of)
    where
      next : (q : Progress) → Left p (filter_map (drop_where (is_worker is_any m g x)) p.table.rows) q → Killing missing kept xs q.table
      next q left =
          let rows = p.table.rows in
          record {
            lives = ap (live_master image) left.rows_are ∙ live-dropped image m g x rows ∙ h.lives;
            room = omega (arith, h.room, ap (count_by is_own) left.rows_are, dropped-count (is_worker is_any m g x) is_own rows, ap (λ (l : Limits). l.processes) left.limits);
            free =
                λ k e. ⊎_elim
                (λ s. ⊎_elim
                (λ same. inr (subst (λ rs. active m g k rs ≡ false) (sym left.rows_are) (subst (λ j. active m g j (filter_map (drop_where (is_worker is_any m g x)) rows) ≡ false) same (killed-off m g x rows))))
                (λ later. inl later) (in-cases x k xs s))
                (λ off. inr (subst (λ rs. active m g k rs ≡ false) (sym left.rows_are) (off-dropped m g x k rows off))) (h.free k e);
            there =
                λ k e. subst (λ rs. ready m g k rs ≡ true) (sym left.rows_are)
                (ready-dropped m g x k rows
                (eqb-off x k (λ same. true-false (is_in kept k) e (subst (λ j. is_in kept j ≡ false) same (h.apart x (in-here x x xs refl)))))
                (h.there k e));
            apart = λ k e. h.apart k (in-there x k xs e);
          }

---- From a standing

-- of the master's workers none is Starting
idle-first :
    (m : ℕ) (crew : Crew) (holds : List Hold) (k : ℕ) (rows : List Process) → AllByRecursion (IsRunning m crew holds) rows →
    ready m crew.generation k rows ≡ false → active m crew.generation k rows ≡ false
idle-first m crew holds k [] h e = refl
idle-first m crew holds k (p ∷ rows) h e = go p h.0 e (idle-first m crew holds k rows h.1)
  where
    go :
        (p : Process) → IsRunning m crew holds p → (is_worker is_ready m crew.generation k p || ready m crew.generation k rows) ≡ false →
        (ready m crew.generation k rows ≡ false → active m crew.generation k rows ≡ false) →
        (is_worker is_active m crew.generation k p || active m crew.generation k rows) ≡ false
    go (Master n q i live hs) r e ih = ih e
    go (Foreign n hs) r e ih = ih e
    go (Worker n q h j Draining hs) r e ih = ih e
    go (Worker n q h j Exited hs) r e ih = ih e
    go (Worker n q h j Ready hs) r e ih = both ((q == m) && bears crew.generation k h j) e
      where
        both : (b : Bool) → (b || ready m crew.generation k rows) ≡ false → (b || active m crew.generation k rows) ≡ false
        both true e = absurd (cc)
        both false e = ih e
    go (Worker n q h j Starting hs) r e ih = both (q == m) refl
      where
        both : (b : Bool) → (q == m) ≡ b → ((b && bears crew.generation k h j) || active m crew.generation k rows) ≡ false
        both true is = absurd (r (eqb-is q m is))
        both false is = ih e

module _ (t : Table) (r : Record) (s : IsStanding t r) (overdue : List ℕ) (room : HasProcessesFor t r overdue) where
  abbrev K : List ℕ
  K = filter (λ k. not (is_in overdue k)) r.ready

  abbrev dead : List ℕ
  dead = filter (is_in r.ready) overdue

  abbrev lacking : List ℕ
  lacking = to_start r overdue

  idle : (k : ℕ) → is_in r.ready k ≡ false → active r.pid r.generation k t.rows ≡ false
  idle k e = idle-first r.pid (crew_of r) s.start.agrees.holds k t.rows s.start.agrees.running (s.start.agrees.ready k ∙ e)

  begun : Killing r.generation.image (crew_of r) r.pid s.start.agrees.holds lacking K dead t
  begun = record {
    lives = s.start.agrees.lives;
    room = room;
    free = λ k e. free k (is_in r.ready k) refl (in-filter-of (λ j. not (is_in r.ready j) || is_in overdue j) (numbers_below r.wanted) k e).1;
    there = λ k e. s.start.agrees.ready k ∙ (in-filter-of (λ j. not (is_in overdue j)) r.ready k e).0;
    apart =
        λ k e. off-from K k
        (λ on. true-false (is_in overdue k) (in-filter-of (is_in r.ready) overdue k e).0 (not-is (is_in overdue k) (in-filter-of (λ j. not (is_in overdue j)) r.ready k on).1));
  }
    where
      free :
          (k : ℕ) (b : Bool) → is_in r.ready k ≡ b → (not (is_in r.ready k) || is_in overdue k) ≡ true →
          (is_in dead k ≡ true) ⊎ (active r.pid r.generation k t.rows ≡ false)
      free k true is e = inl (in-filter-on (is_in r.ready) overdue k (subst (λ b. (not b || is_in overdue k) ≡ true) is e) is)
      free k false is e = inr (idle k is)

  -- each wanted number is kept or started
  cover : (k : ℕ) → is_in (numbers_below r.wanted) k ≡ true → (k < 1024) × ((is_in K k ≡ true) ⊎ (is_in lacking k ≡ true))
  cover k e = (omega (arith, below-of r.wanted k e, s.start.record_in_range.wanted), go (is_in r.ready k) refl (is_in overdue k) refl)
    where
      go : (a : Bool) → is_in r.ready k ≡ a → (b : Bool) → is_in overdue k ≡ b → (is_in K k ≡ true) ⊎ (is_in lacking k ≡ true)
      go true is false off = inl (in-filter-on (λ j. not (is_in overdue j)) r.ready k is (ap not off))
      go a is true on = inr (in-filter-on (λ j. not (is_in r.ready j) || is_in overdue j) (numbers_below r.wanted) k e (or-on-right (not (is_in r.ready k)) (is_in overdue k) on))
      go false is b on = inr (in-filter-on (λ j. not (is_in r.ready j) || is_in overdue j) (numbers_below r.wanted) k e (or-on-left (not (is_in r.ready k)) (is_in overdue k) (ap not is)))

  well : EndsWell r.generation.image (crew_of r) r.pid s.start.agrees.holds (plan_tree r (Mend overdue) []) (start_at t r.note)
  well =
      let image = r.generation.image in
      let crew = crew_of r in
      let m = r.pid in
      let holds = s.start.agrees.holds in
      let ending = settle image crew (numbers_below r.wanted) side.Target r.retries in
      kills image crew m holds dead lacking K (forks_any image crew lacking (awaits_any image crew.generation lacking ending)) (start_at t r.note) begun refl
      (λ q h clean. forks image crew m holds lacking lacking K (awaits_any image crew.generation lacking ending) q
      (filter-distinct (λ k. not (is_in r.ready k) || is_in overdue k) (numbers_below r.wanted) (below-distinct r.wanted))
      (record {
        lives = h.lives;
        room = h.room;
        free = λ k e. ⊎_elim (λ z. absurd (cc)) (λ off. off) (h.free k e);
        there = h.there;
        started = λ k e. inl e;
      }) clean
      (λ q2 f clean2. awaits image crew m holds lacking lacking K ending q2
      (record {
        lives = f.lives;
        there = f.there;
        started = λ k e. inl (e, ⊎_elim (λ z. absurd (cc)) (λ on. on) (f.started k e));
        waits = λ k e. e;
      }) clean2
      (λ q3 a clean3. settles image crew m holds r.retries lacking K (numbers_below r.wanted) q3 a clean3 cover)))

-- nobody exits, so clean executing master does
pub quiet-spares : (executing heirs : List ℕ) (n : ℕ) (entries : List Entry) → refused_among executing heirs no_fault n entries ≡ None
quiet-spares executing heirs n [] = refl
quiet-spares executing heirs n (e ∷ entries) = quiet-spares _ heirs (n + 1) entries

pub heals : (t : Table) (r : Record) → IsStanding t r → CanBeHealed t r
heals t r s overdue room =
    let w = well t r s overdue room in
    let ran = run_at t r (quiet_tick overdue) in
    let done = ap (λ e. outcome_of (sides_of r (Mend overdue)) e (lacked_last ran.last.lacked)) w.0 in
    let h =
    headline t r (Mend overdue) [] no_fault
    (record { start = s.start; accepts = tt; spared = quiet-spares (r.generation.image ∷ []) [] 0 ran.entries }) in
    record {
      outcome = done;
      cause = w.1;
      service_is = subst (λ (o : Outcome). Says r (Mend overdue) o t ran.last.table) done h.says;
    }
