-- An exit before a call that passes its worker by, and before the next call: the same run.
use Rattle.std.proofs.Common.{◌≡◌, ◌≢◌, ◌<◌, ◌+◌, ℕ, true, false, List, [], ◌∷◌, Option, Some, None, refl, sym, ◌∙◌, ap, subst, arith}
use Rattle.listener_set.specs.declared.generation.Generation.{Generation}
use Rattle.vocabulary.specs.declared.names.Name.{Name}
use Rattle.vocabulary.specs.declared.names.Name.TheVariants as name
use Rattle.vocabulary.specs.declared.plans.PidNote.{PidNote}
use Rattle.vocabulary.specs.declared.plans.Order.{Order}
use Rattle.vocabulary.specs.declared.reports.Entry.{Entry}
use Rattle.vocabulary.specs.declared.targets.Target.{Target}
use Rattle.definitions.specs.Table.{Table}
use Rattle.definitions.specs.Master.{Record, Sides, sides_of, handover_for}
use Rattle.definitions.specs.Calls.{losses_of, Call, Stepped, step_with, Handed}
use Rattle.vocabulary.specs.declared.calls.Answer.TheVariants as answer
use Rattle.call_laws.specs.Pieces.{branch, among, lacked_last, quiet, with_entry, answered, noted}
use Rattle.definitions.specs.Run.{Tree, Branches, Ends, Does, Nothing, Branch, Reply, reply_of, call_of, Lack}
use Rattle.definitions.specs.Run.{lacked_by, Moment, Pattern, Progress, Ran, run_with, goes_with, after_moment}
use Rattle.definitions.specs.Run.{after_call, outcome_of, report_of}
use Rattle.definitions.specs.Plans.{Turn}
use Rattle.plan_walk.specs.Path.{Trail, Asks, rest_after}
use Rattle.kernel_pattern.specs.Pattern.{with_exit}
use Rattle.explorer.specs.declared.events.Event.{Event}
use Rattle.explorer.specs.declared.events.Mishap.TheVariants.{Exit}
use Rattle.explorer.specs.declared.events.Tried.{Tried}
use Rattle.explorer.specs.declared.events.Tried.TheVariants.{Nothing as NothingTried, One}
use Rattle.explorer.specs.declared.position.Position.{Position}
use Rattle.plan_walk.specs.Course.{turns_of, trail_on}
use Rattle.plan_walk.specs.Walk.{AsksFor}
use Rattle.plan_walk.specs.declared.walk.Due.{Due}
use Rattle.plan_executor.specs.Naming.{listed}
use Rattle.explorer.specs.Events.{pattern_of, event_at}
use Rattle.explorer.specs.Explored.{report_under}
use Rattle.explorer.specs.Known.{passes_by}
use Rattle.explorer.specs.Positions.{rest_run, HasCome, EndsAlike, IsAt, IsLater, IsSameUpTo, onward, moved, rest_moved, after_due}
use Rattle.explorer.specs.Looking.{IsSeenIn}
use Rattle.explorer.specs.Searched.{Subject, subject_of, passed_under, IsSeenAt, AreSeen, IsWider, HasSeen}
use Rattle.explorer.specs.declared.findings.Findings.{Findings}
use Rattle.definitions.specs.Claims.{run_of}
use Rattle.std.specs.List.{AllByRecursion}
use Rattle.explorer.proofs.Coming.{runs-on, found, further, further-calls, stepped}
use Rattle.explorer.proofs.Meeting.{other, same-before, at-event}
use Rattle.explorer.proofs.Passing.{passed, exited_step, same-losses}
use Rattle.explorer.proofs.Searching.{every-behind, same-subject}

---- The same pattern from a call on

abbrev stepping : Handed → ℕ → Order → List ℕ → Branches → Progress → Pattern → Moment → Ran
stepping handed by order set branches p pattern m =
    let middle = after_moment m.exits p in
    let s = answered handed by order m.fate middle in
    with_entry (record { by = by; call = call_of order (lacked_by by middle.lacked); answer = s.answer }) p middle
    (goes_with handed branches (reply_of set s.answer) pattern (after_call by order set s middle))

noted-calls : (said : Option PidNote) (p : Progress) → (noted said p).calls ≡ p.calls
noted-calls None p = refl
noted-calls (Some n) p = refl

mutual
  same-run : (handed : Handed) (tree : Tree) (a b : Pattern) (p : Progress) → ((m : ℕ) → p.calls < m → a m ≡ b m) →
      run_with handed tree a p ≡ run_with handed tree b p
  same-run handed (Ends end) a b p same = refl
  same-run handed (Does by order set branches) a b p same =
      let m = b (p.calls + 1) in
      let middle = after_moment m.exits p in
      let s = answered handed by order m.fate middle in
      ap (stepping handed by order set branches p a) (same (p.calls + 1) (omega arith))
      ∙ ap (with_entry (record { by = by; call = call_of order (lacked_by by middle.lacked); answer = s.answer }) p middle)
      (same-goes handed branches (reply_of set s.answer) a b (after_call by order set s middle) (λ k lt. same k (omega (arith, lt))))

  same-goes : (handed : Handed) (bs : Branches) (r : Reply) (a b : Pattern) (p : Progress) →
      ((m : ℕ) → p.calls < m → a m ≡ b m) → goes_with handed bs r a p ≡ goes_with handed bs r b p
  same-goes handed Nothing r a b p same = refl
  same-goes handed (Branch replies said rest more) r a b p same =
      elim (among replies r) as (λ c. elim c as (λ _. Ran) [ true ↦ run_with handed rest a (noted said p) | false ↦ goes_with handed more r a p ]
      ≡ elim c as (λ _. Ran) [ true ↦ run_with handed rest b (noted said p) | false ↦ goes_with handed more r b p ]) [
        | true ↦ same-run handed rest a b (noted said p) (λ m lt. same m (omega (arith, lt, noted-calls said p)))
        | false ↦ same-goes handed more r a b p same
      ]

same-rest : (handed : Handed) (rest : Option Tree) (a b : Pattern) (p : Progress) →
    ((m : ℕ) → p.calls < m → a m ≡ b m) → rest_run handed rest a p ≡ rest_run handed rest b p
same-rest handed None a b p same = refl
same-rest handed (Some tree) a b p same = same-run handed tree a b p same

---- Runs that end alike

alike : (a b : Ran) → a ≡ b → EndsAlike a b
alike a b e = record { ending = ap (λ (x : Ran). x.ending) e; last = ap (λ (x : Ran). x.last) e }

alike-on : (a b c : Ran) → EndsAlike a b → EndsAlike b c → EndsAlike a c
alike-on a b c e f = record { ending = e.ending ∙ f.ending; last = e.last ∙ f.last }

alike-back : (a b : Ran) → EndsAlike a b → EndsAlike b a
alike-back a b e = record { ending = sym e.ending; last = sym e.last }

behind-entry : (x : Entry) (before middle : Progress) (a b : Ran) → a ≡ with_entry x before middle b → EndsAlike a b
behind-entry x before middle a b e = record { ending = ap (λ (ran : Ran). ran.ending) e; last = ap (λ (ran : Ran). ran.last) e }

reports : (sides : Sides) (a b : Ran) → EndsAlike a b → report_of sides a ≡ report_of sides b
reports sides a b e =
    λ i. record {
      outcome = outcome_of sides (e.ending i) (lacked_last (e.last i).lacked);
      cause = (e.last i).cause;
      note = (e.last i).note;
      ready = (e.last i).ready;
    }

---- One exit

no-losses : (t : Table) → losses_of [] t ≡ 0
no-losses t = omega arith

no-exit : (p : Progress) → after_moment [] p ≡ p
no-exit p = ap (λ n. record p { losses = n }) (omega (arith, no-losses p.table))

onward-exit : (found : Option (Option PidNote × Tree)) (es : List Name) (p : Progress) → onward found (after_moment es p) ≡ after_moment es (onward found p)
onward-exit None es p = refl
onward-exit (Some (None, rest)) es p = refl
onward-exit (Some (Some n, rest)) es p = refl

module _ (handed : Handed) (g : Generation) (k : ℕ) where
  abbrev worker : Name
  worker = name.Worker g k

  abbrev leaving : Moment
  leaving = with_exit worker quiet

  -- the exit before a call that passes the worker by, and behind it
  module _ (by : ℕ) (order : Order) (set : List ℕ) (branches : Branches) (p : Progress)
      (passes : passes_by (call_of order (lacked_by by p.lacked)) worker ≡ true) where
    abbrev plain : Stepped
    plain = step_with handed by (call_of order (lacked_by by p.lacked)) None p.table

    step-same : stepped handed by order set branches p leaving ≡ exited_step g k plain
    step-same = (passed g k handed by (call_of order (lacked_by by p.lacked)) p.table passes).same

    found-same : found handed by order set branches p leaving ≡ found handed by order set branches p quiet
    found-same = ap (λ (s : Stepped). branch branches (reply_of set s.answer)) step-same

    losses-same : p.losses + losses_of (worker ∷ []) p.table ≡ (p.losses + losses_of [] p.table) + losses_of (worker ∷ []) plain.table
    losses-same = omega (arith, no-losses p.table, same-losses g k handed by (call_of order (lacked_by by p.lacked)) p.table passes)

    further-same : further handed by order set branches p leaving ≡ after_moment (worker ∷ []) (further handed by order set branches p quiet)
    further-same =
        let middle = after_moment (worker ∷ []) p in
        let on = after_call by order set (exited_step g k plain) middle in
        ap (λ (s : Stepped). onward (branch branches (reply_of set s.answer)) (after_call by order set s middle)) step-same
        ∙ ap (λ n. onward (branch branches (reply_of set plain.answer)) (record on { losses = n })) losses-same
        ∙ onward-exit (branch branches (reply_of set plain.answer)) (worker ∷ []) (after_call by order set plain (after_moment [] p))

  -- From there on the run in which it has exited is that in which it exits next.
  joined : (rest : Option Tree) (ls : List Lack) (e : Entry) (x : Progress) (a b : Pattern) → Asks rest ls e →
      a (x.calls + 1) ≡ quiet → b (x.calls + 1) ≡ leaving →
      ((m : ℕ) → x.calls + 1 < m → a m ≡ b m) → EndsAlike (rest_run handed rest a (after_moment (worker ∷ []) x)) (rest_run handed rest b x)
  joined None ls e x a b asks here there behind = absurd asks
  joined (Some (Ends end)) ls e x a b asks here there behind = absurd asks
  joined (Some (Does by order set branches)) ls e x a b asks here there behind =
      let tree = Does by order set branches in
      let y = after_moment (worker ∷ []) x in
      let rest = rest_after (found handed by order set branches x leaving) in
      let on = further handed by order set branches x leaving in
      let same : further handed by order set branches y quiet ≡ on =
      ap (λ (z : Progress). onward (found handed by order set branches x leaving)
      (after_call by order set (stepped handed by order set branches x leaving) z)) (no-exit y) in
      let calls = further-calls handed by order set branches x leaving in
      let one = behind-entry _ _ _ (run_with handed tree a y)
      (rest_run handed rest a (further handed by order set branches y quiet))
      (runs-on handed by order set branches y a quiet here) in
      let two = behind-entry _ _ _ (run_with handed tree b x) (rest_run handed rest b on) (runs-on handed by order set branches x b leaving there) in
      let between : rest_run handed rest a (further handed by order set branches y quiet) ≡ rest_run handed rest b on =
      ap (rest_run handed rest a) same ∙ same-rest handed rest a b on (λ m lt. behind m (omega (arith, lt, calls))) in
      alike-on _ _ _ (alike-on _ _ _ one (alike _ _ between)) (alike-back _ _ two)

---- Runs of a target

quiet-but : (e : Event) (m : ℕ) → m ≢ e.number → pattern_of (One e) m ≡ quiet
quiet-but e m not = other e (λ _. quiet) m not

-- The run in which a worker exits before a call that passes it by is that in which it exits before the next call.
later-exit : (r : Record) (to : Target) (turns : List Turn) (t : Table) (n : ℕ) (heirs : List ℕ) (rest : Option Tree)
    (p : Progress) (e : Entry) (ls : List Lack) (next : Entry) (g : Generation) (k q : ℕ) →
    HasCome r to turns t (pattern_of NothingTried) n rest heirs p → Asks rest p.lacked e →
    passes_by e.call (name.Worker g k) ≡ true → Asks (rest_moved (handover_for r to) rest quiet p) ls next →
    report_under r to turns t (One (event_at (n + 1) (Exit (name.Worker g k) q)))
    ≡ report_under r to turns t (One (event_at (n + 1 + 1) (Exit (name.Worker g k) q)))
later-exit r to turns t n heirs None p e ls next g k q come asks passes more = absurd asks
later-exit r to turns t n heirs (Some (Ends end)) p e ls next g k q come asks passes more = absurd asks
later-exit r to turns t n heirs (Some (Does by order set branches)) p e ls next g k q come asks passes more =
    let handed = handover_for r to in
    let tree = Does by order set branches in
    let first = event_at (n + 1) (Exit (name.Worker g k) q) in
    let second = event_at (n + 1 + 1) (Exit (name.Worker g k) q) in
    let a = pattern_of (One first) in
    let b = pattern_of (One second) in
    let x = further handed by order set branches p quiet in
    let rest = rest_after (found handed by order set branches p quiet) in
    let passes' : passes_by (call_of order (lacked_by by p.lacked)) (name.Worker g k)
    ≡ true = ap (λ (c : Call). passes_by c (name.Worker g k)) (sym asks.1) ∙ passes in
    let calls = further-calls handed by order set branches p quiet in
    let at-first : a (p.calls + 1) ≡ leaving handed g k = at-event first (λ _. quiet) (p.calls + 1) (omega (arith, come.calls)) in
    let before : b (p.calls + 1) ≡ quiet = quiet-but second (p.calls + 1) (omega (arith, come.calls)) in
    let one = alike-on _ _ _ (come.ends a (same-before first (λ _. quiet) n (omega arith)))
    (behind-entry _ _ _ (run_with handed tree a p) _ (runs-on handed by order set branches p a (leaving handed g k) at-first)) in
    let two = alike-on _ _ _ (come.ends b (same-before second (λ _. quiet) n (omega arith)))
    (behind-entry _ _ _ (run_with handed tree b p) _ (runs-on handed by order set branches p b quiet before)) in
    let onto : rest_run handed (rest_after (found handed by order set branches p (leaving handed g k))) a
    (further handed by order set branches p (leaving handed g k))
    ≡ rest_run handed rest a (after_moment (name.Worker g k ∷ []) x) =
    λ i. rest_run handed (rest_after (found-same handed g k by order set branches p passes' i)) a (further-same handed g k by order set branches p passes' i) in
    let join = joined handed g k rest ls next x a b more
    (quiet-but first (x.calls + 1) (omega (arith, calls, come.calls)))
    (at-event second (λ _. quiet) (x.calls + 1) (omega (arith, calls, come.calls)))
    (λ m lt. quiet-but first m (omega (arith, lt, calls, come.calls)) ∙ sym (quiet-but second m (omega (arith, lt, calls, come.calls)))) in
    reports (sides_of r to) _ _ (alike-on _ _ _ (alike-on _ _ _ one (alike _ _ onto)) (alike-on _ _ _ join (alike-back _ _ two)))

-- What is known of an exit before the call that is due is so of the exit before the next one, where the call passes the worker by.
pub known-later : (run : Position) (due : Due) (after : Position) (p : Progress) (by : ℕ) (call : Call) (name : Name)
    (q : ℕ) → IsAt run p → AsksFor (trail_on run.course) due.by due.call → run.tried ≡ NothingTried →
    IsLater run due quiet after → AsksFor (trail_on after.course) by call → passes_by due.call name ≡ true →
    report_under run.state.now run.target.now (turns_of run.course) run.first.now.table
    (One (event_at (run.made + 1) (Exit name q)))
    ≡ report_under after.state.now after.target.now (turns_of after.course) after.first.now.table
    (One (event_at (after.made + 1) (Exit name q)))
known-later run due after p by call (name.Worker g k) q at asks tried is next passes =
    let r = run.state.now in
    let to = run.target.now in
    let T = trail_on run.course in
    let e : Entry = record { by = due.by; call = due.call; answer = answer.Fine } in
    let here : Asks T.rest p.lacked e = subst (λ ks. Asks T.rest ks e) (sym (ap (λ (t : Trail). t.lacked) at.trail)) (asks answer.Fine) in
    let there : Asks (rest_moved (handover_for r to) T.rest quiet p) (trail_on after.course).lacked (record { by = by; call = call; answer = answer.Fine }) =
    subst (λ rest. Asks rest (trail_on after.course).lacked (record { by = by; call = call; answer = answer.Fine })) (is.rest p at) (next answer.Fine) in
    let come = subst (λ (x : Tried). HasCome r to (turns_of run.course) run.first.now.table (pattern_of x) run.made T.rest (listed run.heir) p) tried at.come in
    later-exit r to (turns_of run.course) run.first.now.table run.made (listed run.heir) T.rest p e _ _ g k q come here passes there
    ∙ (λ i. report_under (sym is.state i) (sym is.target i) (sym is.turns i) (sym is.first i).table
    (One (event_at (sym is.made i + 1) (Exit (name.Worker g k) q))))
known-later run due after p by call (name.Draining g k) q at asks tried is next passes = absurd (cc passes)
known-later run due after p by call (name.Master i) q at asks tried is next passes = absurd (cc passes)

---- The tables of these runs

-- All tables of the run in which the worker has exited are those of the one in which it exits next, but for the first.
joined-seen : (handed : Handed) (g : Generation) (k : ℕ) (P : Progress → Type 0) (rest : Option Tree) (ls : List Lack) (e : Entry)
    (x : Progress) (a b : Pattern) → Asks rest ls e → a (x.calls + 1) ≡ quiet → b (x.calls + 1) ≡ leaving handed g k →
    ((m : ℕ) → x.calls + 1 < m → a m ≡ b m) → P x →
    AllByRecursion P (rest_run handed rest a (after_moment (name.Worker g k ∷ []) x)).passed →
    AllByRecursion P (rest_run handed rest b x).passed
joined-seen handed g k P None ls e x a b asks here there behind first all = absurd asks
joined-seen handed g k P (Some (Ends end)) ls e x a b asks here there behind first all = absurd asks
joined-seen handed g k P (Some (Does by order set branches)) ls e x a b asks here there behind first all =
    let y = after_moment (name.Worker g k ∷ []) x in
    let rest = rest_after (found handed by order set branches x (leaving handed g k)) in
    let on = further handed by order set branches x (leaving handed g k) in
    let same : further handed by order set branches y quiet ≡ on =
    ap (λ (z : Progress). onward (found handed by order set branches x (leaving handed g k))
    (after_call by order set (stepped handed by order set branches x (leaving handed g k)) z)) (no-exit y) in
    let calls = further-calls handed by order set branches x (leaving handed g k) in
    let between : rest_run handed rest a (further handed by order set branches y quiet) ≡ rest_run handed rest b on =
    ap (rest_run handed rest a) same ∙ same-rest handed rest a b on (λ m lt. behind m (omega (arith, lt, calls))) in
    let one = subst (λ (ran : Ran). AllByRecursion P ran.passed) (runs-on handed by order set branches y a quiet here) all in
    let more = subst (λ (ran : Ran). AllByRecursion P ran.passed) between one.1.1 in
    subst (λ (ran : Ran). AllByRecursion P ran.passed) (sym (runs-on handed by order set branches x b (leaving handed g k) there)) (first, (one.0, more))

-- What is seen of all tables that the one run passes is seen of those of the other.
later-exit-seen : (r : Record) (to : Target) (turns : List Turn) (t : Table) (n : ℕ) (heirs : List ℕ) (rest : Option Tree)
    (p : Progress) (e : Entry) (ls : List Lack) (next : Entry) (g : Generation) (k q : ℕ) (P : Progress → Type 0) →
    HasCome r to turns t (pattern_of NothingTried) n rest heirs p → Asks rest p.lacked e →
    passes_by e.call (name.Worker g k) ≡ true → Asks (rest_moved (handover_for r to) rest quiet p) ls next →
    P p → P (after_moment [] p) → P (moved (handover_for r to) rest quiet p) →
    ((q : Pattern) → IsSameUpTo n (pattern_of NothingTried) q → AllByRecursion P (rest_run (handover_for r to) rest q p).passed →
    AllByRecursion P (run_of r to turns q t).passed) →
    AllByRecursion P (run_of r to turns (pattern_of (One (event_at (n + 1) (Exit (name.Worker g k) q)))) t).passed →
    AllByRecursion P (run_of r to turns (pattern_of (One (event_at (n + 1 + 1) (Exit (name.Worker g k) q)))) t).passed
later-exit-seen r to turns t n heirs None p e ls next g k q P come asks passes more here still there seen all = absurd asks
later-exit-seen r to turns t n heirs (Some (Ends end)) p e ls next g k q P come asks passes more here still there seen all = absurd asks
later-exit-seen r to turns t n heirs (Some (Does by order set branches)) p e ls next g k q P come asks passes more here still there seen all =
    let handed = handover_for r to in
    let tree = Does by order set branches in
    let first = event_at (n + 1) (Exit (name.Worker g k) q) in
    let second = event_at (n + 1 + 1) (Exit (name.Worker g k) q) in
    let a = pattern_of (One first) in
    let b = pattern_of (One second) in
    let x = further handed by order set branches p quiet in
    let rest = rest_after (found handed by order set branches p quiet) in
    let passes' : passes_by (call_of order (lacked_by by p.lacked)) (name.Worker g k)
    ≡ true = ap (λ (c : Call). passes_by c (name.Worker g k)) (sym asks.1) ∙ passes in
    let calls = further-calls handed by order set branches p quiet in
    let at-first : a (p.calls + 1) ≡ leaving handed g k = at-event first (λ _. quiet) (p.calls + 1) (omega (arith, come.calls)) in
    let before : b (p.calls + 1) ≡ quiet = quiet-but second (p.calls + 1) (omega (arith, come.calls)) in
    let onto : rest_run handed (rest_after (found handed by order set branches p (leaving handed g k))) a
    (further handed by order set branches p (leaving handed g k))
    ≡ rest_run handed rest a (after_moment (name.Worker g k ∷ []) x) =
    λ i. rest_run handed (rest_after (found-same handed g k by order set branches p passes' i)) a (further-same handed g k by order set branches p passes' i) in
    let w = come.passes a (same-before first (λ _. quiet) n (omega arith)) in
    let tail = every-behind P w.0 _ (subst (AllByRecursion P) w.1 all) in
    let one = subst (λ (ran : Ran). AllByRecursion P ran.passed) (runs-on handed by order set branches p a (leaving handed g k) at-first) tail in
    let behind = subst (λ (ran : Ran). AllByRecursion P ran.passed) onto one.1.1 in
    let join = joined-seen handed g k P rest ls next x a b more
    (quiet-but first (x.calls + 1) (omega (arith, calls, come.calls)))
    (at-event second (λ _. quiet) (x.calls + 1) (omega (arith, calls, come.calls)))
    (λ m lt. quiet-but first m (omega (arith, lt, calls, come.calls)) ∙ sym (quiet-but second m (omega (arith, lt, calls, come.calls)))) there behind in
    seen b (same-before second (λ _. quiet) n (omega arith))
    (subst (λ (ran : Ran). AllByRecursion P ran.passed) (sym (runs-on handed by order set branches p b quiet before)) (here, (still, join)))

-- What is known to be seen of an exit before the call that is due is so of the exit before the next one.
pub seen-known-later : (run : Position) (due : Due) (after : Position) (p : Progress) (by : ℕ) (call : Call) (name : Name)
    (q : ℕ) (found : Findings) → IsAt run p → AsksFor (trail_on run.course) due.by due.call → run.tried ≡ NothingTried →
    IsLater run due quiet after → AsksFor (trail_on after.course) by call → passes_by due.call name ≡ true →
    HasSeen run p found → IsSeenAt found p → IsSeenIn found after.kernel.table → IsWider found found →
    AreSeen (subject_of run) found (One (event_at (run.made + 1) (Exit name q)) ∷ []) →
    AreSeen (subject_of after) found (One (event_at (after.made + 1) (Exit name q)) ∷ [])
seen-known-later run due after p by call (name.Worker g k) q found at asks tried is next passes seen here there wide all =
    let r = run.state.now in
    let to = run.target.now in
    let T = trail_on run.course in
    let e : Entry = record { by = due.by; call = due.call; answer = answer.Fine } in
    let ask : Asks T.rest p.lacked e = subst (λ ks. Asks T.rest ks e) (sym (ap (λ (t : Trail). t.lacked) at.trail)) (asks answer.Fine) in
    let then : Asks (rest_moved (handover_for r to) T.rest quiet p) (trail_on after.course).lacked (record { by = by; call = call; answer = answer.Fine }) =
    subst (λ rest. Asks rest (trail_on after.course).lacked (record { by = by; call = call; answer = answer.Fine })) (is.rest p at) (next answer.Fine) in
    let come = subst (λ (x : Tried). HasCome r to (turns_of run.course) run.first.now.table (pattern_of x) run.made T.rest (listed run.heir) p) tried at.come in
    let onto : IsSeenIn found (after_due run quiet p).table = subst (IsSeenIn found) (sym (is.at p at).table) there in
    let whole = later-exit-seen r to (turns_of run.course) run.first.now.table run.made (listed run.heir) T.rest p e _ _ g k q (IsSeenAt found) come ask passes then here here onto
    (λ z same rest. seen found wide z (λ m le. same m le ∙ ap (λ (x : Tried). pattern_of x m) (sym tried)) rest) all.0 in (
      subst (λ (s : Subject). AllByRecursion (IsSeenAt found) (passed_under s (One (event_at (after.made + 1) (Exit (name.Worker g k) q))))) (sym (same-subject run due quiet after is))
          (subst (λ n. AllByRecursion (IsSeenAt found) (passed_under (subject_of run) (One (event_at (n + 1) (Exit (name.Worker g k) q))))) (sym is.made) whole),
      tt,
    )
seen-known-later run due after p by call (name.Draining g k) q found at asks tried is next passes seen here there wide all = absurd (cc passes)
seen-known-later run due after p by call (name.Master i) q found at asks tried is next passes seen here there wide all = absurd (cc passes)
