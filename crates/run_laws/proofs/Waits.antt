-- Workers are told to quit, and waited for: what was done before each call.
use Rattle.std.proofs.Common.{◌≡◌, ℕ, Bool, true, false, List, [], ◌∷◌, ◌++◌, Option, Some, None, refl, sym, ap, subst, append_assoc, ⊎_elim}
use Rattle.std.specs.Prelude.{⊤, ◌&&◌, if◌then◌else◌, IfSome, option_map}
use Rattle.std.specs.List.{AllByRecursion, list_any}
use Rattle.listener_set.specs.Numbers.{is_in, lacks}
use Rattle.listener_set.specs.declared.generation.Generation.{Generation}
use Rattle.vocabulary.specs.declared.names.Name.{Name}
use Rattle.vocabulary.specs.declared.calls.Call.{Call}
use Rattle.vocabulary.specs.declared.calls.Call.TheVariants.{Quit, Kill, AwaitGone}
use Rattle.vocabulary.specs.declared.calls.Answer.{Answer}
use Rattle.vocabulary.specs.declared.calls.Answer.TheVariants as answer
use Rattle.vocabulary.specs.declared.calls.Fate.{Fate}
use Rattle.vocabulary.specs.declared.calls.Reply.TheVariants as reply
use Rattle.vocabulary.specs.declared.plans.Order.TheVariants.{Make}
use Rattle.vocabulary.specs.declared.reports.Entry.{Entry}
use Rattle.definitions.specs.Table.{Table, bears}
use Rattle.definitions.specs.Calls.{after_exits, step_with, Handed}
use Rattle.definitions.specs.Master.{Record}
use Rattle.definitions.specs.Run.{Tree, Nothing, reply_of, Progress, Lost, after_call}
use Rattle.call_laws.specs.Pieces.{among, full_or_short, gone_edges, quits, was_waited_for}
use Rattle.definitions.specs.Plans.{on, does, then_edge, awaits_gone}
use Rattle.definitions.specs.Claims.{is_quit, is_wait, is_late, is_leave_call, was_late, IsKillDue, KillsAreDue}
use Rattle.definitions.specs.Claims.{before_leave, names_any}
use Rattle.table_laws.proofs.Rows.{both-true}
use Rattle.table_laws.proofs.Effects.{bears-refl}
use Rattle.table_laws.proofs.Sets.{in-here, in-there, in-cases, every-in}
use Rattle.run_laws.proofs.Logic.{Exiting, Course}
use Rattle.run_laws.proofs.Traces.{Asking, Finally, Growing, Traced, TracedBehind, AllTraced, Good, all-good, good-step}
use Rattle.run_laws.proofs.Traces.{entry_of, append-nil, any-more, any-last, then-last, then-more}

-- the reply that says so is the answer late
is-late : (set : List ℕ) (a : Answer) → among (reply.Late ∷ []) (reply_of set a) ≡ true → a ≡ answer.Late
is-late set (answer.Opened fd) e = absurd (cc e)
is-late set (answer.Counted ns) e = counts (lacks set ns) e
  where
    counts : (l : List ℕ) → among (reply.Late ∷ []) (full_or_short l) ≡ true → answer.Counted ns ≡ answer.Late
    counts [] e = absurd (cc e)
    counts (x ∷ l) e = absurd (cc e)
is-late set answer.Late e = refl
is-late set answer.InUse e = absurd (cc e)
is-late set answer.TooMany e = absurd (cc e)
is-late set answer.Denied e = absurd (cc e)
is-late set answer.NoMemory e = absurd (cc e)
is-late set answer.Fine e = absurd (cc e)
is-late set answer.Forked e = absurd (cc e)
is-late set answer.Again e = absurd (cc e)
is-late set answer.IsReady e = absurd (cc e)
is-late set answer.Gone e = absurd (cc e)
is-late set answer.Spawned e = absurd (cc e)
is-late set answer.NoImage e = absurd (cc e)
is-late set answer.Adopted e = absurd (cc e)
is-late set answer.Refused e = absurd (cc e)
is-late set answer.IoFault e = absurd (cc e)
is-late set answer.IsAlive e = absurd (cc e)
is-late set answer.Go e = absurd (cc e)
is-late set answer.Back e = absurd (cc e)
is-late set answer.MasterGone e = absurd (cc e)

-- what was done: told to quit, and waited for
abbrev pub Told : Generation → ℕ → List Entry → Type 0
Told g k past = list_any (λ e. is_quit (bears g k) e.call) past ≡ true

abbrev pub Waited : Generation → ℕ → List Entry → Type 0
Waited g k past = was_waited_for g k past ≡ true

-- all of some numbers were waited for
abbrev pub AllWaited : Generation → List ℕ → List Entry → Type 0
AllWaited g ready past = (k : ℕ) → is_in ready k ≡ true → Waited g k past

pub told-on : (g : Generation) (k : ℕ) → Growing (Told g k)
told-on g k past e h = any-more (λ e. is_quit (bears g k) e.call) past e h

pub waited-on : (g : Generation) (k : ℕ) → Growing (Waited g k)
waited-on g k past e h = then-more (λ e. is_quit (bears g k) e.call) (λ e. is_wait (bears g k) e.call) past e h

pub all-waited-on : (g : Generation) (ready : List ℕ) → Growing (AllWaited g ready)
all-waited-on g ready past e h = λ k on. waited-on g k past e (h k on)

module _ (by : ℕ) (g : Generation) (due : Asking) (post : Finally) (mild : Exiting) (co : Course)
    (lost : (past : List Entry) (p : Progress) → post past Lost p) (F : Table → Type 0)
    (exits : (es : List Name) (t : Table) → names_any co.executing es ≡ false → mild es t.rows → F t → F (after_exits es t))
  where
    abbrev T : List Entry → Tree → Progress → Type 0
    T past t p = Traced due post mild co past t p

    -- What follows when all were told.
    pub quits-told :
        (asks : (past : List Entry) (x : ℕ) (t : Table) → F t → due past (Quit g x) t)
        (keeps : (handed : Handed) (x : ℕ) (fate : Option Fate) (t : Table) → F t → F (step_with handed by (Quit g x) fate t).table)
        (ks : List ℕ) (rest : Tree) (K : List Entry → Type 0) → Growing K →
        ((past : List Entry) (p : Progress) → K past → ((k : ℕ) → is_in ks k ≡ true → Told g k past) → F p.table → T past rest p)
        → Good due post mild co lost F K (quits by g ks rest)
    quits-told asks keeps [] rest K grows next past p known h = next past p known (λ k e. absurd (cc e)) h
    quits-told asks keeps (x ∷ ks) rest K grows next past p known h =
        let more = quits by g ks rest in
        let K' : List Entry → Type 0 = λ past. K past × Told g x past in
        good-step due post mild co lost F K by (Quit g x) [] (then_edge more) refl exits (λ past t k h. asks past x t h)
        (λ past q fate k h.
        let st = step_with co.handed by (Quit g x) fate q.table in
        let e = entry_of by (Quit g x) st.answer in
        all-good due post mild co lost F K' (then_edge more) (
          (quits-told asks keeps ks rest K' (λ past e h. (grows past e h.0, told-on g x past e h.1))
              (λ past' p' k' told h'. next past' p' k'.0
              (λ j on. ⊎_elim (λ same. subst (λ z. Told g z past') same k'.1) (λ more. told j more)
              (in-cases x j ks on)) h')),
          tt,
        )
        (past ++ e ∷ []) (reply_of [] st.answer) (after_call by (Make (Quit g x)) [] st q)
        (grows past e k, any-last (λ e. is_quit (bears g x) e.call) past e (bears-refl g x))
        (keeps co.handed x fate q.table h)) past p known h

    -- what follows a wait, where the answer tells which
    gone-behind :
        (more killing : Tree) (past : List Entry) (a : Answer) (q : Progress) → T past more q →
        (a ≡ answer.Late → T past killing q) →
        TracedBehind due post mild co past (gone_edges more killing) (reply_of [] a) q
    gone-behind more killing past a q gone late =
        let after_late : TracedBehind due post mild co past (on (reply.Late ∷ []) killing Nothing) (reply_of [] a) q =
        elim (among (reply.Late ∷ []) (reply_of [] a)) as
        (λ b. among (reply.Late ∷ []) (reply_of [] a) ≡ b → elim b as (λ z. Type 0) [ true ↦ T past killing q | false ↦ post past Lost q ]) [
          | true ↦ λ e. late (is-late [] a e)
          | false ↦ λ e. lost past q
        ] refl in
        elim (among (reply.Gone ∷ []) (reply_of [] a)) as
        (λ b. elim b as (λ z. Type 0) [
          | true ↦ T past more q
          | false ↦ TracedBehind due post mild co past (on (reply.Late ∷ []) killing Nothing) (reply_of [] a) q
        ]) [
          | true ↦ gone
          | false ↦ after_late
        ]

    -- What follows when all were waited for. A kill comes after its worker was late.
    pub waits-told :
        (asks : (past : List Entry) (x : ℕ) (t : Table) → F t → due past (AwaitGone g x) t)
        (keeps : (handed : Handed) (x : ℕ) (fate : Option Fate) (t : Table) → F t → F (step_with handed by (AwaitGone g x) fate t).table)
        (asks_kill : (past : List Entry) (x : ℕ) (t : Table) → was_late g x past ≡ true → F t → due past (Kill g x) t)
        (keeps_kill : (handed : Handed) (x : ℕ) (fate : Option Fate) (t : Table) → F t → F (step_with handed by (Kill g x) fate t).table)
        (ks : List ℕ) (rest : Tree) (K : List Entry → Type 0) → Growing K →
        ((past : List Entry) → K past → (x : ℕ) → is_in ks x ≡ true → Told g x past) →
        ((past : List Entry) (q : Progress) → K past → AllWaited g ks past → F q.table → T past rest q) → Good due post
        mild co lost F K (awaits_gone by g ks rest)
    waits-told asks keeps asks_kill keeps_kill [] rest K grows told next past q known h = next past q known (λ x e. absurd (cc e)) h
    waits-told asks keeps asks_kill keeps_kill (x ∷ ks) rest K grows told next past q known h =
        let more = awaits_gone by g ks rest in
        let killing = does by (Kill g x) (then_edge more) in
        let K' : List Entry → Type 0 = λ past. K past × Waited g x past in
        let grows' : Growing K' = λ past e h. (grows past e h.0, waited-on g x past e h.1) in
        let goes_on : Good due post mild co lost F K' more =
        waits-told asks keeps asks_kill keeps_kill ks rest K' grows'
        (λ past'' h k e. told past'' h.0 k (in-there x k ks e))
        (λ past'' q'' h waited f. next past'' q'' h.0
        (λ k e. ⊎_elim (λ same. subst (λ z. Waited g z past'') same h.1) (λ later. waited k later)
        (in-cases x k ks e)) f)
        in
        good-step due post mild co lost F K by (AwaitGone g x) [] (gone_edges more killing) refl exits (λ past t k h. asks past x t h)
        (λ past1 q1 fate1 k1 h1.
        let st = step_with co.handed by (AwaitGone g x) fate1 q1.table in
        let e = entry_of by (AwaitGone g x) st.answer in
        let told_x = told past1 k1 x (in-here x x ks refl) in
        let waited : Waited g x (past1 ++ e ∷ []) = then-last (λ e. is_quit (bears g x) e.call)
        (λ e. is_wait (bears g x) e.call) past1 e told_x (bears-refl g x) in
        let known' : K' (past1 ++ e ∷ []) = (grows past1 e k1, waited) in
        let q' = after_call by (Make (AwaitGone g x)) [] st q1 in
        let h' = keeps co.handed x fate1 q1.table h1 in
        gone-behind more killing (past1 ++ e ∷ []) st.answer q' (goes_on (past1 ++ e ∷ []) q' known' h')
        (λ is.
        let was : was_late g x (past1 ++ e ∷ []) ≡ true =
        then-last (λ e. is_quit (bears g x) e.call) (λ e. is_wait (bears g x) e.call && is_late e.answer) past1 e told_x
        (both-true (bears g x g x) (is_late st.answer) (bears-refl g x) (ap is_late is)) in
        good-step due post mild co lost F (λ l. K' l × (was_late g x l ≡ true)) by (Kill g x) [] (then_edge more) refl
        exits (λ past t k h. asks_kill past x t k.1 h)
        (λ past2 q2 fate2 k2 h2.
        let st2 = step_with co.handed by (Kill g x) fate2 q2.table in
        let e2 = entry_of by (Kill g x) st2.answer in
        all-good due post mild co lost F K' (then_edge more) (goes_on, tt) (past2 ++ e2 ∷ []) (reply_of [] st2.answer)
        (after_call by (Make (Kill g x)) [] st2 q2) (grows' past2 e2 k2.0) (keeps_kill co.handed x fate2 q2.table h2))
        (past1 ++ e ∷ []) q' (known', was) h')) past q known h

---- What is claimed of a run

-- Each kill is due where what is asked of it says so.
pub kills-traced :
    (first : Table) (due : Asking) →
    ((past : List Entry) (call : Call) (t : Table) → due past call t → IsKillDue first past call t) →
    (past entries : List Entry) (passed : List Progress) → AllTraced due past entries passed →
    KillsAreDue first past entries passed
kills-traced first due is past [] passed h = tt
kills-traced first due is past (e ∷ entries) [] h = absurd h
kills-traced first due is past (e ∷ entries) (p ∷ []) h = absurd h
kills-traced first due is past (e ∷ entries) (p ∷ middle ∷ rest) h =
    (is past e.call middle.table h.0, kills-traced first due is (past ++ e ∷ []) entries rest h.1)

-- the entries before a Leave, after those of the past
abbrev Before : Record → List Entry → Option (List Entry) → Type 0
Before r past None = ⊤
Before r past (Some front) = AllByRecursion (λ k. was_waited_for r.generation k (past ++ front) ≡ true) r.ready

leaves-after :
    (r : Record) (due : Asking) →
    ((past : List Entry) (call : Call) (t : Table) → is_leave_call call ≡ true → due past call t → AllWaited r.generation r.ready past)
    → (past entries : List Entry) (passed : List Progress) → AllTraced due past entries passed → Before r past
    (before_leave entries)
leaves-after r due all past [] passed h = tt
leaves-after r due all past (e ∷ entries) [] h = absurd h
leaves-after r due all past (e ∷ entries) (p ∷ []) h = absurd h
leaves-after r due all past (e ∷ entries) (p ∷ middle ∷ rest) h =
    go (is_leave_call e.call) refl (before_leave entries) (leaves-after r due all (past ++ e ∷ []) entries rest h.1)
  where
    go : (b : Bool) → is_leave_call e.call ≡ b → (o : Option (List Entry)) → Before r (past ++ e ∷ []) o →
        Before r past (if b then Some [] else option_map (λ before. e ∷ before) o)
    go true is o ih =
        every-in (λ k. was_waited_for r.generation k (past ++ []) ≡ true) r.ready
        (λ k on. subst (λ l. was_waited_for r.generation k l ≡ true) (sym (append-nil past)) (all past e.call middle.table is h.0 k on))
    go false is None ih = tt
    go false is (Some front) ih = subst (λ l. AllByRecursion (λ k. was_waited_for r.generation k l ≡ true) r.ready) (append_assoc past (e ∷ []) front) ih

-- Before a Leave all were waited for, where there is one.
abbrev pub AreWaitedFor : Record → Option (List Entry) → Type 0
AreWaitedFor r o = IfSome o (λ before. AllByRecursion (λ k. was_waited_for r.generation k before ≡ true) r.ready)

-- That is so where what is asked of it says so.
pub leaves-traced :
    (r : Record) (due : Asking) →
    ((past : List Entry) (call : Call) (t : Table) → is_leave_call call ≡ true → due past call t → AllWaited r.generation r.ready past)
    → (entries : List Entry) (passed : List Progress) → AllTraced due [] entries passed → AreWaitedFor r
    (before_leave entries)
leaves-traced r due all entries passed h = from-before (before_leave entries) (leaves-after r due all [] entries passed h)
  where
    from-before : (o : Option (List Entry)) → Before r [] o → AreWaitedFor r o
    from-before None h = tt
    from-before (Some front) h = h
