-- One that was Ready at first, is told to quit and then waited for: no kill takes it but when it was late, and behind the wait it
-- is gone.
use Rattle.std.proofs.Common.{◌≡◌, ℕ, ◌<◌, Bool, true, false, List, [], ◌∷◌, ◌++◌, Option, Some, None, refl, sym, ap, ◌∙◌, subst, ⊎_elim}
use Rattle.std.specs.Prelude.{⊤, ◌&&◌, ◌||◌}
use Rattle.std.specs.List.{list_any}
use Rattle.listener_set.specs.Numbers.{is_in}
use Rattle.listener_set.specs.declared.generation.Generation.{Generation}
use Rattle.vocabulary.specs.declared.names.Name.{Name}
use Rattle.vocabulary.specs.declared.calls.Call.{Call}
use Rattle.vocabulary.specs.declared.calls.Call.TheVariants.{Quit, Kill, AwaitGone}
use Rattle.vocabulary.specs.declared.calls.Answer.TheVariants as answer
use Rattle.vocabulary.specs.declared.calls.Fate.{Fate}
use Rattle.vocabulary.specs.declared.plans.Order.TheVariants.{Make}
use Rattle.vocabulary.specs.declared.reports.Entry.{Entry}
use Rattle.definitions.specs.Table.{Process, Table, Caller, bears, is_worker}
use Rattle.definitions.specs.Calls.{after_exits, Stepped, gives, each_row, drop_where, step_by, step_with, Handed}
use Rattle.definitions.specs.Run.{Tree, Progress, Ending, Lost, reply_of, after_call}
use Rattle.definitions.specs.Plans.{awaits_gone, does, then_edge}
use Rattle.definitions.specs.Claims.{one_then, is_quit, is_wait, is_late, was_late, names_any}
use Rattle.call_laws.specs.Pieces.{is_any, gone_edges, quits, is_process_of}
use Rattle.call_laws.proofs.Cases.{gone-cases, unfailing}
use Rattle.call_laws.proofs.Choices.{pick}
use Rattle.table_laws.proofs.Rows.{FitsIn, every-filter_map, both-true, or-right}
use Rattle.table_laws.proofs.Exits.{spares-each}
use Rattle.table_laws.proofs.Effects.{bears-refl}
use Rattle.table_laws.proofs.Sets.{in-here, in-there, in-cases}
use Rattle.run_laws.proofs.Logic.{Exiting, Course, Anyhow}
use Rattle.run_laws.proofs.Processes.{Fact, one-found, fact-exits, fact-steps}
use Rattle.run_laws.proofs.Taken.{NotTaken, IsOther, OnlyOurs, InAny, IsUntouched, close-lasts, loose-lasts, loosens, not-gone-taken, not-killed}
use Rattle.run_laws.proofs.Absent.{Absent, absent-exits, absent-steps}
use Rattle.run_laws.proofs.Traces.{Asking, Finally, Traced, TracedBehind, Good, robust, good-step, entry_of, any-more, then-last}
use Rattle.run_laws.proofs.Waits.{Told, told-on, quits-told, waits-told}

-- Nothing is known of what was done.
abbrev pub Whatever : List Entry → Type 0
Whatever past = ⊤

---- What a wait for an end does

-- what is left when a name is killed, or was waited for
abbrev pub Cut : ℕ → Generation → ℕ → Table → Table
Cut m h x t = each_row (drop_where (is_worker is_any m h x)) t

pub kill-is :
    (m image n : ℕ) (P : Process → Type 0) (handed : Handed) (h : Generation) (x : ℕ) (fate : Option Fate) (t : Table) →
    Fact m image n P t → step_with handed image (Kill h x) fate t ≡ gives answer.Fine (Cut m h x t)
kill-is m image n P handed h x fate t fact =
    let (hs, found) = one-found m image t.rows fact.one.all fact.one.some in
    ap (λ (o : Option Caller). step_by handed image o (Kill h x) fate t) found
    ∙ unfailing handed image (record { number = m; holds = hs }) (Kill h x) fate t tt

-- What a kill of a name keeps, a wait for its end keeps.
pub wait-keeps :
    (m image n : ℕ) (P : Process → Type 0) (Q : Table → Type 0) (handed : Handed) (h : Generation) (x : ℕ)
    (fate : Option Fate) (t : Table) → Fact m image n P t → Q t → Q (step_with None image (Kill h x) None t).table →
    Q (step_with handed image (AwaitGone h x) fate t).table
wait-keeps m image n P Q handed h x fate t fact late killed =
    let (hs, found) = one-found m image t.rows fact.one.all fact.one.some in
    subst (λ (o : Option Caller). Q (step_by handed image o (AwaitGone h x) fate t).table) (sym found)
    (gone-cases handed image (record { number = m; holds = hs }) h x fate t (λ st. Q st.table) late
    (subst (λ (st : Stepped). Q st.table) (kill-is m image n P None h x None t fact) killed))

---- Where one was waited for

abbrev pub Waits : Generation → ℕ → List Entry → Type 0
Waits h k past = list_any (λ e. is_wait (bears h k) e.call) past ≡ true

second-of : (first second : Entry → Bool) (l : List Entry) → one_then first second l ≡ true → list_any second l ≡ true
second-of first second [] e = absurd (cc e)
second-of first second (x ∷ l) e =
    or-right (second x) (list_any second l) (go (first x) (list_any second l) (one_then first second l) e (second-of first second l))
  where
    go : (a b c : Bool) → ((a && b) || c) ≡ true → (c ≡ true → b ≡ true) → b ≡ true
    go true true c e rest = refl
    go true false c e rest = rest e
    go false b c e rest = rest e

-- They are told to quit, and waited for, it among them: nothing is asked of the rest where nothing is asked behind such a wait.
pub waited-for :
    (post : Finally) (mild : Exiting) (co : Course) (lost : (past : List Entry) (p : Progress) → post past Lost p)
    (by : ℕ) (h : Generation) (k : ℕ) (ends : (past : List Entry) (e : Ending) (q : Progress) → Waits h k past → post past e q)
    (ks : List ℕ) (rest : Tree) → is_in ks k ≡ true → (past : List Entry) (q : Progress) →
    Traced (λ past call t. ⊤) post mild co past (quits by h ks (awaits_gone by h ks rest)) q
waited-for post mild co lost by h k ends ks rest in_it past q =
    quits-told by h (λ past call t. ⊤) post mild co lost (λ t. ⊤) (λ es t spared mild h. tt) (λ past x t h. tt)
    (λ handed x fate t h. tt) ks (awaits_gone by h ks rest) Whatever (λ past e h. tt)
    (λ past1 q1 known told none. waits-told by h (λ past call t. ⊤) post mild co lost (λ t. ⊤) (λ es t spared mild h. tt)
    (λ past x t h. tt) (λ handed x fate t h. tt) (λ past x t late h. tt) (λ handed x fate t h. tt) ks rest
    (λ l. (x : ℕ) → is_in ks x ≡ true → Told h x l) (λ l e told x on. told-on h x l e (told x on)) (λ l told. told)
    (λ past2 q2 told2 waited none. robust (λ past call t. ⊤) post mild (λ t. ⊤) (Waits h k) (λ es t h. tt)
    (λ handed by call fate t h. tt) (λ past e w. any-more (λ e. is_wait (bears h k) e.call) past e w) (λ past call t w h. tt)
    (λ past e q w h. ends past e q w) co rest past2 q2
    (second-of (λ e. is_quit (bears h k) e.call) (λ e. is_wait (bears h k) e.call) past2 (waited k in_it)) tt)
    past1 q1 told tt)
    past q tt tt

---- Kills

-- a kill that takes the process comes after it was told to quit, and was late
abbrev pub LateFirst : ℕ → Asking
LateFirst n past (Kill h x) t = list_any (is_process_of n h x) t.rows ≡ true → was_late h x past ≡ true
LateFirst n past _ t = ⊤

pub not-taken-late : (n : ℕ) (past : List Entry) (call : Call) (t : Table) → NotTaken n call t → LateFirst n past call t
not-taken-late n past (Kill h x) t off = λ taken. absurd (cc (off, taken))
not-taken-late n past _ t off = tt

-- nothing is asked of an end
abbrev pub anyway : Finally
anyway past e q = ⊤

pub not-lost : (past : List Entry) (q : Progress) → anyway past Lost q
not-lost past q = tt

-- When it has left, nothing takes it.
pub absent-traced : (n : ℕ) (co : Course) (rest : Tree) (past : List Entry) (q : Progress) → Absent n q.table → Traced (LateFirst n) anyway Anyhow co past rest q
absent-traced n co rest past q h =
    robust (LateFirst n) anyway Anyhow (Absent n) Whatever (absent-exits n) (absent-steps n) (λ past e h. tt)
    (λ past call t known h. not-taken-late n past call t (free-call call t h)) (λ past e q known h. tt) co rest past q tt h
  where
    free-call : (call : Call) (t : Table) → Absent n t → NotTaken n call t
    free-call (Kill h x) t a = not-gone-taken n h x t.rows a.all
    free-call _ t a = tt

module _ (m image n : ℕ) (g : Generation) (k : ℕ) (low : k < 1024) (co : Course) (acts : is_in co.executing image ≡ true) where
  abbrev pub Close : Table → Type 0
  Close t = Fact m image n (OnlyOurs m image n g k low (IsUntouched m image n g k low)) t

  abbrev pub Loose : Table → Type 0
  Loose t = Fact m image n (OnlyOurs m image n g k low (InAny m image n g k low)) t

  pub exits-close : (es : List Name) (t : Table) → names_any co.executing es ≡ false → Anyhow es t.rows → Close t → Close (after_exits es t)
  exits-close es t spared mild h =
      fact-exits m image n _ _ (close-lasts m image n g k low) es t (spares-each co.executing image es acts spared) h

  pub exits-loose : (es : List Name) (t : Table) → names_any co.executing es ≡ false → Anyhow es t.rows → Loose t → Loose (after_exits es t)
  exits-loose es t spared mild h =
      fact-exits m image n _ _ (loose-lasts m image n g k low) es t (spares-each co.executing image es acts spared) h

  cut-loose : (x : ℕ) (t : Table) → Loose t → Loose (Cut m g x t)
  cut-loose x t h =
      subst (λ (st : Stepped). Loose st.table) (kill-is m image n _ None g x None t h)
      (fact-steps m image n _ _ (loose-lasts m image n g k low) None (Kill g x) None t tt h)

  cut-absent : (t : Table) → Loose t → Absent n (Cut m g k t)
  cut-absent t h = record {
    all =
        every-filter_map (OnlyOurs m image n g k low (InAny m image n g k low)) (IsOther n)
        (drop_where (is_worker is_any m g k))
        (λ row x. pick (FitsIn (IsOther n)) (is_worker is_any m g k row) None (Some row) (λ e. tt)
        (λ e. not-killed m image n g k low row x e))
        t.rows h.all;
    below = h.below;
  }

  -- All were told, and are waited for, it among them.
  waits-late :
      (ks : List ℕ) (rest : Tree) → is_in ks k ≡ true → (past : List Entry) (q : Progress) →
      ((x : ℕ) → is_in ks x ≡ true → Told g x past) → Loose q.table →
      Traced (LateFirst n) anyway Anyhow co past (awaits_gone image g ks rest) q
  waits-late [] rest in_it past q told h = absurd (cc in_it)
  waits-late (x ∷ ks) rest in_it past q told h =
      let more = awaits_gone image g ks rest in
      let killing = does image (Kill g x) (then_edge more) in
      let bs = gone_edges more killing in
      let after : (past' : List Entry) (q' : Progress) (t' : Table) →
      ((j : ℕ) → is_in ks j ≡ true → Told g j past') → Loose t' → q'.table ≡ Cut m g x t' →
      Traced (LateFirst n) anyway Anyhow co past' more q' =
      λ past' q' t' told' h' is.
      ⊎_elim
      (λ same. absent-traced n co more past' q' (subst (λ z. Absent n z) (sym (is ∙ ap (λ j. Cut m g j t') same)) (cut-absent t' h')))
      (λ later. waits-late ks rest later past' q' told' (subst Loose (sym is) (cut-loose x t' h'))) (in-cases x k ks in_it) in
      good-step (LateFirst n) anyway Anyhow co not-lost Loose (λ l. (j : ℕ) → is_in (x ∷ ks) j ≡ true → Told g j l)
      image (AwaitGone g x) [] bs refl exits-loose (λ past t k h. tt)
      (λ past q' fate told' h'.
      let (hs, found) = one-found m image q'.table.rows h'.one.all h'.one.some in
      let P : Stepped → Type 0 =
      λ st. TracedBehind (LateFirst n) anyway Anyhow co (past ++ entry_of image (AwaitGone g x) st.answer ∷ []) bs
      (reply_of [] st.answer) (after_call image (Make (AwaitGone g x)) [] st q') in
      subst (λ (o : Option Caller). P (step_by co.handed image o (AwaitGone g x) fate q'.table)) (sym found)
      (gone-cases co.handed image (record { number = m; holds = hs }) g x fate q'.table P
      (let late = entry_of image (AwaitGone g x) answer.Late in
      let was : was_late g x (past ++ late ∷ []) ≡ true =
      then-last (λ e. is_quit (bears g x) e.call) (λ e. is_wait (bears g x) e.call && is_late e.answer) past late
      (told' x (in-here x x ks refl)) (both-true (bears g x g x) true (bears-refl g x) refl) in
      good-step (LateFirst n) anyway Anyhow co not-lost Loose
      (λ l. (was_late g x l ≡ true) × ((j : ℕ) → is_in ks j ≡ true → Told g j l)) image (Kill g x) []
      (then_edge more) refl exits-loose (λ past t k h taken. k.0)
      (λ past2 q2 fate2 k2 h2.
      let st = step_with co.handed image (Kill g x) fate2 q2.table in
      let is = kill-is m image n _ co.handed g x fate2 q2.table h2 in
      subst
      (λ (st : Stepped). TracedBehind (LateFirst n) anyway Anyhow co
      (past2 ++ entry_of image (Kill g x) st.answer ∷ []) (then_edge more) (reply_of [] st.answer)
      (after_call image (Make (Kill g x)) [] st q2))
      (sym is)
      (after (past2 ++ entry_of image (Kill g x) answer.Fine ∷ [])
      (after_call image (Make (Kill g x)) [] (gives answer.Fine (Cut m g x q2.table)) q2) q2.table
      (λ j e. any-more (λ e. is_quit (bears g j) e.call) past2 (entry_of image (Kill g x) answer.Fine) (k2.1 j e)) h2 refl))
      (past ++ late ∷ []) (after_call image (Make (AwaitGone g x)) [] (gives answer.Late q'.table) q')
      (was, λ j e. any-more (λ e. is_quit (bears g j) e.call) past late (told' j (in-there x j ks e))) h')
      (let gone = entry_of image (AwaitGone g x) answer.Gone in
      after (past ++ gone ∷ []) (after_call image (Make (AwaitGone g x)) [] (gives answer.Gone (Cut m g x q'.table)) q') q'.table
      (λ j e. any-more (λ e. is_quit (bears g j) e.call) past gone (told' j (in-there x j ks e))) h' refl)))
      past q told h

  -- All are told and waited for, it among them, whatever follows.
  pub told-and-waited :
      (ks : List ℕ) (rest : Tree) → is_in ks k ≡ true →
      Good (LateFirst n) anyway Anyhow co not-lost Close Whatever (quits image g ks (awaits_gone image g ks rest))
  told-and-waited ks rest in_it past q known h =
      quits-told image g (LateFirst n) anyway Anyhow co not-lost Loose exits-loose (λ past x t h. tt)
      (λ handed x fate t h. fact-steps m image n _ _ (loose-lasts m image n g k low) handed (Quit g x) fate t tt h)
      ks (awaits_gone image g ks rest) Whatever (λ past e h. tt)
      (λ past q' k' told h'. waits-late ks rest in_it past q' told h') past q tt (loosens m image n g k low q.table h)
