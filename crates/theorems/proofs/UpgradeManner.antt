-- The manner of an upgrade.
use Rattle.std.proofs.Common.{◌≡◌, ℕ, zero, suc, ◌<◌, Bool, true, false, List, [], ◌∷◌, ◌++◌, Option, Some, None, refl}
use Rattle.std.proofs.Common.{sym, ap, ◌∙◌, subst, ◌⊎◌, inl, inr, ⊎_elim}
use Rattle.std.specs.Prelude.{⊤, ◌&&◌, reverse}
use Rattle.std.specs.List.{list_any}
use Rattle.listener_set.specs.Numbers.{is_in, lacks}
use Rattle.vocabulary.specs.declared.names.Name.{Name}
use Rattle.vocabulary.specs.declared.calls.Call.{Call}
use Rattle.vocabulary.specs.declared.calls.Call.TheVariants.{OpenAt, CloseAt, Fork, AwaitReady, Census, Adopt, WritePid}
use Rattle.vocabulary.specs.declared.calls.Call.TheVariants.{MovePid, SpawnMaster, TermMaster, Quit, Kill, AwaitGone}
use Rattle.vocabulary.specs.declared.calls.Call.TheVariants.{Leave, Ask}
use Rattle.vocabulary.specs.declared.calls.Answer.TheVariants as answer
use Rattle.vocabulary.specs.declared.calls.Fate.{Fate}
use Rattle.vocabulary.specs.declared.targets.Target.TheVariants.{Upgrade, Attended}
use Rattle.vocabulary.specs.declared.plans.Side.{Side}
use Rattle.vocabulary.specs.declared.plans.Side.TheVariants.{Old}
use Rattle.vocabulary.specs.declared.plans.Order.{Order}
use Rattle.vocabulary.specs.declared.plans.Order.TheVariants.{Make, ForkLacking, AwaitLacking, KillLacking}
use Rattle.vocabulary.specs.declared.reports.Entry.{Entry}
use Rattle.vocabulary.specs.declared.calls.Reply.{Reply}
use Rattle.vocabulary.specs.Settings.{Settings}
use Rattle.definitions.specs.Table.{Table, Caller, bears, is_worker}
use Rattle.call_laws.specs.Pieces.{is_any, among, quits, gone_edges, noted, lacked_last, is_process_of}
use Rattle.definitions.specs.Master.{Crew, sides_of}
use Rattle.definitions.specs.Calls.{after_exits, Stepped, gives, each_row, drop_where, census_of, is_exited_of, step_by}
use Rattle.definitions.specs.Calls.{step_with, Handed}
use Rattle.definitions.specs.Run.{Tree, Branches, Ends, Does, Nothing, Branch, reply_of, call_of, Progress, Lost}
use Rattle.definitions.specs.Run.{start_at, outcome_of, after_call, ready_after}
use Rattle.definitions.specs.Plans.{upgrade_tree, settle, awaits_gone, then_edge, does}
use Rattle.definitions.specs.Claims.{has_ready, is_lost, is_old_side, is_quit, is_wait, is_late, is_leave_call}
use Rattle.definitions.specs.Claims.{was_late, IsKillDue, KillsAreDue, Manner, names_any}
use Rattle.theorems.proofs.Ends.{numbered-image}
use Rattle.theorems.proofs.Headlines.{InManner}
use Rattle.run_laws.proofs.Refusals.{is_leave}
use Rattle.table_laws.proofs.Rows.{FitsIn, every-filter_map, both-true}
use Rattle.call_laws.proofs.Choices.{pick}
use Rattle.table_laws.proofs.Exits.{spares-each}
use Rattle.table_laws.proofs.Effects.{bears-refl}
use Rattle.table_laws.proofs.Sets.{in-here, in-there, in-cases}
use Rattle.table_laws.proofs.Small.{in-reverse}
use Rattle.run_laws.proofs.Logic.{Unasked, Anyhow, Course, course_after, are-mild-anyhow, refused_in, run_in}
use Rattle.call_laws.proofs.Cases.{gone-cases, unfailing}
use Rattle.run_laws.proofs.Processes.{AnyCall, Fact, one-found, fact-any, fact-exits, fact-steps}
use Rattle.vocabulary.specs.declared.plans.Turn.{Turn}
use Rattle.theorems.proofs.UpgradeMends.{Spares}
use Rattle.run_laws.proofs.Lights.{settle-along, first-lacks}
use Rattle.run_laws.proofs.Staying.{Unlost, Stands, standing, stands-any, stands-exits}
use Rattle.run_laws.proofs.Taken.{NotTaken, IsOther, OnlyOurs, InAny, IsUntouched, untouched, may-exits, may-any}
use Rattle.run_laws.proofs.Taken.{close-lasts, loose-lasts, loosens, not-gone-taken, not-killed}
use Rattle.run_laws.proofs.Absent.{Absent, absent-exits, absent-steps}
use Rattle.run_laws.proofs.Firsts.{first-in, first-low, first-stands, first-untouched, stands-ready}
use Rattle.run_laws.proofs.Manners.{are-unlost}
use Rattle.run_laws.proofs.Traces.{Asking, Finally, Traced, TracedBehind, AllTraced, from-traced, along-traced, robust}
use Rattle.run_laws.proofs.Traces.{robust-behind, good-step, entry_of, any-more, any-last, then-last}
use Rattle.theorems.proofs.UpgradeStage.{Given, g, old_crew, new_crew, R, A0, wanted, n, co, acts}
use Rattle.theorems.proofs.UpgradeWalk.{Free, IsGood, upgrade-good, any-stays}
use Rattle.run_laws.proofs.Waits.{Told, AllWaited, told-on, all-waited-on, quits-told, waits-told, leaves-traced}

-- Whom a count of the old master lacks, where the count tells who is Ready.
lacks-for :
    (c : Given) (May : ℕ → Table → Type 0) (handed : Handed) (fate : Option Fate) (t : Table) → step_with handed
    c.rec.generation.image (Census (g c)) fate t ≡ gives (answer.Counted (census_of c.rec.pid (g c) t.rows))
    (each_row (drop_where (is_exited_of c.rec.pid)) t) →
    ((x : ℕ) → is_in (R c) x ≡ true → is_in (census_of c.rec.pid (g c) t.rows) x ≡ false → May x (each_row (drop_where (is_exited_of c.rec.pid)) t))
    → (cs : List ℕ) → (step_with handed c.rec.generation.image (Census (g c)) fate t).answer ≡ answer.Counted cs → (x : ℕ)
    (xs : List ℕ) → lacks (R c) cs ≡ x ∷ xs → May x (step_with handed c.rec.generation.image (Census (g c)) fate t).table
lacks-for c May handed fate t is may cs e x xs l =
    let same : answer.Counted (census_of c.rec.pid (g c) t.rows) ≡ answer.Counted cs = sym (ap (λ (s : Stepped). s.answer) is) ∙ e in
    let cs_is : census_of c.rec.pid (g c) t.rows ≡ cs = ap (λ a. ready_after a []) same in
    let o = first-lacks (R c) cs x xs l in
    subst (λ (s : Stepped). May x s.table) (sym is) (may x o.0 (subst (λ z. is_in z x ≡ false) (sym cs_is) o.1))

-- the plan
abbrev tree_of : Given → List Turn → Tree
tree_of c turns =
    upgrade_tree c.attended c.rec.generation.image (old_crew c) (new_crew c) (R c) c.rec.retries c.rec.pid_path
    c.rec.note (A0 c) (wanted c) (n c) turns

---- Who stays

module _ (c : Given) (p k : ℕ) (on : has_ready c.t p k ≡ true) where
  abbrev low : k < 1024
  low = first-low c.t c.rec c.start p k on

  abbrev F : Table → Type 0
  F t = Stands c.rec.pid c.rec.generation.image p c.rec.generation k low t

  -- it stands at an end on the old side, unless its master had waited for it to go
  abbrev stays : Finally
  stays past e q =
      is_old_side (outcome_of (sides_of c.rec (Upgrade c.st)) e (lacked_last q.lacked)) ≡ true →
      list_any (λ e. is_wait (λ g k. true) e.call) past ≡ false → F q.table

  abbrev no_asking : Asking
  no_asking past call t = ⊤

  never-lost : (past : List Entry) (q : Progress) → stays past Lost q
  never-lost past q old = absurd (cc old)

  exits-it : (es : List Name) (t : Table) → names_any (co c).executing es ≡ false → Unlost p es t.rows → F t → F (after_exits es t)
  exits-it es t spared mild h =
      stands-exits c.rec.pid c.rec.generation.image p c.rec.generation k low es t
      (spares-each (co c).executing c.rec.generation.image es (acts c) spared) mild h

  settled-it : IsGood c no_asking stays (Unlost p) never-lost F exits-it Free (settle c.rec.generation.image (old_crew c) (R c) Old c.rec.retries)
  settled-it past q known h =
      along-traced no_asking stays (Unlost p) Unasked (λ e q. F q.table) (λ past call t x. tt)
      (λ past e q st old none. st) (co c) (settle c.rec.generation.image (old_crew c) (R c) Old c.rec.retries) q
      (settle-along c.rec.generation.image (Unlost p) Unasked
      (standing c.rec.pid c.rec.generation.image p c.rec.generation k low) (λ e q. F q.table) (λ e q st. st) (co c)
      (acts c) Old (old_crew c) (R c) c.rec.retries q tt h)
      past

  -- someone was waited for
  abbrev Waits : List Entry → Type 0
  Waits past = list_any (λ e. is_wait (λ g k. true) e.call) past ≡ true

  abbrev edges : List ℕ → Tree → ℕ → Branches
  edges xs rest x = let more = awaits_gone c.rec.generation.image (g c) xs rest in gone_edges more (does c.rec.generation.image (Kill (g c) x) (then_edge more))

  waited-any :
      (l : List ℕ) (x : ℕ) (xs : List ℕ) (rest : Tree) → l ≡ x ∷ xs → (past : List Entry) (q : Progress) →
      Traced no_asking stays (Unlost p) (co c) past (awaits_gone c.rec.generation.image (g c) l rest) q
  waited-any l x xs rest is past q =
      subst (λ z. Traced no_asking stays (Unlost p) (co c) past (awaits_gone c.rec.generation.image (g c) z rest) q) (sym is)
      (good-step no_asking stays (Unlost p) (co c) never-lost (λ t. ⊤) Free c.rec.generation.image
      (AwaitGone (g c) x) [] (edges xs rest x) refl (λ es t spared mild h. tt) (λ past t known h. tt)
      (λ past q' fate known h.
      let st = step_with (co c).handed c.rec.generation.image (AwaitGone (g c) x) fate q'.table in
      robust-behind no_asking stays (Unlost p) (λ t. ⊤) Waits (λ es t h. tt) (λ handed by call fate t h. tt)
      (λ past e w. any-more (λ e. is_wait (λ g k. true) e.call) past e w) (λ past call t w h. tt)
      (λ past e q w h old none. absurd (cc (w, none))) (co c) (edges xs rest x)
      (past ++ entry_of c.rec.generation.image (AwaitGone (g c) x) st.answer ∷ []) (reply_of [] st.answer)
      (after_call c.rec.generation.image (Make (AwaitGone (g c) x)) [] st q')
      (any-last (λ e. is_wait (λ g k. true) e.call) past (entry_of c.rec.generation.image (AwaitGone (g c) x) st.answer) refl) tt) past q tt tt)

  first-of : (l : List ℕ) → is_in l k ≡ true → (x : ℕ) × (xs : List ℕ) × (l ≡ x ∷ xs)
  first-of [] e = absurd (cc e)
  first-of (x ∷ xs) e = (x, xs, refl)

  relieved-it :
      (rest : Tree) → IsGood c no_asking stays (Unlost p) never-lost F exits-it Free
      (quits c.rec.generation.image (g c) (reverse (R c)) (awaits_gone c.rec.generation.image (g c) (reverse (R c)) rest))
  relieved-it rest past q known h =
      let (x, xs, is) = first-of (reverse (R c)) (in-reverse (R c) k ∙ first-in c.t c.rec c.start p k on) in
      quits-told c.rec.generation.image (g c) no_asking stays (Unlost p) (co c) never-lost (λ t. ⊤)
      (λ es t spared mild h. tt) (λ past x t h. tt) (λ handed x fate t h. tt) (reverse (R c))
      (awaits_gone c.rec.generation.image (g c) (reverse (R c)) rest) Free (λ past e h. tt)
      (λ past q' k' told h'. waited-any (reverse (R c)) x xs rest is past q') past q tt tt

  any-it :
      (handed : Handed) (by : ℕ) (call : Call) (fate : Option Fate) (t : Table) → AnyCall c.rec.generation.image call →
      F t → F (step_with handed by call fate t).table
  any-it handed by call fate t is h = stands-any c.rec.pid c.rec.generation.image p c.rec.generation k low handed by call fate t is h

  asks-it : (past : List Entry) (call : Call) (t : Table) → AnyCall c.rec.generation.image call → F t → no_asking past call t
  asks-it past call t is h = tt

  spares-it : Spares c no_asking stays (Unlost p) never-lost F exits-it any-it asks-it
  spares-it =
      let light = standing c.rec.pid c.rec.generation.image p c.rec.generation k low in
      record {
        May = λ x t. light.May (g c) x t;
        may_exits = λ x es t spared mild m. m;
        may_any = λ x handed image call fate t is m. m;
        lacked =
            λ handed fate t h cs e x xs l. lacks-for c (λ x t. light.May (g c) x t) handed fate t
            (light.counted handed (g c) fate t h) (λ x on off. light.lacking (g c) (R c) t x tt h on off) cs e x xs l;
        kill_due = λ past x t h m. tt;
        kills = λ handed x fate t h m. light.kills handed (g c) x fate t h m;
      }

  pub stays-traced : (turns : List Turn) → Traced no_asking stays (Unlost p) (co c) [] (tree_of c turns) (start_at c.t c.rec.note)
  stays-traced turns =
      upgrade-good c no_asking stays (Unlost p) never-lost F exits-it any-it asks-it settled-it relieved-it spares-it turns
      [] (start_at c.t c.rec.note) tt (first-stands c.t c.rec c.start p k on)

  ---- No kill takes it but when it was late

  abbrev Close : Table → Type 0
  Close t =
      Fact c.rec.pid c.rec.generation.image p
      (OnlyOurs c.rec.pid c.rec.generation.image p c.rec.generation k low (IsUntouched c.rec.pid c.rec.generation.image p c.rec.generation k low))
      t

  abbrev Loose : Table → Type 0
  Loose t =
      Fact c.rec.pid c.rec.generation.image p
      (OnlyOurs c.rec.pid c.rec.generation.image p c.rec.generation k low (InAny c.rec.pid c.rec.generation.image p c.rec.generation k low))
      t

  abbrev pub LateFirst : Asking
  LateFirst past (Kill h x) t = list_any (is_process_of p h x) t.rows ≡ true → was_late h x past ≡ true
  LateFirst past _ t = ⊤

  abbrev anyway : Finally
  anyway past e q = ⊤

  not-lost : (past : List Entry) (q : Progress) → anyway past Lost q
  not-lost past q = tt

  unasked-late : (past : List Entry) (call : Call) (t : Table) → AnyCall c.rec.generation.image call → LateFirst past call t
  unasked-late past (OpenAt a) t any = tt
  unasked-late past (CloseAt a) t any = tt
  unasked-late past (Fork h x fds) t any = tt
  unasked-late past (AwaitReady h x) t any = tt
  unasked-late past (Census h) t any = tt
  unasked-late past Adopt t any = tt
  unasked-late past (WritePid path) t any = tt
  unasked-late past (MovePid from to) t any = tt
  unasked-late past (SpawnMaster i) t any = tt
  unasked-late past (TermMaster i) t any = tt
  unasked-late past (Ask q) t any = tt
  unasked-late past _ t any = absurd any

  not-taken-late : (past : List Entry) (call : Call) (t : Table) → NotTaken p call t → LateFirst past call t
  not-taken-late past (Kill h x) t off = λ taken. absurd (cc (off, taken))
  not-taken-late past _ t off = tt

  exits-close : (es : List Name) (t : Table) → names_any (co c).executing es ≡ false → Anyhow es t.rows → Close t → Close (after_exits es t)
  exits-close es t spared mild h =
      fact-exits c.rec.pid c.rec.generation.image p _ _
      (close-lasts c.rec.pid c.rec.generation.image p c.rec.generation k low) es t
      (spares-each (co c).executing c.rec.generation.image es (acts c) spared) h

  exits-loose : (es : List Name) (t : Table) → names_any (co c).executing es ≡ false → Anyhow es t.rows → Loose t → Loose (after_exits es t)
  exits-loose es t spared mild h =
      fact-exits c.rec.pid c.rec.generation.image p _ _
      (loose-lasts c.rec.pid c.rec.generation.image p c.rec.generation k low) es t
      (spares-each (co c).executing c.rec.generation.image es (acts c) spared) h

  settled-close : IsGood c LateFirst anyway Anyhow not-lost Close exits-close Free (settle c.rec.generation.image (old_crew c) (R c) Old c.rec.retries)
  settled-close past q known h =
      along-traced LateFirst anyway Anyhow (NotTaken p) (λ e q. ⊤) not-taken-late (λ past e q x. tt) (co c)
      (settle c.rec.generation.image (old_crew c) (R c) Old c.rec.retries) q
      (settle-along c.rec.generation.image Anyhow (NotTaken p)
      (untouched c.rec.pid c.rec.generation.image p c.rec.generation k low) (λ e q. ⊤) (λ e q st. tt) (co c)
      (acts c) Old (old_crew c) (R c) c.rec.retries q tt h)
      past

  -- When it has left, nothing takes it.
  absent-traced : (rest : Tree) (past : List Entry) (q : Progress) → Absent p q.table → Traced LateFirst anyway Anyhow (co c) past rest q
  absent-traced rest past q h =
      robust LateFirst anyway Anyhow (Absent p) Free (absent-exits p) (absent-steps p) (λ past e h. tt)
      (λ past call t known h. not-taken-late past call t (free-call call t h)) (λ past e q known h. tt) (co c) rest past q tt h
    where
      free-call : (call : Call) (t : Table) → Absent p t → NotTaken p call t
      free-call (Kill h x) t a = not-gone-taken p h x t.rows a.all
      free-call _ t a = tt

  -- what is left when a name is killed, or was waited for
  abbrev Cut : ℕ → Table → Table
  Cut x t = each_row (drop_where (is_worker is_any c.rec.pid (g c) x)) t

  kill-is :
      (handed : Handed) (x : ℕ) (fate : Option Fate) (t : Table) → Loose t →
      step_with handed c.rec.generation.image (Kill (g c) x) fate t ≡ gives answer.Fine (Cut x t)
  kill-is handed x fate t h =
      let (hs, found) = one-found c.rec.pid c.rec.generation.image t.rows h.one.all h.one.some in
      ap (λ (o : Option Caller). step_by handed c.rec.generation.image o (Kill (g c) x) fate t) found ∙ unfailing handed
      c.rec.generation.image (record { number = c.rec.pid; holds = hs }) (Kill (g c) x) fate t tt

  cut-loose : (x : ℕ) (t : Table) → Loose t → Loose (Cut x t)
  cut-loose x t h =
      subst (λ (st : Stepped). Loose st.table) (kill-is None x None t h)
      (fact-steps c.rec.pid c.rec.generation.image p _ _
      (loose-lasts c.rec.pid c.rec.generation.image p c.rec.generation k low) None (Kill (g c) x) None t tt h)

  cut-absent : (t : Table) → Loose t → Absent p (Cut k t)
  cut-absent t h = record {
    all =
        every-filter_map
        (OnlyOurs c.rec.pid c.rec.generation.image p c.rec.generation k low (InAny c.rec.pid c.rec.generation.image p c.rec.generation k low))
        (IsOther p) (drop_where (is_worker is_any c.rec.pid (g c) k))
        (λ row x. pick (FitsIn (IsOther p)) (is_worker is_any c.rec.pid (g c) k row) None (Some row) (λ e. tt)
        (λ e. not-killed c.rec.pid c.rec.generation.image p c.rec.generation k low row x e))
        t.rows h.all;
    below = h.below;
  }

  waits-late :
      (ks : List ℕ) (rest : Tree) → is_in ks k ≡ true → (past : List Entry) (q : Progress) →
      ((x : ℕ) → is_in ks x ≡ true → Told (g c) x past) → Loose q.table →
      Traced LateFirst anyway Anyhow (co c) past (awaits_gone c.rec.generation.image (g c) ks rest) q
  waits-late [] rest in_it past q told h = absurd (cc in_it)
  waits-late (x ∷ ks) rest in_it past q told h =
      let by = c.rec.generation.image in
      let more = awaits_gone by (g c) ks rest in
      let killing = does by (Kill (g c) x) (then_edge more) in
      let bs = gone_edges more killing in
      let after : (past' : List Entry) (q' : Progress) (t' : Table) →
      ((j : ℕ) → is_in ks j ≡ true → Told (g c) j past') → Loose t' → q'.table ≡ Cut x t' →
      Traced LateFirst anyway Anyhow (co c) past' more q' =
      λ past' q' t' told' h' is.
      ⊎_elim
      (λ same. absent-traced more past' q' (subst (λ z. Absent p z) (sym (is ∙ ap (λ j. Cut j t') same)) (cut-absent t' h')))
      (λ later. waits-late ks rest later past' q' told' (subst Loose (sym is) (cut-loose x t' h'))) (in-cases x k ks in_it) in
      good-step LateFirst anyway Anyhow (co c) not-lost Loose (λ l. (j : ℕ) → is_in (x ∷ ks) j ≡ true → Told (g c) j l)
      by (AwaitGone (g c) x) [] bs refl exits-loose (λ past t k h. tt)
      (λ past q' fate told' h'.
      let (hs, found) = one-found c.rec.pid by q'.table.rows h'.one.all h'.one.some in
      let P : Stepped → Type 0 =
      λ st. TracedBehind LateFirst anyway Anyhow (co c) (past ++ entry_of by (AwaitGone (g c) x) st.answer ∷ []) bs
      (reply_of [] st.answer) (after_call c.rec.generation.image (Make (AwaitGone (g c) x)) [] st q') in
      subst (λ (o : Option Caller). P (step_by (co c).handed by o (AwaitGone (g c) x) fate q'.table)) (sym found)
      (gone-cases (co c).handed by (record { number = c.rec.pid; holds = hs }) (g c) x fate q'.table P
      (let late = entry_of by (AwaitGone (g c) x) answer.Late in
      let was : was_late (g c) x (past ++ late ∷ []) ≡ true =
      then-last (λ e. is_quit (bears (g c) x) e.call) (λ e. is_wait (bears (g c) x) e.call && is_late e.answer) past late
      (told' x (in-here x x ks refl)) (both-true (bears (g c) x (g c) x) true (bears-refl (g c) x) refl) in
      good-step LateFirst anyway Anyhow (co c) not-lost Loose
      (λ l. (was_late (g c) x l ≡ true) × ((j : ℕ) → is_in ks j ≡ true → Told (g c) j l)) by (Kill (g c) x) []
      (then_edge more) refl exits-loose (λ past t k h taken. k.0)
      (λ past2 q2 fate2 k2 h2.
      let st = step_with (co c).handed by (Kill (g c) x) fate2 q2.table in
      let is = kill-is (co c).handed x fate2 q2.table h2 in
      subst
      (λ (st : Stepped). TracedBehind LateFirst anyway Anyhow (co c)
      (past2 ++ entry_of by (Kill (g c) x) st.answer ∷ []) (then_edge more) (reply_of [] st.answer)
      (after_call c.rec.generation.image (Make (Kill (g c) x)) [] st q2))
      (sym is)
      (after (past2 ++ entry_of by (Kill (g c) x) answer.Fine ∷ [])
      (after_call c.rec.generation.image (Make (Kill (g c) x)) [] (gives answer.Fine (Cut x q2.table)) q2) q2.table
      (λ j e. any-more (λ e. is_quit (bears (g c) j) e.call) past2 (entry_of by (Kill (g c) x) answer.Fine) (k2.1 j e)) h2 refl))
      (past ++ late ∷ []) (after_call c.rec.generation.image (Make (AwaitGone (g c) x)) [] (gives answer.Late q'.table) q')
      (was, λ j e. any-more (λ e. is_quit (bears (g c) j) e.call) past late (told' j (in-there x j ks e))) h')
      (let gone = entry_of by (AwaitGone (g c) x) answer.Gone in
      after (past ++ gone ∷ []) (after_call c.rec.generation.image (Make (AwaitGone (g c) x)) [] (gives answer.Gone (Cut x q'.table)) q') q'.table
      (λ j e. any-more (λ e. is_quit (bears (g c) j) e.call) past gone (told' j (in-there x j ks e))) h' refl)))
      past q told h

  relieved-close :
      (rest : Tree) → IsGood c LateFirst anyway Anyhow not-lost Close exits-close Free
      (quits c.rec.generation.image (g c) (reverse (R c)) (awaits_gone c.rec.generation.image (g c) (reverse (R c)) rest))
  relieved-close rest past q known h =
      quits-told c.rec.generation.image (g c) LateFirst anyway Anyhow (co c) not-lost Loose exits-loose (λ past x t h. tt)
      (λ handed x fate t h. fact-steps c.rec.pid c.rec.generation.image p _ _
      (loose-lasts c.rec.pid c.rec.generation.image p c.rec.generation k low) handed (Quit (g c) x) fate t tt h)
      (reverse (R c)) (awaits_gone c.rec.generation.image (g c) (reverse (R c)) rest) Free (λ past e h. tt)
      (λ past q' k' told h'. waits-late (reverse (R c)) rest (in-reverse (R c) k ∙ first-in c.t c.rec c.start p k on) past q' told h') past q tt
      (loosens c.rec.pid c.rec.generation.image p c.rec.generation k low q.table h)

  any-close :
      (handed : Handed) (by : ℕ) (call : Call) (fate : Option Fate) (t : Table) → AnyCall c.rec.generation.image call →
      Close t → Close (step_with handed by call fate t).table
  any-close handed by call fate t is h =
      fact-any c.rec.pid c.rec.generation.image p _ _
      (close-lasts c.rec.pid c.rec.generation.image p c.rec.generation k low) [] handed by call fate t is h

  asks-close : (past : List Entry) (call : Call) (t : Table) → AnyCall c.rec.generation.image call → Close t → LateFirst past call t
  asks-close past call t is h = unasked-late past call t is

  spares-close : Spares c LateFirst anyway Anyhow not-lost Close exits-close any-close asks-close
  spares-close =
      let light = untouched c.rec.pid c.rec.generation.image p c.rec.generation k low in
      record {
        May = λ x t. light.May (g c) x t;
        may_exits =
            λ x es t spared mild m. may-exits c.rec.pid c.rec.generation.image p c.rec.generation k low es t (g c) x
            (spares-each (co c).executing c.rec.generation.image es (acts c) spared) m;
        may_any = λ x handed image call fate t is m. may-any c.rec.pid c.rec.generation.image p c.rec.generation k low handed image call fate t (g c) x is m;
        lacked =
            λ handed fate t h cs e x xs l. lacks-for c (λ x t. light.May (g c) x t) handed fate t
            (light.counted handed (g c) fate t h) (λ x on off. light.lacking (g c) (R c) t x tt h on off) cs e x xs l;
        kill_due = λ past x t h m. not-taken-late past (Kill (g c) x) t (light.kill_due (g c) x t h m);
        kills = λ handed x fate t h m. light.kills handed (g c) x fate t h m;
      }

  pub late-traced : (turns : List Turn) → Traced LateFirst anyway Anyhow (co c) [] (tree_of c turns) (start_at c.t c.rec.note)
  late-traced turns =
      upgrade-good c LateFirst anyway Anyhow not-lost Close exits-close any-close asks-close settled-close relieved-close spares-close turns
      [] (start_at c.t c.rec.note) tt (first-untouched c.t c.rec c.start p k on)

---- Before a Leave all were waited for

module _ (c : Given) where
  abbrev pub WaitedFirst : Asking
  WaitedFirst past Leave t = AllWaited (g c) (R c) past
  WaitedFirst past _ t = ⊤

  abbrev whatever : Finally
  whatever past e q = ⊤

  not-lost-either : (past : List Entry) (q : Progress) → whatever past Lost q
  not-lost-either past q = tt

  abbrev Any : Table → Type 0
  Any t = ⊤

  exits-any : (es : List Name) (t : Table) → names_any (co c).executing es ≡ false → Anyhow es t.rows → Any t → Any (after_exits es t)
  exits-any es t spared mild h = tt

  stays-on : (past : List Entry) (call : Call) (t : Table) → is_leave_call call ≡ false → WaitedFirst past call t
  stays-on past Leave t e = absurd (cc e)
  stays-on past _ t e = tt

  -- trees with no Leave
  abbrev mutual
    NoLeave : Tree → Type 0
    NoLeave (Ends end) = ⊤
    NoLeave (Does by order set bs) = (is_leave order ≡ false) × NoLeaveBehind bs

    NoLeaveBehind : Branches → Type 0
    NoLeaveBehind Nothing = ⊤
    NoLeaveBehind (Branch replies said rest more) = NoLeave rest × NoLeaveBehind more

  named-stays : (order : Order) (l : List ℕ) → is_leave order ≡ false → is_leave_call (call_of order l) ≡ false
  named-stays (Make call) l e = e
  named-stays (ForkLacking h) l e = refl
  named-stays (AwaitLacking h) l e = refl
  named-stays (KillLacking h) l e = refl

  mutual
    no-leave : (x : Course) (t : Tree) (past : List Entry) (q : Progress) → NoLeave t → Traced WaitedFirst whatever Anyhow x past t q
    no-leave x (Ends end) past q h = tt
    no-leave x (Does by order set bs) past q h =
        λ spared mild.
        (stays-on past _ _ (named-stays order _ h.0), no-leave-behind (course_after order x) bs _ _ _ h.1)

    no-leave-behind :
        (x : Course) (bs : Branches) (past : List Entry) (r : Reply) (q : Progress) → NoLeaveBehind bs →
        TracedBehind WaitedFirst whatever Anyhow x past bs r q
    no-leave-behind x Nothing past r q h = tt
    no-leave-behind x (Branch replies said rest more) past r q h =
        let here = no-leave x rest past (noted said q) h.0 in
        let there = no-leave-behind x more past r q h.1 in
        elim (among replies r) as
        (λ b. elim b as (λ z. Type 0) [
          | true ↦ Traced WaitedFirst whatever Anyhow x past rest (noted said q)
          | false ↦ TracedBehind WaitedFirst whatever Anyhow x past more r q
        ]) [
          | true ↦ here
          | false ↦ there
        ]

  no-leave-settle : (by : ℕ) (h : Crew) (S : List ℕ) (side : Side) (rounds : ℕ) → NoLeave (settle by h S side rounds)
  no-leave-settle by h S side zero = (refl, (tt, (tt, tt)))
  no-leave-settle by h S side (suc rounds) =
      let rest = no-leave-settle by h S side rounds in
      (refl, (tt, ((refl, ((refl, (rest, ((refl, (rest, tt)), tt))), (rest, tt))), tt)))

  relieved-waits :
      (rest : Tree) → IsGood c WaitedFirst whatever Anyhow not-lost-either Any exits-any Free
      (quits c.rec.generation.image (g c) (reverse (R c)) (awaits_gone c.rec.generation.image (g c) (reverse (R c)) rest))
  relieved-waits rest past q known h =
      let by = c.rec.generation.image in
      let L = reverse (R c) in
      quits-told by (g c) WaitedFirst whatever Anyhow (co c) not-lost-either Any exits-any (λ past x t h. tt)
      (λ handed x fate t h. tt) L (awaits_gone by (g c) L rest) Free (λ past e h. tt)
      (λ past1 q1 k1 told h1. waits-told by (g c) WaitedFirst whatever Anyhow (co c) not-lost-either Any exits-any
      (λ past x t h. tt) (λ handed x fate t h. tt) (λ past x t late h. tt) (λ handed x fate t h. tt) L rest
      (λ l. (x : ℕ) → is_in L x ≡ true → Told (g c) x l) (λ l e h x on. told-on (g c) x l e (h x on)) (λ l h. h)
      (λ past2 q2 k2 waited h2. robust WaitedFirst whatever Anyhow Any (AllWaited (g c) (R c)) (λ es t h. tt)
      (λ handed by call fate t h. tt) (all-waited-on (g c) (R c)) asked (λ past e q k h. tt) (co c) rest past2 q2
      (λ x on. waited x (in-reverse (R c) x ∙ on)) tt)
      past1 q1 told tt) past q tt tt
    where
      asked : (past : List Entry) (call : Call) (t : Table) → AllWaited (g c) (R c) past → Any t → WaitedFirst past call t
      asked past Leave t k h = k
      asked past _ t k h = tt

  any-any :
      (handed : Handed) (by : ℕ) (call : Call) (fate : Option Fate) (t : Table) → AnyCall c.rec.generation.image call →
      Any t → Any (step_with handed by call fate t).table
  any-any handed by call fate t is h = tt

  asks-any : (past : List Entry) (call : Call) (t : Table) → AnyCall c.rec.generation.image call → Any t → WaitedFirst past call t
  asks-any past call t is h = stays-on past call t (any-stays c.rec.generation.image call is)

  spares-any : Spares c WaitedFirst whatever Anyhow not-lost-either Any exits-any any-any asks-any
  spares-any = record {
    May = λ x t. ⊤;
    may_exits = λ x es t spared mild m. tt;
    may_any = λ x handed image call fate t is m. tt;
    lacked = λ handed fate t h cs e x xs l. tt;
    kill_due = λ past x t h m. tt;
    kills = λ handed x fate t h m. tt;
  }

  pub leave-traced : (turns : List Turn) → Traced WaitedFirst whatever Anyhow (co c) [] (tree_of c turns) (start_at c.t c.rec.note)
  leave-traced turns =
      upgrade-good c WaitedFirst whatever Anyhow not-lost-either Any exits-any any-any asks-any
      (λ past q k h. no-leave (co c) (settle c.rec.generation.image (old_crew c) (R c) Old c.rec.retries) past q
      (no-leave-settle c.rec.generation.image (old_crew c) (R c) Old c.rec.retries))
      relieved-waits spares-any turns
      [] (start_at c.t c.rec.note) tt tt

---- The manner

-- a kill of all who were Ready at first
kill-due :
    (c : Given) (past : List Entry) (call : Call) (t : Table) →
    ((p k : ℕ) (on : has_ready c.t p k ≡ true) → LateFirst c p k on past call t) → IsKillDue c.t past call t
kill-due c past (Kill h x) t all = λ p k on taken. all p k on taken
kill-due c past _ t all = tt

kills-due :
    (c : Given) (past entries : List Entry) (passed : List Progress) → AllTraced (WaitedFirst c) past entries passed →
    ((p k : ℕ) (on : has_ready c.t p k ≡ true) → AllTraced (LateFirst c p k on) past entries passed) →
    KillsAreDue c.t past entries passed
kills-due c past [] passed pairs h = tt
kills-due c past (e ∷ entries) [] pairs h = absurd pairs
kills-due c past (e ∷ entries) (q ∷ []) pairs h = absurd pairs
kills-due c past (e ∷ entries) (q ∷ middle ∷ rest) pairs h =
    (kill-due c past e.call middle.table (λ p k on. (h p k on).0), kills-due c (past ++ e ∷ []) entries rest pairs.1 (λ p k on. (h p k on).1))

leave-due : (c : Given) (past : List Entry) (call : Call) (t : Table) → is_leave_call call ≡ true → WaitedFirst c past call t → AllWaited (g c) (R c) past
leave-due c past Leave t e h = h
leave-due c past _ t e h = absurd (cc e)

manner-of : (c : Given) (turns : List Turn) → refused_in (co c) (tree_of c turns) (start_at c.t c.rec.note) ≡ None → let ran =
    run_in (co c) (tree_of c turns) (start_at c.t c.rec.note) in Manner c.rec (Upgrade c.st)
    (outcome_of (sides_of c.rec (Upgrade c.st)) ran.ending (lacked_last ran.last.lacked)) c.t ran
manner-of c turns spared =
    let at = start_at c.t c.rec.note in
    let tree = tree_of c turns in
    let ran = run_in (co c) tree at in
    let left = from-traced (WaitedFirst c) (λ past e q. ⊤) Anyhow (co c) [] tree at (leave-traced c turns) spared (are-mild-anyhow (co c) tree at) in (
      (λ old none p k on need. stays-it c p k on spared old none (is_lost p ran.passed) refl),
      kills-due c [] ran.entries ran.passed left.dues
          (λ p k on. (from-traced (LateFirst c p k on) (λ past e q. ⊤) Anyhow (co c) [] tree at
          (late-traced c p k on turns) spared (are-mild-anyhow (co c) tree at)).dues),
      leaves-traced c.rec (WaitedFirst c) (leave-due c) ran.entries ran.passed left.dues,
    )
  where
    stays-it : (c : Given) (p k : ℕ) (on : has_ready c.t p k ≡ true) →
        let tree = tree_of c turns in
        let at = start_at c.t c.rec.note in
        let ran = run_in (co c) tree at in
        refused_in (co c) tree at ≡ None →
        is_old_side (outcome_of (sides_of c.rec (Upgrade c.st)) ran.ending (lacked_last ran.last.lacked)) ≡ true →
        list_any (λ e. is_wait (λ g k. true) e.call) ran.entries ≡ false → (b : Bool) → is_lost p ran.passed ≡ b →
        (has_ready ran.last.table p k ≡ true) ⊎ (is_lost p ran.passed ≡ true)
    stays-it c p k on spared old none true e = inr e
    stays-it c p k on spared old none false e =
        let tree = tree_of c turns in
        let at = start_at c.t c.rec.note in
        let all =
        from-traced (λ past call t. ⊤)
        (λ past e q. is_old_side (outcome_of (sides_of c.rec (Upgrade c.st)) e (lacked_last q.lacked)) ≡ true →
        list_any (λ e. is_wait (λ g k. true) e.call) past ≡ false →
        Stands c.rec.pid c.rec.generation.image p c.rec.generation k (first-low c.t c.rec c.start p k on) q.table)
        (Unlost p) (co c) [] tree at (stays-traced c p k on turns) spared (are-unlost p (co c) tree at e) in
        inl
        (stands-ready c.rec.pid c.rec.generation.image p c.rec.generation k (first-low c.t c.rec c.start p k on)
        (run_in (co c) tree at).last.table (all.last old none))

pub upgrade_manner : (s : Settings) → InManner (Upgrade s)
upgrade_manner s t r turns pattern a =
    let (range, ds, later) = a.accepts in
    let numbered = numbered-image r.generation later in
    manner-of
    (record { t = t; rec = r; st = s; pattern = pattern; attended = false; start = a.start; range = range; ds = ds; numbered = numbered })
    turns a.spared

pub attended_manner : (s : Settings) → InManner (Attended s)
attended_manner s t r turns pattern a =
    let (range, ds, later) = a.accepts in
    let numbered = numbered-image r.generation later in
    manner-of
    (record { t = t; rec = r; st = s; pattern = pattern; attended = true; start = a.start; range = range; ds = ds; numbered = numbered })
    turns a.spared
