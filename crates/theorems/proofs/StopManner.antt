-- The manner of a stop.
use Rattle.std.proofs.Common.{◌≡◌, ℕ, ◌+◌, Bool, true, false, List, [], ◌∷◌, ◌++◌, Option, Some, None, refl, ◌∙◌}
use Rattle.std.specs.Prelude.{⊤, reverse}
use Rattle.std.specs.List.{list_any}
use Rattle.listener_set.specs.Numbers.{is_in}
use Rattle.listener_set.specs.declared.generation.Generation.{Generation}
use Rattle.vocabulary.specs.declared.plans.PidNote.{PidNote}
use Rattle.vocabulary.specs.declared.plans.Order.TheVariants.{Make, ForkLacking, AwaitLacking, KillLacking}
use Rattle.vocabulary.specs.declared.targets.Target.TheVariants.{Stop}
use Rattle.vocabulary.specs.declared.calls.Call.{Call}
use Rattle.vocabulary.specs.declared.calls.Call.TheVariants.{Kill, RemovePid, Leave}
use Rattle.vocabulary.specs.declared.calls.Reply.{Reply}
use Rattle.vocabulary.specs.declared.reports.Entry.{Entry}
use Rattle.definitions.specs.Table.{FilePath, Table}
use Rattle.definitions.specs.Master.{Record, oldbin}
use Rattle.definitions.specs.Run.{Tree, Branches, Ends, Does, Nothing, Branch, reply_of, Lost, Pattern, Progress, Ran}
use Rattle.definitions.specs.Run.{run_with, goes_with, after_call, after_moment, start_at}
use Rattle.call_laws.specs.Pieces.{among, kills, noted, answered}
use Rattle.definitions.specs.Plans.{then_edge, note_edges, plan_tree, stop_tree, awaits_gone, removes, remove_oldbin_too, has_oldbin, stopped}
use Rattle.definitions.specs.Claims.{is_quit, is_leave_call, was_late, IsKillDue, names_any}
use Rattle.theorems.proofs.Headlines.{InManner}
use Rattle.table_laws.proofs.Small.{in-reverse}
use Rattle.run_laws.proofs.Logic.{Course, course_after, Anyhow, are-mild-anyhow}
use Rattle.vocabulary.specs.declared.names.Name.{Name}
use Rattle.vocabulary.specs.declared.plans.PidNote.TheVariants.{NoFile, Left}
use Rattle.vocabulary.specs.declared.plans.End.TheVariants.{Done}
use Rattle.definitions.specs.Calls.{after_exits, Handed}
use Rattle.run_laws.proofs.Traces.{entry_of, Asking, Finally, Traced, Good, AllGood, all-good, good-call, from-traced}
use Rattle.run_laws.proofs.Waits.{Told, AllWaited, told-on, all-waited-on, quits-told, waits-told, kills-traced, leaves-traced}
use Rattle.theorems.proofs.WorkersManner.{own_course}

---- Calls that a plan never makes

abbrev mutual
  NeverCalls : (Call → Bool) → Tree → Type 0
  NeverCalls test (Ends end) = ⊤
  NeverCalls test (Does by (Make call) set bs) = (test call ≡ false) × NeverBehind test bs
  NeverCalls test (Does by (ForkLacking g) set bs) = ⊥
  NeverCalls test (Does by (AwaitLacking g) set bs) = ⊥
  NeverCalls test (Does by (KillLacking g) set bs) = ⊥

  NeverBehind : (Call → Bool) → Branches → Type 0
  NeverBehind test Nothing = ⊤
  NeverBehind test (Branch replies said rest more) = NeverCalls test rest × NeverBehind test more

abbrev any_call : (Call → Bool) → List Entry → Bool
any_call test entries = list_any (λ e. test e.call) entries

mutual
  never-called :
      (test : Call → Bool) (handed : Handed) (t : Tree) (pattern : Pattern) (p : Progress) → NeverCalls test t →
      any_call test (run_with handed t pattern p).entries ≡ false
  never-called test handed (Ends end) pattern p h = refl
  never-called test handed (Does by (Make call) set bs) pattern p h =
      let moment = pattern (p.calls + 1) in
      let middle = after_moment moment.exits p in
      let s = answered handed by (Make call) moment.fate middle in
      rw h.0 (never-behind test handed bs (reply_of set s.answer) pattern (after_call by (Make call) set s middle) h.1)
  never-called test handed (Does by (ForkLacking g) set bs) pattern p h = absurd h
  never-called test handed (Does by (AwaitLacking g) set bs) pattern p h = absurd h
  never-called test handed (Does by (KillLacking g) set bs) pattern p h = absurd h

  never-behind :
      (test : Call → Bool) (handed : Handed) (bs : Branches) (r : Reply) (pattern : Pattern) (p : Progress) →
      NeverBehind test bs → any_call test (goes_with handed bs r pattern p).entries ≡ false
  never-behind test handed Nothing r pattern p h = refl
  never-behind test handed (Branch replies said rest more) r pattern p h =
      let here = never-called test handed rest pattern (noted said p) h.0 in
      let there = never-behind test handed more r pattern p h.1 in
      elim (among replies r) as
      (λ b. let ran : Ran = elim b as (λ c. Ran) [
        | true ↦ run_with handed rest pattern (noted said p)
        | false ↦ goes_with handed more r pattern p
      ] in any_call test ran.entries ≡ false) [
        | true ↦ here
        | false ↦ there
      ]

never-kills : (by : ℕ) (g : Generation) (ks : List ℕ) (rest : Tree) → NeverCalls (is_quit (λ g k. true)) rest →
    NeverCalls (is_quit (λ g k. true)) (kills by g ks rest)
never-kills by g [] rest h = h
never-kills by g (x ∷ ks) rest h = (refl, (never-kills by g ks rest h, tt))

never-removes :
    (by : ℕ) (path : Option FilePath) (note : PidNote) (rest : Tree) → NeverCalls (is_quit (λ g k. true)) rest →
    NeverCalls (is_quit (λ g k. true)) (removes by path note rest)
never-removes by None note rest h = h
never-removes by (Some path) note rest h =
    let more = too (has_oldbin note) in
    (refl, (more, (more, tt)))
  where
    too : (b : Bool) → NeverCalls (is_quit (λ g k. true)) (remove_oldbin_too by path b rest)
    too true = (refl, (h, (h, tt)))
    too false = h

---- A stop in peace

-- A kill comes after its worker was late, and a Leave after all were waited for.
abbrev InOrder : Generation → List ℕ → Asking
InOrder g ready past (Kill h x) t = was_late h x past ≡ true
InOrder g ready past Leave t = AllWaited g ready past
InOrder g ready past _ t = ⊤

module _ (r : Record) (pattern : Pattern) where
  abbrev by : ℕ
  by = r.generation.image

  abbrev g : Generation
  g = r.generation

  abbrev due : Asking
  due = InOrder r.generation r.ready

  abbrev anyway : Finally
  anyway past e q = ⊤

  not-lost : (past : List Entry) (q : Progress) → anyway past Lost q
  not-lost past q = tt

  abbrev co : Course
  co = own_course r pattern

  abbrev Any : Table → Type 0
  Any t = ⊤

  exits-any : (es : List Name) (t : Table) → names_any co.executing es ≡ false → Anyhow es t.rows → Any t → Any (after_exits es t)
  exits-any es t spared mild h = tt

  abbrev IsGood : Tree → Type 0
  IsGood t = Good due anyway Anyhow co not-lost Any (AllWaited g r.ready) t

  -- The removals and the Leave, when all were waited for.
  leave-good : IsGood (stopped by)
  leave-good past p waited h = λ spared mild.
      let order = Make Leave in
      let moment = co.pattern (p.calls + 1) in
      let middle = after_moment moment.exits p in
      let st = answered co.handed by order moment.fate middle in
      let e = entry_of by Leave st.answer in (
        waited,
        all-good due anyway Anyhow (course_after order co) not-lost Any (AllWaited g r.ready)
            (then_edge (Ends Done)) ((λ past p k h. tt), tt) (past ++ e ∷ []) (reply_of [] st.answer)
            (after_call by order [] st middle) (all-waited-on g r.ready past e waited) tt,
      )

  removal-good :
      (path : FilePath) (bs : Branches) → AllGood due anyway Anyhow co not-lost Any (AllWaited g r.ready) bs →
      IsGood (Does by (Make (RemovePid path)) [] bs)
  removal-good path bs all =
      good-call due anyway Anyhow co not-lost Any (AllWaited g r.ready) by (RemovePid path) [] bs refl exits-any
      (all-waited-on g r.ready) (λ past t k h. tt) (λ handed fate t h. tt) all

  removes-good : (path : Option FilePath) (note : PidNote) → IsGood (removes by path note (stopped by))
  removes-good None note = leave-good
  removes-good (Some path) note =
      let more = too (has_oldbin note) in
      removal-good path (note_edges (Some NoFile) (Some Left) (remove_oldbin_too by path (has_oldbin note) (stopped by))) (more, (more, tt))
    where
      too : (b : Bool) → IsGood (remove_oldbin_too by path b (stopped by))
      too false = leave-good
      too true = removal-good (oldbin path) (note_edges None (Some Left) (stopped by)) (leave-good, (leave-good, tt))

  stop-traced : (q : Progress) → Traced due anyway Anyhow co [] (stop_tree by g r.ready r.pid_path r.note false) q
  stop-traced q =
      let rest = removes by r.pid_path r.note (stopped by) in
      let L = reverse r.ready in
      quits-told by g due anyway Anyhow co not-lost Any exits-any (λ past x t h. tt) (λ handed x fate t h. tt) L
      (awaits_gone by g L rest) (λ past. ⊤) (λ past e h. tt)
      (λ past1 q1 k1 told h1. waits-told by g due anyway Anyhow co not-lost Any exits-any (λ past x t h. tt)
      (λ handed x fate t h. tt) (λ past x t late h. late) (λ handed x fate t h. tt) L rest
      (λ l. (x : ℕ) → is_in L x ≡ true → Told g x l) (λ l e h x on. told-on g x l e (h x on)) (λ l h. h)
      (λ past2 q2 k2 waited h2. removes-good r.pid_path r.note past2 q2 (λ x on. waited x (in-reverse r.ready x ∙ on)) tt) past1 q1 told tt) [] q tt tt

---- The manner

kill-due :
    (g : Generation) (ready : List ℕ) (first : Table) (past : List Entry) (call : Call) (t : Table) →
    InOrder g ready past call t → IsKillDue first past call t
kill-due g ready first past (Kill h x) t late = λ p j on taken. late
kill-due g ready first past _ t late = tt

leave-due :
    (g : Generation) (ready : List ℕ) (past : List Entry) (call : Call) (t : Table) → is_leave_call call ≡ true →
    InOrder g ready past call t → AllWaited g ready past
leave-due g ready past Leave t e h = h
leave-due g ready past _ t e h = absurd (cc e)

pub stop_manner : (quick : Bool) → InManner (Stop quick)
stop_manner true t r turns pattern a =
    never-called (is_quit (λ g k. true)) None (plan_tree r (Stop true) []) pattern (start_at t r.note)
    (never-kills r.generation.image r.generation r.ready
    (removes r.generation.image r.pid_path r.note (stopped r.generation.image))
    (never-removes r.generation.image r.pid_path r.note (stopped r.generation.image) (refl, (tt, tt))))
stop_manner false t r turns pattern a =
    let tree = plan_tree r (Stop false) [] in
    let at = start_at t r.note in
    let c = own_course r pattern in
    let asked = InOrder r.generation r.ready in
    let all = from-traced asked (λ past e q. ⊤) Anyhow c [] tree at (stop-traced r pattern at) a.spared (are-mild-anyhow c tree at) in
    let ran = run_with None tree pattern at in (
      kills-traced t asked (kill-due r.generation r.ready t) [] ran.entries ran.passed all.dues,
      leaves-traced r asked
          (leave-due r.generation r.ready) ran.entries ran.passed all.dues,
    )
