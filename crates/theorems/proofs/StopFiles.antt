-- What a stop leaves of the file at a path.
use Rattle.std.proofs.Common.{◌≡◌, ℕ, ◌+◌, Bool, true, false, List, [], ◌∷◌, ◌++◌, Option, Some, None, refl, sym, ap, ◌∙◌, subst}
use Rattle.std.specs.Prelude.{⊤, ◌||◌, reverse, bytes_eq, if◌then◌else◌}
use Rattle.std.specs.List.{list_any}
use Rattle.listener_set.specs.AddressList.{has}
use Rattle.listener_set.specs.declared.generation.Generation.{Generation}
use Rattle.vocabulary.specs.declared.plans.PidNote.{PidNote}
use Rattle.vocabulary.specs.declared.plans.PidNote.TheVariants.{InPlace, AtOldbin, OldbinLeft, Left, NoFile}
use Rattle.vocabulary.specs.declared.plans.End.TheVariants.{Done}
use Rattle.vocabulary.specs.declared.plans.Order.TheVariants.{Make}
use Rattle.vocabulary.specs.declared.names.Name.{Name}
use Rattle.vocabulary.specs.declared.calls.Call.{Call}
use Rattle.vocabulary.specs.declared.calls.Call.TheVariants.{Quit, Kill, AwaitGone, RemovePid, Leave}
use Rattle.vocabulary.specs.declared.calls.Answer.{Answer}
use Rattle.vocabulary.specs.declared.calls.Answer.TheVariants as answer
use Rattle.vocabulary.specs.declared.calls.Fate.{Fate}
use Rattle.vocabulary.specs.declared.reports.Entry.{Entry}
use Rattle.definitions.specs.Table.{FilePath, File, Table, Caller, owner_at, live_master}
use Rattle.definitions.specs.Calls.{after_exits, Stepped, gives, own_step, step_by, step_with, without_file}
use Rattle.call_laws.specs.Pieces.{with_files, gone_edges, quits, kills, answered}
use Rattle.definitions.specs.Master.{Record, FilesAre, oldbin}
use Rattle.definitions.specs.Run.{Tree, Branches, Ends, reply_of, Pattern, Progress, Ending, At, Lost, start_at}
use Rattle.definitions.specs.Run.{after_call, after_moment}
use Rattle.definitions.specs.Plans.{does, then_edge, note_edges, awaits_gone, removes, remove_oldbin_too, has_oldbin}
use Rattle.definitions.specs.Plans.{stopped, stop_tree, plan_tree}
use Rattle.vocabulary.specs.declared.targets.Target.TheVariants.{Stop}
use Rattle.definitions.specs.Claims.{names_any, is_failed_removal, was_failed, IsRemoved, run_of, refusal_of}
use Rattle.definitions.specs.Claims.{is_leave_call}
use Rattle.table_laws.proofs.Files.{gone-file, other-removed, oldbin-other, other-oldbin}
use Rattle.table_laws.proofs.Addresses.{address-refl}
use Rattle.run_laws.proofs.Logic.{Course, course_after, Anyhow, are-mild-anyhow}
use Rattle.call_laws.proofs.Cases.{Unfailing, gone-cases, remove-cases, unfailing}
use Rattle.run_laws.proofs.Traces.{entry_of, Asking, Finally, TracedBehind, Good, AllGood, all-good, good-step, from-traced}
use Rattle.theorems.proofs.WorkersManner.{own_course}

-- one more entry, which is no such failure
any-off : (test : Entry → Bool) (past : List Entry) (e : Entry) → test e ≡ false → list_any test (past ++ e ∷ []) ≡ list_any test past
any-off test [] e off = rw off refl
any-off test (x ∷ past) e off = ap (λ b. test x || b) (any-off test past e off)

any-on : (test : Entry → Bool) (past : List Entry) (e : Entry) → test e ≡ true → list_any test (past ++ e ∷ []) ≡ true
any-on test [] e on = rw on refl
any-on test (x ∷ past) e on = go (test x) (any-on test past e on)
  where
    go : (b : Bool) → list_any test (past ++ e ∷ []) ≡ true → (b || list_any test (past ++ e ∷ [])) ≡ true
    go true ih = refl
    go false ih = ih

-- Of the file at one path, which had an owner or none at first.
module _ (path : FilePath) (owner : Option ℕ) (co : Course) where
  abbrev paths : List FilePath
  paths = path ∷ []

  -- the owner where a removal failed, and none where not
  abbrev pub left_if : Bool → Option ℕ
  left_if failed = if failed then owner else None

  abbrev pub Removed : Finally
  Removed past (At end) q = owner_at path q.table.files ≡ left_if (was_failed paths past)
  Removed past Lost q = ⊤

  abbrev due : Asking
  due past call t = ⊤

  not-lost : (past : List Entry) (q : Progress) → Removed past Lost q
  not-lost past q = tt

  -- who owns the file, and whether a removal has failed
  abbrev F : Option ℕ → Table → Type 0
  F o t = owner_at path t.files ≡ o

  abbrev K : Bool → List Entry → Type 0
  K b past = was_failed paths past ≡ b

  abbrev IsGood : Option ℕ → Bool → Tree → Type 0
  IsGood o b t = Good due Removed Anyhow co not-lost (F o) (K b) t

  exits-keep : (o : Option ℕ) (es : List Name) (t : Table) → names_any co.executing es ≡ false → Anyhow es t.rows → F o t → F o (after_exits es t)
  exits-keep o es t spared mild h = h

  -- A call that fails no removal of the file, and leaves it alone.
  abbrev IsCalm : Call → Type 0
  IsCalm call =
      ((a : Answer) → is_failed_removal paths call a ≡ false) ×
      ((by : ℕ) (o : Option Caller) (fate : Option Fate) (t : Table) → owner_at path (step_by co.handed by o call fate t).table.files ≡ owner_at path t.files)

  calm-good :
      (o : Option ℕ) (b : Bool) (by : ℕ) (call : Call) (bs : Branches) → is_leave_call call ≡ false → IsCalm call →
      AllGood due Removed Anyhow co not-lost (F o) (K b) bs → IsGood o b (does by call bs)
  calm-good o b by call bs stays calm all =
      good-step due Removed Anyhow co not-lost (F o) (K b) by call [] bs stays (exits-keep o) (λ past t k h. tt)
      (λ past q fate k h.
      let st = step_with co.handed by call fate q.table in
      let e = entry_of by call st.answer in
      all-good due Removed Anyhow co not-lost (F o) (K b) bs all (past ++ e ∷ []) (reply_of [] st.answer) (after_call by (Make call) [] st q)
      (any-off (λ x. is_failed_removal paths x.call x.answer) past e (calm.0 st.answer) ∙ k) (calm.1 by (live_master by q.table.rows) fate q.table ∙ h))

  ---- Calls that leave the file alone

  abbrev StaysAt : Stepped → Table → Type 0
  StaysAt st t = owner_at path st.table.files ≡ owner_at path t.files

  -- a step leaves the file alone where it does so for each caller
  stays-by :
      (call : Call) →
      ((by : ℕ) (c : Caller) (fate : Option Fate) (t : Table) → StaysAt (step_by co.handed by (Some c) call fate t) t) →
      (by : ℕ) (o : Option Caller) (fate : Option Fate) (t : Table) → StaysAt (step_by co.handed by o call fate t) t
  stays-by call h by None fate t = refl
  stays-by call h by (Some c) fate t = h by c fate t

  stays-sure :
      (call : Call) → Unfailing call → ((by : ℕ) (c : Caller) (t : Table) → StaysAt (own_step co.handed by c call t) t) →
      (by : ℕ) (o : Option Caller) (fate : Option Fate) (t : Table) → StaysAt (step_by co.handed by o call fate t) t
  stays-sure call sure h = stays-by call (λ by c fate t. subst (λ (st : Stepped). StaysAt st t) (sym (unfailing co.handed by c call fate t sure)) (h by c t))

  quit-calm : (g : Generation) (x : ℕ) → IsCalm (Quit g x)
  quit-calm g x = ((λ a. refl), stays-sure (Quit g x) tt (λ by c t. refl))

  kill-calm : (g : Generation) (x : ℕ) → IsCalm (Kill g x)
  kill-calm g x = ((λ a. refl), stays-sure (Kill g x) tt (λ by c t. refl))

  wait-calm : (g : Generation) (x : ℕ) → IsCalm (AwaitGone g x)
  wait-calm g x = ((λ a. refl), stays-by (AwaitGone g x) (λ by c fate t. gone-cases co.handed by c g x fate t (λ (st : Stepped). StaysAt st t) refl refl))

  leave-files : (by : ℕ) (o : Option Caller) (fate : Option Fate) (t : Table) → StaysAt (step_by co.handed by o Leave fate t) t
  leave-files = stays-sure Leave tt (λ by c t. refl)

  -- the removal of another file
  other-calm : (other : FilePath) → bytes_eq path other ≡ false → bytes_eq other path ≡ false → IsCalm (RemovePid other)
  other-calm other off off' =
      (fails, stays-by (RemovePid other) (λ by c fate t. remove-cases co.handed by c other fate t (λ (st : Stepped). StaysAt st t) refl (other-removed other path t.files off')))
    where
      fails : (a : Answer) → is_failed_removal paths (RemovePid other) a ≡ false
      fails answer.IoFault = rw off refl
      fails _ = refl

  ---- The removal

  removal-good :
      (by : ℕ) (fine fault : Option PidNote) (rest : Tree) → ((b : Bool) → IsGood (left_if b) b rest) →
      IsGood owner false (does by (RemovePid path) (note_edges fine fault rest))
  removal-good by fine fault rest good =
      let call = RemovePid path in
      let bs = note_edges fine fault rest in
      let on : has paths path ≡ true = rw (address-refl path) refl in
      good-step due Removed Anyhow co not-lost (F owner) (K false) by call [] bs refl (exits-keep owner) (λ past t k h. tt)
      (λ past q fate k h.
      let P : Stepped → Type 0 =
      λ st. TracedBehind due Removed Anyhow co (past ++ entry_of by call st.answer ∷ []) bs (reply_of [] st.answer)
      (after_call by (Make call) [] st q) in
      elim (live_master by q.table.rows) as (λ o. P (step_by co.handed by o call fate q.table)) [
        | None ↦ tt
        | Some c ↦ remove-cases co.handed by c path fate q.table P
            (all-good due Removed Anyhow co not-lost (F (left_if true)) (K true) bs (good true, (good true, tt)) (past ++ entry_of by call answer.IoFault ∷ []) (reply_of [] answer.IoFault) (after_call by (Make call) [] (gives answer.IoFault q.table) q)
            (any-on (λ x. is_failed_removal paths x.call x.answer) past (entry_of by call answer.IoFault) on) h)
            (all-good due Removed Anyhow co not-lost (F (left_if false)) (K false) bs (good false, (good false, tt)) (past ++ entry_of by call answer.Fine ∷ []) (reply_of [] answer.Fine) (after_call by (Make call) [] (gives answer.Fine (with_files (without_file path q.table.files) q.table)) q)
            (any-off (λ x. is_failed_removal paths x.call x.answer) past (entry_of by call answer.Fine) refl ∙ k) (gone-file path q.table.files))
      ])

  leave-good : (b : Bool) (by : ℕ) → IsGood (left_if b) b (stopped by)
  leave-good b by past p k h = λ spared mild.
      let order = Make Leave in
      let moment = co.pattern (p.calls + 1) in
      let middle = after_moment moment.exits p in
      let st = answered co.handed by order moment.fate middle in
      let e = entry_of by Leave st.answer in (
        tt,
        all-good due Removed Anyhow (course_after order co) not-lost (F (left_if b)) (K b) (then_edge (Ends Done))
            ((λ past p k h. h ∙ ap left_if (sym k)), tt) (past ++ e ∷ []) (reply_of [] st.answer)
            (after_call by order [] st middle)
            (any-off (λ x. is_failed_removal paths x.call x.answer) past e refl ∙ k)
            (leave-files by (live_master by middle.table.rows) moment.fate middle.table ∙ h),
      )

  ---- Before the removals

  quits-good : (by : ℕ) (g : Generation) (ks : List ℕ) (rest : Tree) → IsGood owner false rest → IsGood owner false (quits by g ks rest)
  quits-good by g [] rest h = h
  quits-good by g (x ∷ ks) rest h = calm-good owner false by (Quit g x) (then_edge (quits by g ks rest)) refl (quit-calm g x) (quits-good by g ks rest h, tt)

  kills-good : (by : ℕ) (g : Generation) (ks : List ℕ) (rest : Tree) → IsGood owner false rest → IsGood owner false (kills by g ks rest)
  kills-good by g [] rest h = h
  kills-good by g (x ∷ ks) rest h = calm-good owner false by (Kill g x) (then_edge (kills by g ks rest)) refl (kill-calm g x) (kills-good by g ks rest h, tt)

  waits-good : (by : ℕ) (g : Generation) (ks : List ℕ) (rest : Tree) → IsGood owner false rest → IsGood owner false (awaits_gone by g ks rest)
  waits-good by g [] rest h = h
  waits-good by g (x ∷ ks) rest h =
      let more = waits-good by g ks rest h in
      calm-good owner false by (AwaitGone g x)
      (gone_edges (awaits_gone by g ks rest) (does by (Kill g x) (then_edge (awaits_gone by g ks rest)))) refl
      (wait-calm g x)
      (more, (calm-good owner false by (Kill g x) (then_edge (awaits_gone by g ks rest)) refl (kill-calm g x) (more, tt), tt))

  stop-good :
      (by : ℕ) (g : Generation) (ready : List ℕ) (pid_path : Option FilePath) (note : PidNote) (quick : Bool) →
      IsGood owner false (removes by pid_path note (stopped by)) →
      IsGood owner false (stop_tree by g ready pid_path note quick)
  stop-good by g ready pid_path note true h = kills-good by g ready (removes by pid_path note (stopped by)) h
  stop-good by g ready pid_path note false h =
      quits-good by g (reverse ready) (awaits_gone by g (reverse ready) (removes by pid_path note (stopped by)))
      (waits-good by g (reverse ready) (removes by pid_path note (stopped by)) h)

-- The removals, of the file itself.
at-path :
    (path : FilePath) (owner : Option ℕ) (co : Course) (by : ℕ) (note : PidNote) →
    IsGood path owner co owner false (removes by (Some path) note (stopped by))
at-path path owner co by note =
    removal-good path owner co by (Some NoFile) (Some Left) (remove_oldbin_too by path (has_oldbin note) (stopped by))
    (λ b. too b (has_oldbin note))
  where
    too : (b c : Bool) → IsGood path owner co (left_if path owner co b) b (remove_oldbin_too by path c (stopped by))
    too b true =
        let leaves = leave-good path owner co b by in
        calm-good path owner co (left_if path owner co b) b by (RemovePid (oldbin path))
        (note_edges None (Some Left) (stopped by)) refl
        (other-calm path owner co (oldbin path) (other-oldbin path) (oldbin-other path)) (leaves, (leaves, tt))
    too b false = leave-good path owner co b by

-- And of the file with the suffix, where it may be there.
at-oldbin :
    (path : FilePath) (owner : Option ℕ) (co : Course) (by : ℕ) (note : PidNote) →
    (has_oldbin note ≡ false → owner ≡ None) →
    IsGood (oldbin path) owner co owner false (removes by (Some path) note (stopped by))
at-oldbin path owner co by note absent =
    let more = too (has_oldbin note) absent in
    calm-good (oldbin path) owner co owner false by (RemovePid path)
    (note_edges (Some NoFile) (Some Left) (remove_oldbin_too by path (has_oldbin note) (stopped by))) refl
    (other-calm (oldbin path) owner co path (oldbin-other path) (other-oldbin path)) (more, (more, tt))
  where
    too : (b : Bool) → (b ≡ false → owner ≡ None) → IsGood (oldbin path) owner co owner false (remove_oldbin_too by path b (stopped by))
    too true absent = removal-good (oldbin path) owner co by None (Some Left) (stopped by) (λ b. leave-good (oldbin path) owner co b by)
    too false absent = subst (λ o. IsGood (oldbin path) owner co o false (stopped by)) (sym (absent refl)) (leave-good (oldbin path) owner co false by)

---- The whole plan

absent-by :
    (note : PidNote) (path : FilePath) (pid : ℕ) (files : List File) → FilesAre note (Some path) pid files →
    has_oldbin note ≡ false → owner_at (oldbin path) files ≡ None
absent-by InPlace path pid files are e = are.1
absent-by AtOldbin path pid files are e = absurd (cc e)
absent-by OldbinLeft path pid files are e = absurd (cc e)
absent-by Left path pid files are e = absurd are
absent-by NoFile path pid files are e = absurd are

abbrev pub Ended : Ending → Type 0
Ended (At end) = ⊤
Ended Lost = ⊥

removed-at :
    (path : FilePath) (owner : Option ℕ) (co : Course) (past : List Entry) (e : Ending) (q : Progress) → Ended e →
    Removed path owner co past e q → owner_at path q.table.files ≡ left_if path owner co (was_failed (path ∷ []) past)
removed-at path owner co past (At end) q on h = h
removed-at path owner co past Lost q on h = absurd on

-- What a good tree says of its run.
removed-by :
    (path : FilePath) (t : Table) (r : Record) (quick : Bool) (pattern : Pattern) →
    refusal_of r (Stop quick) [] pattern t ≡ None → Ended (run_of r (Stop quick) [] pattern t).ending →
    IsGood path (owner_at path t.files) (own_course r pattern) (owner_at path t.files) false
    (removes r.generation.image r.pid_path r.note (stopped r.generation.image)) → IsRemoved path
    t (run_of r (Stop quick) [] pattern t)
removed-by path t r quick pattern spared ends good =
    let o = owner_at path t.files in
    let c = own_course r pattern in
    let at = start_at t r.note in
    let tree = plan_tree r (Stop quick) [] in
    let ran = run_of r (Stop quick) [] pattern t in
    let all =
    from-traced (due path o c) (Removed path o c) Anyhow c [] tree at
    (stop-good path o c r.generation.image r.generation r.ready r.pid_path r.note quick good [] at refl refl) spared
    (are-mild-anyhow c tree at) in
    removed-at path o c ran.entries ran.ending ran.last ends all.last

pub files-removed :
    (path : FilePath) (t : Table) (r : Record) (quick : Bool) (pattern : Pattern) → r.pid_path ≡ Some path →
    FilesAre r.note r.pid_path r.pid t.files → refusal_of r (Stop quick) [] pattern t ≡ None →
    Ended (run_of r (Stop quick) [] pattern t).ending →
    IsRemoved path t (run_of r (Stop quick) [] pattern t)
    × IsRemoved (oldbin path) t (run_of r (Stop quick) [] pattern t)
files-removed path t r quick pattern is are spared ends =
    let c = own_course r pattern in
    let by = r.generation.image in
    let back : (x : FilePath) →
    IsGood x (owner_at x t.files) c (owner_at x t.files) false (removes by (Some path) r.note (stopped by)) →
    IsGood x (owner_at x t.files) c (owner_at x t.files) false (removes by r.pid_path r.note (stopped by)) =
    λ x h. subst (λ z. IsGood x (owner_at x t.files) c (owner_at x t.files) false (removes by z r.note (stopped by))) (sym is) h in
    let absent = absent-by r.note path r.pid t.files (subst (λ z. FilesAre r.note z r.pid t.files) is are) in (
      removed-by path t r quick pattern spared ends (back path (at-path path (owner_at path t.files) c by r.note)),
      removed-by (oldbin path) t r quick pattern spared ends (back (oldbin path) (at-oldbin path (owner_at (oldbin path) t.files) c by r.note absent)),
    )
