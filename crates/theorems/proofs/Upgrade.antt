-- The headline for an upgrade.
use Rattle.std.proofs.Common.{◌≡◌, ◌≢◌, ℕ, ◌+◌, ◌<◌, true, false, List, [], ◌∷◌, length, Option, Some, None, refl, sym, ap, ◌∙◌, subst, arith, inl}
use Rattle.std.specs.Prelude.{option_and_then}
use Rattle.listener_set.specs.Numbers.{is_in}
use Rattle.vocabulary.specs.Settings.{Settings}
use Rattle.vocabulary.specs.declared.reports.Report.{Report}
use Rattle.vocabulary.specs.declared.reports.Outcome.{Outcome}
use Rattle.vocabulary.specs.declared.reports.Outcome.TheVariants as outcome
use Rattle.vocabulary.specs.declared.plans.Side.TheVariants as side
use Rattle.vocabulary.specs.declared.plans.PidNote.{PidNote}
use Rattle.vocabulary.specs.declared.plans.PidNote.TheVariants.{InPlace, AtOldbin, OldbinLeft, Left, NoFile}
use Rattle.vocabulary.specs.declared.plans.Order.TheVariants.{Make}
use Rattle.vocabulary.specs.declared.plans.Side.TheVariants.{Old}
use Rattle.vocabulary.specs.declared.calls.Call.TheVariants.{MovePid, SpawnMaster}
use Rattle.vocabulary.specs.declared.calls.Answer.TheVariants as answer
use Rattle.vocabulary.specs.declared.calls.Reply.TheVariants as reply
use Rattle.vocabulary.specs.declared.targets.Target.TheVariants.{Upgrade, Attended}
use Rattle.definitions.specs.Table.{Table, FilePath, File, Master, Caller, same_generation, owner_at, service}
use Rattle.definitions.specs.Calls.{gives, with_file, without_file, with_new_row}
use Rattle.call_laws.specs.Pieces.{with_files, spawn_edges}
use Rattle.definitions.specs.Master.{Record, FilesAre, oldbin, want, sides_of}
use Rattle.definitions.specs.After.{next_record, record_from, master_of, named_record}
use Rattle.definitions.specs.Run.{Tree, Nothing, Ending, Progress, faults_since, after_call, after_moment, start_at}
use Rattle.definitions.specs.Run.{report_of}
use Rattle.vocabulary.specs.declared.plans.Turn.{Turn}
use Rattle.definitions.specs.Plans.{weave, joined, back_from, plan_tree, on, does, settle, move_aside, back_alone}
use Rattle.definitions.specs.Plans.{new_part, old_part, taken_over, relieve, upgrade_tree}
use Rattle.definitions.specs.Claims.{Kept, Floor, Says, AgreesAfter, IsBlamed, run_of}
use Rattle.theorems.proofs.Ends.{numbered-image}
use Rattle.theorems.proofs.Headlines.{UpgradeHeadline, AttendedHeadline}
use Rattle.table_laws.proofs.Rows.{every-more}
use Rattle.call_laws.proofs.Choices.{and-left, and-right}
use Rattle.table_laws.proofs.Views.{Names, named, eqb-refl}
use Rattle.table_laws.proofs.Effects.{none, same-is}
use Rattle.table_laws.proofs.Begins.{begin-count}
use Rattle.table_laws.proofs.Files.{written-file}
use Rattle.run_laws.proofs.Logic.{Unasked, Anyhow, from-along, are-mild-anyhow}
use Rattle.call_laws.proofs.Cases.{move-cases, spawn-cases}
use Rattle.run_laws.proofs.Rules.{Scene, view, Band, Only, marks-plain, rule-step-at, band-failed, failed_at, Answers, grounded}
use Rattle.table_laws.proofs.Duo.{master-below, spawned-looks}
use Rattle.theorems.proofs.UpgradeStage.{Given, g, new, old_crew, new_crew, R, H0, A0, f, n, wanted, looks0, co, acts}
use Rattle.theorems.proofs.UpgradeStage.{inv, post, Goes, u, w, common0, alone_scene, good-alone, enough-old, hold-old}
use Rattle.theorems.proofs.UpgradeStage.{serves_old}
use Rattle.theorems.proofs.UpgradeBack.{Aside, settle-old, goes-back-alone}
use Rattle.theorems.proofs.UpgradeCalls.{new-goes}
use Rattle.theorems.proofs.UpgradeRelief.{relieves}

module _ (c : Given) (turns : List Turn) where
  abbrev I : Progress → Type 0
  I = inv c

  abbrev P : Ending → Progress → Type 0
  P = post c

  abbrev image : ℕ
  image = (new c).image

  abbrev sc : List File → Scene c.rec.pid c.rec.generation.image
  sc files = alone_scene c c.rec.pid c.rec.generation.image (serves_old c) (f c) 0 0 [] files c.rec.note

  abbrev Alone : List File → Names → Progress → Type 0
  Alone files r q = Band (u c) (sc files) none r (named (g c) (is_in (R c))) (length (R c)) 0 false [] q

  abbrev rest : Tree
  rest = relieve c.attended c.rec.generation.image (old_crew c) (new_crew c) (R c) c.rec.retries c.rec.pid_path (n c)

  abbrev back : Tree
  back = back_from c.rec.generation.image image (old_crew c) (R c) c.rec.retries c.rec.pid_path

  abbrev ok : Tree
  ok =
      weave
      (joined (taken_over c.attended c.rec.generation.image (old_crew c) (new_crew c) (R c) c.rec.retries c.rec.pid_path (n c) back) back)
      (new_part (new_crew c) (A0 c) (wanted c) (n c)) turns
      (old_part c.rec.generation.image (old_crew c) (R c) c.rec.retries)

  abbrev bad : Tree
  bad = back_alone c.rec.generation.image (old_crew c) (R c) c.rec.retries c.rec.pid_path

  -- the next process number is above the master's
  above : c.rec.pid < c.t.next_process
  above = master-below c.rec.pid 0 c.t.rows c.t.next_process c.start.formed.ascending (omega (arith, (looks0 c).alone))

  spawns :
      (r : Names) (files : List File) (q : Progress) → Only (g c) (R c) r → Aside c c.rec.pid_path files →
      q.table.next_process ≡ c.t.next_process → Alone files r q →
      Goes c (co c) (does c.rec.generation.image (SpawnMaster image) (spawn_edges ok bad)) q
  spawns r files q only aside next b =
      let order = Make (SpawnMaster image) in
      let bs = spawn_edges ok bad in
      let gd = good-alone c (u c) (serves_old c) (f c) 0 0 [] (λ e. refl) (H0 c) (inl (λ a. omega arith)) refl (hold-old c) (common0 c) in
      let me : Caller = record { number = c.rec.pid; holds = H0 c } in
      rule-step-at (u c) (sc files) (grounded I P (co c) (acts c) gd) order [] bs none r (named (g c) (is_in (R c)))
      (length (R c)) 0 false [] q refl b (λ es b' fate.
      let p = after_moment es q in
      let failed =
      goes-back-alone c [] (λ e. refl) (f c) 0 0 (inl (λ a. omega arith)) r 1 [] files
      (failed_at (u c) (sc files) (grounded I P (co c) (acts c) gd) p) aside only
      (band-failed (u c) (sc files) (grounded I P (co c) (acts c) gd) none r (named (g c) (is_in (R c))) (length (R c)) 0 false [] p b')
      in
      spawn-cases (co c).handed c.rec.generation.image me image fate p.table
      (λ st. Answers (u c) (sc files) (grounded I P (co c) (acts c) gd) order [] bs p st) failed failed failed
      (let m = q.table.next_process in
      let ne : m ≢ c.rec.pid = λ e. absurd (omega (arith, e, next, above)) in
      let t' = with_new_row p.table (λ k. Master k c.rec.pid image true (H0 c)) in
      let two =
      spawned-looks (view (u c) none r) (w c m (H0 c) none none) c.rec.pid p.table.rows (λ k. refl)
      (λ e. ne (sym e)) (eqb-refl c.rec.pid c.rec.pid refl) (λ e. absurd (omega (arith, e))) b'.looks in
      new-goes c m ne rest files (after_call c.rec.generation.image order [] (gives answer.Spawned t') p) turns r aside only
      (λ hs r0 r' ls files' q' lists keys laid common aside' written only0 only' b''. relieves c m ne (omega (arith, next, above, c.start.record_in_range.pid)) r0 only0 hs r' only' lists keys laid common ls files' q' aside' written b'')
      (record {
        looks = two.old.looks;
        enough = b'.enough;
        secured = λ a e. omega (arith, b'.secured a e, two.old.same (named (g c) (is_in (R c))));
        budget = omega (arith, b'.budget, two.old.same (named (g c) (is_in (R c))));
        lacking = b'.lacking;
        marks = marks-plain false p.faults p.losses (p.calls + 1) p.cause b'.marks;
        still = b'.still;
        beside = (inl two.new, omega arith);
      })))

  -- The pid file goes aside, where it isn't yet.
  moves :
      (path : FilePath) (r : Names) (q : Progress) → Only (g c) (R c) r → Some path ≡ c.rec.pid_path → owner_at path
      c.t.files ≡ Some c.rec.pid → q.table.next_process ≡ c.t.next_process → Alone c.t.files r q → Goes c (co c)
      (does c.rec.generation.image (MovePid path (oldbin path)) (on (reply.Fine ∷ []) (does c.rec.generation.image (SpawnMaster image) (spawn_edges ok bad)) (on (reply.IoFault ∷ []) (settle c.rec.generation.image (old_crew c) (R c) Old c.rec.retries) Nothing)))
      q
  moves path r q only is there next b =
      let order = Make (MovePid path (oldbin path)) in
      let bs =
      on (reply.Fine ∷ []) (does c.rec.generation.image (SpawnMaster image) (spawn_edges ok bad))
      (on (reply.IoFault ∷ []) (settle c.rec.generation.image (old_crew c) (R c) Old c.rec.retries) Nothing) in
      let gd = good-alone c (u c) (serves_old c) (f c) 0 0 [] (λ e. refl) (H0 c) (inl (λ a. omega arith)) refl (hold-old c) (common0 c) in
      let me : Caller = record { number = c.rec.pid; holds = H0 c } in
      rule-step-at (u c) (sc c.t.files) (grounded I P (co c) (acts c) gd) order [] bs none r (named (g c) (is_in (R c)))
      (length (R c)) 0 false [] q refl b (λ es b' fate.
      let p = after_moment es q in
      move-cases (co c).handed c.rec.generation.image me path (oldbin path) fate p.table
      (λ st. Answers (u c) (sc c.t.files) (grounded I P (co c) (acts c) gd) order [] bs p st)
      (settle-old c [] (λ e. refl) (f c) 0 0 (inl (λ a. omega arith)) c.t.files c.rec.note r 1 [] (failed_at (u c) (sc c.t.files) (grounded I P (co c) (acts c) gd) p) c.start.agrees.files only
      (band-failed (u c) (sc c.t.files) (grounded I P (co c) (acts c) gd) none r (named (g c) (is_in (R c))) (length (R c)) 0 false [] p b'))
      (λ owner found.
      let files' = with_file (oldbin path) owner (without_file path p.table.files) in
      let same : Some owner ≡ Some c.rec.pid = sym found ∙ ap (owner_at path) b'.still.files_stay ∙ there in
      spawns r files' (after_call c.rec.generation.image order [] (gives answer.Fine (with_files files' p.table)) p) only
      (subst (λ o. Aside c o files') is (written-file (oldbin path) owner (without_file path p.table.files) ∙ same)) next
      (record {
        looks = b'.looks;
        enough = b'.enough;
        secured = b'.secured;
        budget = b'.budget;
        lacking = b'.lacking;
        marks = marks-plain false p.faults p.losses (p.calls + 1) p.cause b'.marks;
        still = record { files_stay = refl; note_stays = b'.still.note_stays; limits_stay = b'.still.limits_stay };
        beside = b'.beside;
      })))

  begins :
      (path : Option FilePath) (note : PidNote) (r : Names) (q : Progress) → Only (g c) (R c) r → path ≡ c.rec.pid_path
      → note ≡ c.rec.note → FilesAre note path c.rec.pid c.t.files → q.table.next_process ≡ c.t.next_process → Alone
      c.t.files r q → Goes c (co c)
      (move_aside c.rec.generation.image path note (does c.rec.generation.image (SpawnMaster image) (spawn_edges ok bad)) (settle c.rec.generation.image (old_crew c) (R c) Old c.rec.retries))
      q
  begins None note r q only is same are next b =
      spawns r c.t.files q only
      (subst (λ o. Aside c o c.t.files) is (subst (λ x. FilesAre x None c.rec.pid c.t.files) same are)) next b
  begins (Some path) AtOldbin r q only is same are next b = spawns r c.t.files q only (subst (λ o. Aside c o c.t.files) is are) next b
  begins (Some path) InPlace r q only is same are next b = moves path r q only is are.0 next b
  begins (Some path) OldbinLeft r q only is same are next b = moves path r q only is are.0 next b
  begins (Some path) Left r q only is same are next b = absurd are
  begins (Some path) NoFile r q only is same are next b = absurd are

  pub goes :
      Goes c (co c)
      (upgrade_tree c.attended c.rec.generation.image (old_crew c) (new_crew c) (R c) c.rec.retries c.rec.pid_path c.rec.note (A0 c) (wanted c) (n c) turns)
      (start_at c.t c.rec.note)
  goes =
      let count = begin-count c.t c.rec c.start in
      begins c.rec.pid_path c.rec.note (named (g c) (is_in (R c))) (start_at c.t c.rec.note)
      (λ h k e. (same-is h (g c) (and-left _ _ e), and-right (same_generation h (g c)) _ e)) refl refl
      c.start.agrees.files refl
      (record {
        looks = looks0 c;
        enough = enough-old c;
        secured = λ a e. omega (arith, count);
        budget = omega (arith, count);
        lacking = refl;
        marks = record { clean = λ e. refl; blamed = λ e. absurd (cc e); caused = λ e. absurd (cc e); returned = refl };
        still = record { files_stay = refl; note_stays = refl; limits_stay = refl };
        beside = (omega arith, omega arith);
      })

pub upgrade_headline : UpgradeHeadline
upgrade_headline t rec st turns pattern a =
    let (range, ds, later) = a.accepts in
    let numbered = numbered-image rec.generation later in
    let c : Given = record { t = t; rec = rec; st = st; pattern = pattern; attended = false; start = a.start; range = range; ds = ds; numbered = numbered } in
    let at = start_at t rec.note in
    let tree = plan_tree rec (Upgrade st) turns in
    let all = from-along (inv c) (post c) Anyhow Unasked (co c) tree at (goes c turns) a.spared (are-mild-anyhow (co c) tree at) in
    let ran = run_of rec (Upgrade st) turns pattern t in
    let target = want rec (Upgrade st) in (
      record {
        says = all.last.0;
        after = all.last.3;
        kept = every-more (inv c) (λ q. Kept (service t) target t q.table) (λ q h. h.0) ran.passed all.always;
        blamed = every-more (inv c) IsBlamed (λ q h. h.2) ran.passed all.always;
        cause = all.last.2;
        paid = all.last.1;
      },
      every-more (inv c) (Floor (λ q. 0) t rec (Upgrade st))
          (λ q h address common. omega (arith, h.1 address common, ap (λ l. faults_since 2 l q.faults) (h.3 refl)))
          ran.passed all.always,
    )

---- The same, attended

-- An attended upgrade is to reach and to leave what the plain one is.
same-record : (o : Outcome) (r : Record) (s : Settings) → named_record o r (Attended s) ≡ named_record o r (Upgrade s)
same-record outcome.Done r s = refl
same-record outcome.RolledBack r s = refl
same-record (outcome.Degraded side.Old ms) r s = refl
same-record (outcome.Degraded side.Target ms) r s = refl
same-record outcome.Lost r s = refl

says-attended : (o : Outcome) (r : Record) (s : Settings) (first last : Table) → Says r (Upgrade s) o first last → Says r (Attended s) o first last
says-attended outcome.Done r s first last h = h
says-attended outcome.RolledBack r s first last h = h
says-attended (outcome.Degraded side.Old ms) r s first last h = h
says-attended (outcome.Degraded side.Target ms) r s first last h = h
says-attended outcome.Lost r s first last h = h

after-attended : (r : Record) (s : Settings) (report : Report) (t : Table) → AgreesAfter r (Upgrade s) report t → AgreesAfter r (Attended s) report t
after-attended r s report t a =
    let same : next_record r (Attended s) report t ≡ next_record r (Upgrade s) report t =
    ap (λ o. option_and_then (record_from o report) (master_of o t)) (same-record report.outcome r s) in
    record { record_then = a.record_then; is = same ∙ a.is; agrees = a.agrees; record_in_range = a.record_in_range; same_master = a.same_master }

pub attended_headline : AttendedHeadline
attended_headline t rec st turns pattern a =
    let (range, ds, later) = a.accepts in
    let numbered = numbered-image rec.generation later in
    let c : Given = record { t = t; rec = rec; st = st; pattern = pattern; attended = true; start = a.start; range = range; ds = ds; numbered = numbered } in
    let at = start_at t rec.note in
    let tree = plan_tree rec (Attended st) turns in
    let all = from-along (inv c) (post c) Anyhow Unasked (co c) tree at (goes c turns) a.spared (are-mild-anyhow (co c) tree at) in
    let ran = run_of rec (Attended st) turns pattern t in
    let target = want rec (Attended st) in
    let report = report_of (sides_of rec (Attended st)) ran in (
      record {
        says = says-attended report.outcome rec st t ran.last.table all.last.0;
        after = after-attended rec st report ran.last.table all.last.3;
        kept = every-more (inv c) (λ q. Kept (service t) target t q.table) (λ q h. h.0) ran.passed all.always;
        blamed = every-more (inv c) IsBlamed (λ q h. h.2) ran.passed all.always;
        cause = all.last.2;
        paid = all.last.1;
      },
      every-more (inv c) (Floor (λ q. faults_since 2 q.returns q.faults) t rec (Attended st))
          (λ q h address common. omega (arith, h.1 address common)) ran.passed all.always,
    )
