-- An upgrade's ways back: without a new master, with one, and after the old workers are gone.
use Rattle.std.proofs.Common.{◌≡◌, ◌≢◌, ℕ, ◌+◌, ◌≤◌, Bool, true, false, List, [], ◌∷◌, length, Option, Some, None, refl}
use Rattle.std.proofs.Common.{sym, ap, ◌∙◌, subst, arith, ◌⊎◌, inl, inr, ⊎_elim}
use Rattle.std.specs.Prelude.{◌&&◌, ◌==◌}
use Rattle.listener_set.specs.Numbers.{is_in}
use Rattle.listener_set.specs.declared.generation.Generation.{Generation}
use Rattle.vocabulary.specs.declared.plans.PidNote.{PidNote}
use Rattle.vocabulary.specs.declared.plans.PidNote.TheVariants.{InPlace, AtOldbin}
use Rattle.vocabulary.specs.declared.plans.Order.TheVariants.{Make}
use Rattle.vocabulary.specs.declared.plans.Side.TheVariants.{Old}
use Rattle.vocabulary.specs.declared.calls.Call.TheVariants.{MovePid, TermMaster}
use Rattle.vocabulary.specs.declared.calls.Answer.TheVariants as answer
use Rattle.definitions.specs.Table.{Address, FilePath, File, Hold, Process, Master, Worker, Foreign, Caller, bears, same_generation, owner_at}
use Rattle.call_laws.specs.Pieces.{is_ready, with_files, noted}
use Rattle.definitions.specs.Calls.{gives, with_file, without_file, own_step}
use Rattle.definitions.specs.Master.{FilesAre, oldbin}
use Rattle.definitions.specs.Run.{Tree, Ending, Progress, Return, after_call}
use Rattle.definitions.specs.Plans.{does, then_edge, note_edges, settle, move_back, back_alone, back_from, back_late, starts_any, awaits_any}
use Rattle.table_laws.proofs.Rows.{one, weigh, both-true}
use Rattle.call_laws.proofs.Choices.{and-left, and-right}
use Rattle.table_laws.proofs.Views.{HoldsShare, Names, named, View, ready_in, eqb-is, eqb-refl}
use Rattle.table_laws.proofs.Effects.{none, bears-is}
use Rattle.table_laws.proofs.Counts.{Distinct}
use Rattle.table_laws.proofs.Sets.{in-here, in-there, in-cases}
use Rattle.table_laws.proofs.Small.{off-from, or-elim, true-false}
use Rattle.table_laws.proofs.Files.{written-file, other-written, gone-file, other-oldbin}
use Rattle.run_laws.proofs.Logic.{Unasked, Along}
use Rattle.call_laws.proofs.Cases.{move-cases, unfailing}
use Rattle.run_laws.proofs.Rules.{IsGood, Scene, view, plus, also, Band, Only, marks-plain, weigh-sub, rule-step}
use Rattle.run_laws.proofs.Rules.{rule-settle, rule-forks-any, rule-awaits-any, band-failed, band-part, band-anew}
use Rattle.run_laws.proofs.Rules.{band-fewer, band-still, failed_at, Answers, grounded}
use Rattle.table_laws.proofs.Duo.{OneOther, alone-terminated, with_other}
use Rattle.theorems.proofs.UpgradeStage.{Given, g, new, old_crew, R, H0, f, co, acts, inv, post, Goes, u, low-R, dR, w}
use Rattle.theorems.proofs.UpgradeStage.{common0, alone_scene, good-alone, Second, pair_scene, Serve, good-pair}
use Rattle.theorems.proofs.UpgradeStage.{old-full, old-short, hold-old, serves_old, few-new, n, Fits}

-- what is known before the rest of the waits of a restart: what is Ready was started, and every name that was tried is counted
record Restarted (h : Generation) (all ks done : List ℕ) (r t : Names) (count : ℕ) : Type 0 where
  only : Only h done r
  fresh : (k : ℕ) → is_in ks k ≡ true → is_in done k ≡ false
  apart : Distinct ks
  within : (k : ℕ) → is_in done k ≡ true → is_in all k ≡ true
  left : (k : ℕ) → is_in ks k ≡ true → is_in all k ≡ true
  names : (j : Generation) (k : ℕ) → t j k ≡ true → named h (is_in done) j k ≡ true
  counted : count ≡ length done
  sum : length done + length ks ≡ length all

restarts :
    (h : Generation) (all : List ℕ) (x : ℕ) (ks done : List ℕ) (r t : Names) (count : ℕ) → Restarted h all (x ∷ ks) done
    r t count → (r h x ≡ false) × Restarted h all ks (x ∷ done) (plus r h x) (also h x t) (count + 1) × Restarted h all
    ks (x ∷ done) r (also h x t) (count + 1)
restarts h all x ks done r t count s =
    let off : is_in done x ≡ false = s.fresh x (in-here x x ks refl) in
    let started : (r' : Names) → Only h (x ∷ done) r' → Restarted h all ks (x ∷ done) r' (also h x t) (count + 1) = λ r' only. record {
      only = only;
      fresh =
          λ k e. off-from (x ∷ done) k
          (λ on. ⊎_elim (λ same. true-false (is_in ks x) (subst (λ y. is_in ks y ≡ true) (sym same) e) s.apart.0) (λ a. true-false (is_in done k) a (s.fresh k (in-there x k ks e))) (in-cases x k done on));
      apart = s.apart.1;
      within = λ k e. ⊎_elim (λ same. subst (λ y. is_in all y ≡ true) same (s.left x (in-here x x ks refl))) (λ a. s.within k a) (in-cases x k done e);
      left = λ k e. s.left k (in-there x k ks e);
      names =
          λ j k e. ⊎_elim
          (λ a. let o = s.names j k a in both-true (same_generation j h) (is_in (x ∷ done) k) (and-left _ _ o) (in-there x k done (and-right (same_generation j h) _ o)))
          (λ a. let is = bears-is h x j k a in both-true (same_generation j h) (is_in (x ∷ done) k) (and-left _ _ a) (in-here x k done (sym is.1)))
          (or-elim (t j k) (bears h x j k) e);
      counted = omega (arith, s.counted);
      sum = omega (arith, s.sum);
    } in (
      not-on (r h x) (λ on. true-false (is_in done x) (s.only h x on).1 off),
      started (plus r h x)
          (λ j k e. ⊎_elim (λ a. let o = s.only j k a in (o.0, in-there x k done o.1)) (λ a. let is = bears-is h x j k a in (is.0, in-here x k done (sym is.1))) (or-elim (r j k) (bears h x j k) e)),
      started r (λ j k e. let o = s.only j k e in (o.0, in-there x k done o.1)),
    )
  where
    not-on : (b : Bool) → (b ≡ true → ⊥) → b ≡ false
    not-on true h = absurd (h refl)
    not-on false h = refl

module _ (c : Given) where
  -- the old master's pid file is aside
  abbrev pub Aside : Option FilePath → List File → Type 0
  Aside None files = FilesAre c.rec.note None c.rec.pid files
  Aside (Some path) files = owner_at (oldbin path) files ≡ Some c.rec.pid

module _ (c : Given) (returns : List Return) (fits : Fits c returns) where
  abbrev I : Progress → Type 0
  I = inv c

  abbrev P : Ending → Progress → Type 0
  P = post c

  ---- The old master is alone

  module _ (floor : Address → ℕ) (need excused : ℕ) (kind : ((a : Address) → f c a ≤ floor a) ⊎ ((a : Address) → f c a ≤ need)) where
    abbrev sc : List File → PidNote → Scene c.rec.pid c.rec.generation.image
    sc files note = alone_scene c c.rec.pid c.rec.generation.image (serves_old c) floor need excused returns files note

    good : (files : List File) (note : PidNote) → IsGood (u c) (sc files note) I
    good files note = good-alone c (u c) (serves_old c) floor need excused returns fits (H0 c) kind refl (hold-old c) (common0 c)

    pub settle-old :
        (files : List File) (note : PidNote) (r : Names) (k : ℕ) (ls : List ℕ) (q : Progress) →
        FilesAre note c.rec.pid_path c.rec.pid files → Only (g c) (R c) r →
        Band (u c) (sc files note) none r (named (g c) (is_in (R c))) (length (R c)) k true ls q →
        Goes c (co c) (settle c.rec.generation.image (old_crew c) (R c) Old c.rec.retries) q
    settle-old files note r k ls q are only b =
        rule-settle (u c) (sc files note) (grounded I P (co c) (acts c) (good files note)) Old (old_crew c) (R c)
        (λ k. refl) (dR c) (low-R c) c.rec.retries true
        (λ r' q' k' w' up only' b' is saw exact. old-full c files note are r' q' only' b'.looks is (b'.marks.caused (up refl)) b'.still saw exact)
        (λ r' q' x xs only' b' is saw exact. old-short c files note are r' q' x xs only' b'.looks is (b'.marks.caused refl) b'.still b'.budget saw exact)
        c.rec.retries 0 (omega arith) true (λ e. refl) r ls q only
        (band-anew (u c) (sc files note) (grounded I P (co c) (acts c) (good files note)) none r (named (g c) (is_in (R c))) (length (R c)) k true ls q b)

    -- The pid file goes back.
    move-back :
        (path : Option FilePath) (rest : Tree) (r t : Names) (count k : ℕ) (ls : List ℕ) (files : List File)
        (q : Progress) → Aside c path files →
        ((files' : List File) (note' : PidNote) (k' : ℕ) (q' : Progress) → FilesAre note' path c.rec.pid files' → Band (u c) (sc files' note') none r t count k' true ls q' → Goes c (co c) rest q')
        → Band (u c) (sc files c.rec.note) none r t count k true ls q → Goes c (co c)
        (move_back c.rec.generation.image path rest) q
    move-back None rest r t count k ls files q aside next b = next files c.rec.note k q aside b
    move-back (Some path) rest r t count k ls files q aside next b =
        let order = Make (MovePid (oldbin path) path) in
        let bs = note_edges (Some InPlace) (Some AtOldbin) rest in
        rule-step (u c) (sc files c.rec.note) (grounded I P (co c) (acts c) (good files c.rec.note)) order [] bs none r t count k true ls q refl b (λ p b' fate.
        move-cases (co c).handed c.rec.generation.image (record { number = c.rec.pid; holds = H0 c }) (oldbin path) path
        fate p.table
        (λ st. Answers (u c) (sc files c.rec.note) (grounded I P (co c) (acts c) (good files c.rec.note)) order [] bs p st)
        (let b2 = band-failed (u c) (sc files c.rec.note) (grounded I P (co c) (acts c) (good files c.rec.note)) none r t count k true ls p b' in
        next files AtOldbin (k + 1)
        (noted (Some AtOldbin) (failed_at (u c) (sc files c.rec.note) (grounded I P (co c) (acts c) (good files c.rec.note)) p))
        aside
        (record { looks = b2.looks; enough = b2.enough; secured = b2.secured; budget = b2.budget; lacking = b2.lacking; marks = b2.marks; still = record { files_stay = b2.still.files_stay; note_stays = refl; limits_stay = b2.still.limits_stay }; beside = b2.beside }))
        (λ owner there.
        let files' = with_file path owner (without_file (oldbin path) p.table.files) in
        let same : Some owner ≡ Some c.rec.pid = sym there ∙ ap (owner_at (oldbin path)) b'.still.files_stay ∙ aside in
        next files' InPlace k (noted (Some InPlace) (after_call c.rec.generation.image order [] (gives answer.Fine (with_files files' p.table)) p))
        (written-file path owner (without_file (oldbin path) p.table.files) ∙ same, other-written path (oldbin path) owner (without_file (oldbin path) p.table.files) (other-oldbin path) ∙ gone-file (oldbin path) p.table.files)
        (record { looks = b'.looks; enough = b'.enough; secured = b'.secured; budget = b'.budget; lacking = b'.lacking; marks = marks-plain true p.faults p.losses (p.calls + 1) p.cause b'.marks; still = record { files_stay = refl; note_stays = refl; limits_stay = b'.still.limits_stay }; beside = b'.beside })))

    pub goes-back-alone :
        (r : Names) (k : ℕ) (ls : List ℕ) (files : List File) (q : Progress) → Aside c c.rec.pid_path files →
        Only (g c) (R c) r →
        Band (u c) (sc files c.rec.note) none r (named (g c) (is_in (R c))) (length (R c)) k true ls q →
        Goes c (co c) (back_alone c.rec.generation.image (old_crew c) (R c) c.rec.retries c.rec.pid_path) q
    goes-back-alone r k ls files q aside only b =
        move-back c.rec.pid_path (settle c.rec.generation.image (old_crew c) (R c) Old c.rec.retries) r
        (named (g c) (is_in (R c))) (length (R c)) k ls files q aside
        (λ files' note' k' q' are b'. settle-old files' note' r k' ls q' are only b') b

  ---- The new master is terminated

  module _ (m : ℕ) (ne : m ≢ c.rec.pid) (hs : List Hold) (s r : Names) (names : Names) (d : ℕ) (floor : Address → ℕ)
      (need : ℕ) (kind : ((a : Address) → f c a ≤ floor a) ⊎ Serve c (w c m hs s r) names d)
      (lost : (rows : List Process) (losses : ℕ) → Second c (w c m hs s r) names d rows losses → need ≤ losses) where
    abbrev two : List File → Scene c.rec.pid c.rec.generation.image
    two files = pair_scene c (w c m hs s r) ne (eqb-refl c.rec.pid c.rec.pid refl) names d floor returns files c.rec.note

    abbrev v : View
    v = with_other m (u c)

    good-two : (files : List File) → IsGood v (two files) I
    good-two files = good-pair c v (w c m hs s r) names d floor returns fits kind refl (hold-old c)

    pub term-master :
        (rest : Tree) (files : List File) (r0 t : Names) (count k : ℕ) (ls : List ℕ) (q : Progress) →
        ((q' : Progress) → Band (u c) (alone_scene c c.rec.pid c.rec.generation.image (serves_old c) floor need 0 returns files c.rec.note) none r0 t count k true ls q' → Goes c (co c) rest q')
        → Band v (two files) none r0 t count k true ls q → Goes c (co c)
        (does c.rec.generation.image (TermMaster (new c).image) (then_edge rest)) q
    term-master rest files r0 t count k ls q next b =
        let order = Make (TermMaster (new c).image) in
        let bs = then_edge rest in
        rule-step v (two files) (grounded I P (co c) (acts c) (good-two files)) order [] bs none r0 t count k true ls q refl b (λ p b' fate.
        let me : Caller = record { number = c.rec.pid; holds = H0 c } in
        let one : OneOther (view v none r0) m = ((λ e. ne (sym e)), λ j e. eqb-is j m e) in
        let alone = alone-terminated (view v none r0) (w c m hs s r) p.table.rows one (λ e. absurd (omega (arith, e))) b'.beside.0 b'.looks in
        subst (λ st. Answers v (two files) (grounded I P (co c) (acts c) (good-two files)) order [] bs p st)
        (sym (unfailing (co c).handed c.rec.generation.image me (TermMaster (new c).image) fate p.table tt))
        (next (after_call c.rec.generation.image order [] (own_step (co c).handed c.rec.generation.image me (TermMaster (new c).image) p.table) p) (record {
          looks = alone.looks;
          enough = b'.enough;
          secured = λ a e. omega (arith, b'.secured a e, alone.same t);
          budget = omega (arith, b'.budget, alone.same t);
          lacking = b'.lacking;
          still = b'.still;
          marks = marks-plain true p.faults p.losses (p.calls + 1) p.cause b'.marks;
          beside = (lost p.table.rows p.losses b'.beside, omega arith);
        })))

  ---- The old workers are started again

  -- The old workers are started again where no floor is asked of them; of what failed before, so much is counted.
  pub restart :
      (y : View) (sc0 : Scene y.number y.image) (good0 : IsGood y sc0 I) (acts0 : is_in (co c).executing y.image ≡ true)
      → ((a : Address) → sc0.floor a ≡ 0) → HoldsShare y (old_crew c) → (rest : Tree) (base : ℕ) →
      ((r : Names) (ls : List ℕ) (q : Progress) → Only (g c) (R c) r → Band y sc0 none r (named (g c) (is_in (R c))) (length (R c)) base true ls q → Along I P sc0.Mild Unasked (co c) rest q)
      → (ls : List ℕ) (q : Progress) → Band y sc0 none none (named (g c) (is_in [])) 0 base true ls q → Along I P
      sc0.Mild Unasked (co c) (starts_any y.image (old_crew c) (R c) rest) q
  restart y sc0 good0 acts0 no_floor share rest base next ls q b =
      let h = g c in
      let S = R c in
      let t0 = named (g c) (is_in []) in
      let gr = grounded I P (co c) acts0 good0 in
      rule-forks-any y sc0 gr (awaits_any y.image h S rest) (old_crew c) share S none none t0 0 base true ls q
      (λ s' k' b1 q' within more up b2. rule-awaits-any y sc0 gr (Restarted h S) rest h no_floor (restarts h S) ls base S [] s' none t0 0 b1 q'
      (λ done s2 r2 t2 n2 b3 q2 st less up2 b4.
      let off : (j : Generation) (i : ℕ) → s2 j i ≡ true → none j i ≡ true =
      λ j i e. let l = less j i e in ⊎_elim (λ a. a) (λ a. absurd (true-false (is_in S i) a.1 (l.1 a.0)))
      (within j i l.0) in
      let b5 = band-still y sc0 gr s2 none r2 t2 n2 base b3 ls q2 off b4 in
      let b6 = band-part y sc0 gr none r2 t2 (named h (is_in S)) n2 (length S) base b3 ls q2
      (λ rows looks. omega (arith, st.counted, st.sum, weigh-sub y.number t2 (named h (is_in S)) (λ j i e. let o = st.names j i e in both-true (same_generation j h) (is_in S i) (and-left _ _ o) (st.within i (and-right (same_generation j h) _ o))) rows))
      (λ a e. absurd (omega (arith, no_floor a, e))) b5 in
      next r2 ls q2 (λ j i e. let o = st.only j i e in (o.0, st.within i o.1))
      (record { looks = b6.looks; enough = b6.enough; secured = b6.secured; budget = b6.budget; lacking = b6.lacking; still = b6.still; marks = record { clean = b6.marks.clean; blamed = b6.marks.blamed; caused = λ e. b6.marks.caused (up2 (up refl)); returned = b6.marks.returned }; beside = b6.beside }))
      (record {
        only = λ j i e. absurd (cc e);
        fresh = λ i e. refl;
        apart = dR c;
        within = λ i e. absurd (cc e);
        left = λ i e. e;
        names = λ j i e. e;
        counted = refl;
        sum = omega arith;
      })
      (band-fewer y sc0 gr s' none t0 0 k' base b1 ls q' more b2))
      b

  ---- Back with a new master

  pub goes-back-from :
      (m : ℕ) (ne : m ≢ c.rec.pid) (hs : List Hold) (s r names : Names) (d : ℕ) (r0 : Names) (k : ℕ) (ls : List ℕ)
      (files : List File) (q : Progress) → Aside c c.rec.pid_path files → Only (g c) (R c) r0 → Band
      (with_other m (u c))
      (pair_scene c (w c m hs s r) ne (eqb-refl c.rec.pid c.rec.pid refl) names d (f c) returns files c.rec.note) none
      r0 (named (g c) (is_in (R c))) (length (R c)) k true ls q → Goes c (co c)
      (back_from c.rec.generation.image (new c).image (old_crew c) (R c) c.rec.retries c.rec.pid_path) q
  goes-back-from m ne hs s r names d r0 k ls files q aside only b =
      term-master m ne hs s r names d (f c) 0 (inl (λ a. omega arith)) (λ rows losses h. omega arith)
      (back_alone c.rec.generation.image (old_crew c) (R c) c.rec.retries c.rec.pid_path) files r0
      (named (g c) (is_in (R c))) (length (R c)) k ls q
      (λ q' b'. goes-back-alone (f c) 0 0 (inl (λ a. omega arith)) r0 k ls files q' aside only b') b

  none-ready : (m : ℕ) (rows : List Process) → weigh (ready_in m none) rows ≡ 0
  none-ready m [] = refl
  none-ready m (p ∷ rows) = omega (arith, unready p, none-ready m rows)
    where
      off : (a b : Bool) → one (a && (b && false)) ≡ 0
      off true true = refl
      off true false = refl
      off false b = refl

      unready : (p : Process) → ready_in m none p ≡ 0
      unready (Master n q i live hs) = refl
      unready (Worker n q h k st hs) = off (is_ready st) (q == m)
      unready (Foreign n hs) = refl

  -- Back when the new master is gone and the old workers are too: the floor was lost.
  pub goes-back-late :
      (m : ℕ) (ne : m ≢ c.rec.pid) (hs : List Hold) (s r : Names) (k : ℕ) (ls : List ℕ) (files : List File)
      (q : Progress) → Aside c c.rec.pid_path files → Band (with_other m (u c))
      (pair_scene c (w c m hs s r) ne (eqb-refl c.rec.pid c.rec.pid refl) none (n c) (λ a. 0) returns files c.rec.note)
      none none (named (g c) (is_in [])) 0 k true ls q → Goes c (co c)
      (back_late c.rec.generation.image (new c).image (old_crew c) (R c) c.rec.retries c.rec.pid_path) q
  goes-back-late m ne hs s r k ls files q aside b =
      term-master m ne hs s r none (n c) (λ a. 0) (n c)
      (inr (few-new c, λ q looks lost a h. omega (arith, few-new c a, lost, none-ready m q.table.rows)))
      (λ rows losses h. omega (arith, h.1, none-ready m rows))
      (starts_any c.rec.generation.image (old_crew c) (R c) (back_alone c.rec.generation.image (old_crew c) (R c) c.rec.retries c.rec.pid_path))
      files none (named (g c) (is_in [])) 0 k ls q
      (λ q' b'.
      let good0 = good-alone c (u c) (serves_old c) (λ a. 0) (n c) 0 returns fits (H0 c) (inr (few-new c)) refl (hold-old c) (common0 c) in
      restart (u c)
      (alone_scene c c.rec.pid c.rec.generation.image (serves_old c) (λ a. 0) (n c) 0 returns files c.rec.note) good0
      (acts c) (λ a. refl) (λ k. refl)
      (back_alone c.rec.generation.image (old_crew c) (R c) c.rec.retries c.rec.pid_path) 0
      (λ r ls' q2 only b2. goes-back-alone (λ a. 0) (n c) 0 (inr (few-new c)) r 0 ls' files q2 aside only b2) ls q'
      (band-anew (u c) (alone_scene c c.rec.pid c.rec.generation.image (serves_old c) (λ a. 0) (n c) 0 returns files c.rec.note) (grounded I P (co c) (acts c) good0) none none (named (g c) (is_in [])) 0 k true ls q' b')) b
