-- An upgrade's old master is relieved: its workers quit and are waited for, it leaves, and the new one settles.
use Rattle.std.proofs.Common.{◌≡◌, ◌≢◌, ℕ, ◌+◌, ◌≤◌, Bool, true, false, List, [], ◌∷◌, length, Option, Some, None, refl}
use Rattle.std.proofs.Common.{sym, ap, ◌∙◌, subst, arith, inl, inr, ⊎_elim}
use Rattle.std.specs.Prelude.{reverse, is_some}
use Rattle.listener_set.specs.Numbers.{is_in, numbers_below}
use Rattle.listener_set.specs.AddressList.{has}
use Rattle.listener_set.specs.declared.generation.Generation.{Generation}
use Rattle.vocabulary.specs.declared.plans.PidNote.{PidNote}
use Rattle.vocabulary.specs.declared.plans.PidNote.TheVariants.{InPlace, OldbinLeft}
use Rattle.vocabulary.specs.declared.plans.Side.TheVariants.{Target}
use Rattle.vocabulary.specs.declared.plans.Order.TheVariants.{Make}
use Rattle.vocabulary.specs.declared.calls.Call.TheVariants.{Alive, Leave, RemovePid, Ask}
use Rattle.vocabulary.specs.declared.calls.Answer.TheVariants as answer
use Rattle.vocabulary.specs.declared.calls.Reply.TheVariants as reply
use Rattle.definitions.specs.Table.{Address, FilePath, File, Hold, Caller, has_address, owner_at}
use Rattle.definitions.specs.Calls.{Stepped, gives, step_by, each_row, drop_where, is_image, without_file}
use Rattle.call_laws.specs.Pieces.{asked_alive, with_files, without_master, quits, noted, answered}
use Rattle.definitions.specs.Master.{FilesAre, oldbin}
use Rattle.definitions.specs.Run.{Tree, Nothing, reply_of, Ending, Progress, Return, after_call, after_moment}
use Rattle.definitions.specs.Run.{lacked_by}
use Rattle.definitions.specs.Plans.{on, does, then_edge, note_edges, awaits_gone, settle, remove_oldbin, hand_over}
use Rattle.definitions.specs.Plans.{back_late, back_from, back_serving, asks, retire, relieve}
use Rattle.table_laws.proofs.Views.{Names, named, View, Looks, finds, eqb-is, eqb-refl}
use Rattle.table_laws.proofs.Effects.{none, looks-allows}
use Rattle.table_laws.proofs.Exits.{spares-each, shrinks}
use Rattle.table_laws.proofs.Sets.{in-here, in-there, below-of, below-distinct, below-length}
use Rattle.table_laws.proofs.Small.{in-reverse, true-false}
use Rattle.table_laws.proofs.Files.{gone-file, other-removed, oldbin-other, no-path}
use Rattle.run_laws.proofs.Logic.{Unasked, Anyhow, Behind, course_after}
use Rattle.call_laws.proofs.Cases.{remove-cases, ask-cases, unfailing}
use Rattle.run_laws.proofs.Rules.{IsGood, Still, Scene, view, Marks, Band, Only, marks-plain, marks-wrong, marks-back}
use Rattle.run_laws.proofs.Rules.{rule-step, rule-quits, rule-waits, rule-settle, band-exits, band-inv, band-anew}
use Rattle.run_laws.proofs.Rules.{band-failed, failed_at, Answers, grounded}
use Rattle.table_laws.proofs.Duo.{OneOther, alone-left, dead-none, dead-weigh, asked-looks, asked-dead, with_other}
use Rattle.theorems.proofs.UpgradeStage.{Given, g, new, old_crew, new_crew, R, H0, f, n, low, wanted, few-new, co}
use Rattle.theorems.proofs.UpgradeStage.{co_after, acts, acts-after, inv, post, Goes, u, w, x, Common, Lists, Laid}
use Rattle.theorems.proofs.UpgradeStage.{alone_scene, good-alone, pair_scene, good-pair, new-full, new-short, hold-old}
use Rattle.theorems.proofs.UpgradeStage.{hold-new, level-some, serves_new, enough-new, Fits, Serve}
use Rattle.theorems.proofs.UpgradeBack.{Aside, goes-back-from, goes-back-late}
use Rattle.theorems.proofs.UpgradeServing.{goes-back-serving}
use Rattle.theorems.proofs.UpgradeCalls.{Written}

module _ (c : Given) (m : ℕ) (ne : m ≢ c.rec.pid) (some : 1 ≤ m) (r0 : Names) (only0 : Only (g c) (R c) r0)
    (hs : List Hold) (r : Names) (only : Only (new c) (numbers_below (n c)) r) (lists : Lists c hs)
    (keys : (a : Address) → has_address a hs ≡ has (wanted c) a) (laid : Laid c hs) (common : Common c hs) (l0 : List ℕ)
  where
    abbrev I : Progress → Type 0
    I = inv c

    abbrev P : Ending → Progress → Type 0
    P = post c

    abbrev S : List ℕ
    S = numbers_below (n c)

    abbrev T : Names
    T = named (new c) (is_in S)

    abbrev v : View
    v = with_other m (u c)

    abbrev second : View
    second = w c m hs none r

    -- the new workers that are not lost are enough
    new-serves : Serve c second T (n c)
    new-serves =
        (few-new c, λ q looks secured. level-some c second (f c) (serves_new c) (hold-new c m hs none r laid common) T (length S) 0 q (λ a. omega arith) (enough-new c m) looks (λ a e. omega (arith, secured, below-length (n c))) (omega arith))

    abbrev both : List File → Scene c.rec.pid c.rec.generation.image
    both files = pair_scene c second ne (eqb-refl c.rec.pid c.rec.pid refl) T (n c) (λ a. 0) [] files c.rec.note

    good : (files : List File) → IsGood v (both files) I
    good files = good-pair c v second T (n c) (λ a. 0) [] (λ e. refl) (inr new-serves) refl (hold-old c)

    -- the old master's workers of these names are there, and nothing of them is counted
    abbrev Beside : List File → Names → Names → Bool → Progress → Type 0
    Beside files st rd b q = Band v (both files) st rd none 0 0 b l0 q

    beside :
        (files : List File) (st rd : Names) (b : Bool) (q : Progress) → Looks (view v st rd) q.table.rows →
        lacked_by v.image q.lacked ≡ l0 → Marks b [] q.faults q.losses q.returns q.cause →
        Still (both files).files (both files).note (both files).limits q.table.files q.note q.table.limits →
        (both files).Holds q.table.rows q.losses q.faults → Beside files st rd b q
    beside files st rd b q looks lacking marks still holds = record {
      looks = looks;
      enough = λ a e. absurd (omega (arith, e));
      secured = λ a e. absurd (omega (arith, e));
      budget = omega arith;
      lacking = lacking;
      marks = marks;
      still = still;
      beside = holds;
    }

    -- no worker of the old master is left
    bared :
        (files : List File) (st rd : Names) (k : ℕ) (b : Bool) (q : Progress) →
        ((h : Generation) (j : ℕ) → st h j ≡ true → none h j ≡ true) →
        ((h : Generation) (j : ℕ) → rd h j ≡ true → none h j ≡ true) → Band v (both files) st rd none 0 k b l0 q →
        Beside files none none b q
    bared files st rd k b q off_st off_rd h =
        beside files none none b q
        (looks-allows (view v st rd) (view v none none) (record { number = refl; others = λ j e. e; image = refl; holds = refl; starting = off_st; ready = off_rd; held_starting = λ j i e. refl; held = λ j i e. refl }) q.table.rows h.looks)
        h.lacking h.marks h.still h.beside

    ---- The new master is alone

    abbrev last : List File → PidNote → Scene m (new c).image
    last files note = alone_scene c m (new c).image (serves_new c) (f c) 0 0 [] files note

    good-last : (files : List File) (note : PidNote) → IsGood (x c m hs r) (last files note) I
    good-last files note =
        good-alone c (x c m hs r) (serves_new c) (f c) 0 0 [] (λ e. refl) hs (inl (λ a. omega arith)) refl
        (hold-new c m hs none r laid common) common

    settles :
        (ls : List ℕ) (files : List File) (note : PidNote) (b : Bool) (q : Progress) →
        FilesAre note c.rec.pid_path m files → Band (x c m hs r) (last files note) none r T (length S) 0 b ls q →
        Goes c (co_after c) (settle (new c).image (new_crew c) S Target c.rec.retries) q
    settles ls files note b q are h =
        rule-settle (x c m hs r) (last files note) (grounded I P (co_after c) (acts-after c) (good-last files note))
        Target (new_crew c) S (λ k. refl) (below-distinct (n c)) (λ k e. omega (arith, below-of (n c) k e, low c))
        c.rec.retries false
        (λ r' q' k' b' up only' h' is saw exact. new-full c m some hs lists keys laid files note are r' q' only' h'.looks is h'.still saw exact)
        (λ r' q' y ys only' h' is saw exact. new-short c m some hs lists keys laid files note are r' q' y ys only' h'.looks is (h'.marks.caused refl) h'.still h'.budget saw exact)
        c.rec.retries 0 (omega arith) b (λ e. absurd (cc e)) r ls q only h

    -- The old master's file goes, and the new one settles.
    removes :
        (ls : List ℕ) (path : Option FilePath) (rest : Tree) (files : List File) (b : Bool) (q : Progress) → Written c m
        ne path files →
        ((files' : List File) (note' : PidNote) (b' : Bool) (q' : Progress) → FilesAre note' path m files' → Band (x c m hs r) (last files' note') none r T (length S) 0 b' ls q' → Goes c (co_after c) rest q')
        → Band (x c m hs r) (last files c.rec.note) none r T (length S) 0 b ls q → Goes c (co_after c)
        (remove_oldbin (new c).image path rest) q
    removes ls None rest files b q written next h = next files c.rec.note b q (no-path c.rec.note c.rec.pid m files files written) h
    removes ls (Some path) rest files b q written next h =
        let order = Make (RemovePid (oldbin path)) in
        let bs = note_edges (Some InPlace) (Some OldbinLeft) rest in
        let sc = last files c.rec.note in
        let gd = good-last files c.rec.note in
        rule-step (x c m hs r) sc (grounded I P (co_after c) (acts-after c) gd) order [] bs none r T (length S) 0 b ls q refl h (λ p h' fate.
        remove-cases (co_after c).handed (new c).image (record { number = m; holds = hs }) (oldbin path) fate p.table
        (λ st. Answers (x c m hs r) sc (grounded I P (co_after c) (acts-after c) gd) order [] bs p st)
        (let h2 = band-anew (x c m hs r) sc (grounded I P (co_after c) (acts-after c) gd) none r T (length S) 1 true ls _ (band-failed (x c m hs r) sc (grounded I P (co_after c) (acts-after c) gd) none r T (length S) 0 b ls p h') in
        next files OldbinLeft true
        (noted (Some OldbinLeft) (failed_at (x c m hs r) sc (grounded I P (co_after c) (acts-after c) gd) p))
        (written.0, ap is_some written.1)
        (record { looks = h2.looks; enough = h2.enough; secured = h2.secured; budget = h2.budget; lacking = h2.lacking; marks = h2.marks; still = record { files_stay = h2.still.files_stay; note_stays = refl; limits_stay = h2.still.limits_stay }; beside = h2.beside }))
        (let files' = without_file (oldbin path) p.table.files in
        let there : owner_at path files' ≡ Some m =
        other-removed (oldbin path) path p.table.files (oldbin-other path) ∙ ap (owner_at path) h'.still.files_stay ∙
        written.0 in
        next files' InPlace b
        (noted (Some InPlace) (after_call (new c).image order [] (gives answer.Fine (with_files files' p.table)) p))
        (there, gone-file (oldbin path) p.table.files)
        (record { looks = h'.looks; enough = h'.enough; secured = h'.secured; budget = h'.budget; lacking = h'.lacking; marks = marks-plain b p.faults p.losses (p.calls + 1) p.cause h'.marks; still = record { files_stay = refl; note_stays = refl; limits_stay = h'.still.limits_stay }; beside = h'.beside })))

    ---- The old master leaves

    leaves :
        (files : List File) (b : Bool) (q : Progress) → Written c m ne c.rec.pid_path files → Looks second q.table.rows →
        Beside files none none b q →
        Goes c (co c) (hand_over c.rec.generation.image (new_crew c) c.rec.retries c.rec.pid_path (n c)) q
    leaves files b q written looks h spared mild =
        let order = Make Leave in
        let moment = c.pattern (q.calls + 1) in
        let middle = after_moment moment.exits q in
        let images = c.rec.generation.image ∷ (new c).image ∷ [] in
        let sp =
        spares-each images c.rec.generation.image moment.exits
        (in-here c.rec.generation.image c.rec.generation.image ((new c).image ∷ []) refl) spared in
        let sp_new =
        spares-each images (new c).image moment.exits
        (in-there c.rec.generation.image (new c).image ((new c).image ∷ []) (in-here (new c).image (new c).image [] refl))
        spared in
        let h' = band-exits v (both files) none none none 0 0 b l0 moment.exits q sp mild h in
        let looks' = (shrinks second moment.exits q.table.rows sp_new looks).looks in
        let me : Caller = record { number = c.rec.pid; holds = H0 c } in
        let is : answered (co c).handed c.rec.generation.image order moment.fate middle ≡ gives answer.Fine (each_row (without_master c.rec.pid) middle.table) =
        ap (λ (o : Option Caller). step_by (co c).handed c.rec.generation.image o Leave moment.fate middle.table)
        (finds (view v none none) middle.table.rows h'.looks) ∙ unfailing (co c).handed c.rec.generation.image me Leave
        moment.fate middle.table tt in
        let gone = after_call c.rec.generation.image order [] (gives answer.Fine (each_row (without_master c.rec.pid) middle.table)) middle in
        let one : OneOther second c.rec.pid = (ne, λ j e. eqb-is j c.rec.pid e) in
        let alone = alone-left second c.rec.pid middle.table.rows one looks' in
        let rest = remove_oldbin (new c).image c.rec.pid_path (settle (new c).image (new_crew c) S Target c.rec.retries) in
        let after : Goes c (co_after c) rest gone =
        removes (lacked_by (new c).image gone.lacked) c.rec.pid_path
        (settle (new c).image (new_crew c) S Target c.rec.retries) files b gone written
        (λ files' note' b' q' are h2. settles (lacked_by (new c).image gone.lacked) files' note' b' q' are h2)
        (record {
          looks = alone.looks;
          enough = enough-new c m;
          secured = λ a e. omega (arith, h'.beside.1, alone.same T, below-length (n c));
          budget = omega (arith, h'.beside.1, alone.same T, below-length (n c));
          lacking = refl;
          marks = marks-plain b middle.faults middle.losses (middle.calls + 1) middle.cause h'.marks;
          still = h'.still;
          beside = (omega arith, omega arith);
        }) in (
          band-inv v (both files) (grounded I P (co c) (acts c) (good files)) none none none 0 0 b l0 q h,
          band-inv v (both files) (grounded I P (co c) (acts c) (good files)) none none none 0 0 b l0 middle h',
          tt,
          subst
              (λ (st : Stepped). Behind I P Anyhow Unasked (course_after order (co c)) (then_edge rest) (reply_of [] st.answer) (after_call c.rec.generation.image order [] st middle))
              (sym is) after,
        )

    -- It asks whether the new one lives: then it leaves, and else goes back.
    retires :
        (files : List File) (b : Bool) (q : Progress) → Aside c c.rec.pid_path files → Written c m ne c.rec.pid_path files
        → Beside files none none b q → Goes c (co c)
        (does c.rec.generation.image (Alive (new c).image) (on (reply.IsAlive ∷ []) (hand_over c.rec.generation.image (new_crew c) c.rec.retries c.rec.pid_path (n c)) (on (reply.Gone ∷ []) (back_late c.rec.generation.image (new c).image (old_crew c) (R c) c.rec.retries c.rec.pid_path) Nothing)))
        q
    retires files b q aside written h =
        let order = Make (Alive (new c).image) in
        let bs =
        on (reply.IsAlive ∷ []) (hand_over c.rec.generation.image (new_crew c) c.rec.retries c.rec.pid_path (n c))
        (on (reply.Gone ∷ []) (back_late c.rec.generation.image (new c).image (old_crew c) (R c) c.rec.retries c.rec.pid_path) Nothing)
        in
        rule-step v (both files) (grounded I P (co c) (acts c) (good files)) order [] bs none none none 0 0 b l0 q refl h (λ p h' fate.
        let me : Caller = record { number = c.rec.pid; holds = H0 c } in
        let answered_by : Option Caller → Type 0 =
        λ o. Answers v (both files) (grounded I P (co c) (acts c) (good files)) order [] bs p
        (asked_alive o (new c).image p.table) in
        subst (λ st. Answers v (both files) (grounded I P (co c) (acts c) (good files)) order [] bs p st)
        (sym (unfailing (co c).handed c.rec.generation.image me (Alive (new c).image) fate p.table tt))
        (⊎_elim
        (λ looks. subst answered_by (sym (finds second p.table.rows looks))
        (leaves files b (after_call c.rec.generation.image order [] (gives answer.IsAlive p.table) p) written looks
        (record { looks = h'.looks; enough = h'.enough; secured = λ a e. absurd (omega (arith, e)); budget = omega arith; lacking = h'.lacking; marks = marks-plain b p.faults p.losses (p.calls + 1) p.cause h'.marks; still = h'.still; beside = h'.beside })))
        (λ dead. subst answered_by (sym (dead-none second p.table.rows dead))
        (let framed = asked-looks (view v none none) (new c).image p.table.rows (λ e. absurd (omega (arith, e))) h'.looks in
        goes-back-late c [] (λ e. refl) m ne hs none r 0 l0 files
        (after_call c.rec.generation.image order [] (gives answer.Gone (each_row (drop_where (is_image (new c).image)) p.table)) p)
        aside
        (record {
          looks = framed.looks;
          enough = λ a e. absurd (omega (arith, e));
          secured = λ a e. absurd (omega (arith, e));
          budget = omega arith;
          lacking = h'.lacking;
          marks = marks-wrong b p.faults (p.faults + 1) p.losses (p.calls + 1) p.cause (omega arith) h'.marks;
          still = h'.still;
          beside = (inr (asked-dead second (new c).image p.table.rows dead), omega (arith, h'.beside.1, dead-weigh second T p.table.rows dead));
        })))
        h'.beside.0))

    ---- The questions

    abbrev retiring : Tree
    retiring = retire c.rec.generation.image (old_crew c) (new_crew c) (R c) c.rec.retries c.rec.pid_path (n c)

    abbrev serving : Tree
    serving = back_serving c.rec.generation.image (new c).image (old_crew c) (R c) c.rec.retries c.rec.pid_path

    abbrev last_pause : Bool → Tree
    last_pause b = asks b c.rec.generation.image 2 retiring serving

    fits-attended : (returns : List Return) → c.attended ≡ true → Fits c returns
    fits-attended returns on off = absurd (true-false c.attended on off)

    -- The second question: on, or back while the new master serves.
    asks-last :
        (attended : Bool) → c.attended ≡ attended → (files : List File) (b : Bool) (q : Progress) →
        Aside c c.rec.pid_path files → Written c m ne c.rec.pid_path files → Beside files none none b q →
        Goes c (co c) (last_pause attended) q
    asks-last false is files b q aside written h = retires files b q aside written h
    asks-last true is files b q aside written h =
        let order = Make (Ask 2) in
        let bs = on (reply.Go ∷ []) retiring (on (reply.Back ∷ []) serving Nothing) in
        rule-step v (both files) (grounded I P (co c) (acts c) (good files)) order [] bs none none none 0 0 b l0 q refl h (λ p h' fate.
        let me : Caller = record { number = c.rec.pid; holds = H0 c } in
        ask-cases (co c).handed c.rec.generation.image me 2 fate p.table
        (λ st. Answers v (both files) (grounded I P (co c) (acts c) (good files)) order [] bs p st)
        (goes-back-serving c p.faults (fits-attended (record { question = 2; faults = p.faults } ∷ []) is) m ne hs r T (n c) new-serves files l0 (after_call c.rec.generation.image order [] (gives answer.Back p.table) p) aside
        (record {
          looks = h'.looks;
          enough = λ a e. absurd (omega (arith, e));
          secured = λ a e. absurd (omega (arith, e));
          budget = omega arith;
          lacking = h'.lacking;
          marks = marks-back b (record { question = 2; faults = p.faults }) p.faults p.losses (p.calls + 1) p.cause h'.marks;
          still = h'.still;
          beside = h'.beside;
        }))
        (retires files b (after_call c.rec.generation.image order [] (gives answer.Go p.table) p) aside written
        (beside files none none b (after_call c.rec.generation.image order [] (gives answer.Go p.table) p) h'.looks h'.lacking (marks-plain b p.faults p.losses (p.calls + 1) p.cause h'.marks) h'.still h'.beside)))

    abbrev counted_by_old : List Return → List File → Bool → Progress → Type 0
    counted_by_old returns files b q =
        Band v (pair_scene c second ne (eqb-refl c.rec.pid c.rec.pid refl) T (n c) (f c) returns files c.rec.note) none r0
        (named (g c) (is_in (R c))) (length (R c)) 0 b l0 q

    -- The first question: on, or back before the old workers quit.
    asks-first :
        (attended : Bool) → c.attended ≡ attended → (rest : Tree) (files : List File) (q : Progress) → Aside c
        c.rec.pid_path files → ((q' : Progress) → counted_by_old [] files false q' → Goes c (co c) rest q') →
        counted_by_old [] files false q → Goes c (co c)
        (asks attended c.rec.generation.image 1 rest (back_from c.rec.generation.image (new c).image (old_crew c) (R c) c.rec.retries c.rec.pid_path))
        q
    asks-first false is rest files q aside next h = next q h
    asks-first true is rest files q aside next h =
        let order = Make (Ask 1) in
        let back = back_from c.rec.generation.image (new c).image (old_crew c) (R c) c.rec.retries c.rec.pid_path in
        let bs = on (reply.Go ∷ []) rest (on (reply.Back ∷ []) back Nothing) in
        let sc = pair_scene c second ne (eqb-refl c.rec.pid c.rec.pid refl) T (n c) (f c) [] files c.rec.note in
        let gd = good-pair c v second T (n c) (f c) [] (λ e. refl) (inl (λ a. omega arith)) refl (hold-old c) in
        rule-step v sc (grounded I P (co c) (acts c) gd) order [] bs none r0 (named (g c) (is_in (R c))) (length (R c)) 0 false l0 q refl h (λ p h' fate.
        let me : Caller = record { number = c.rec.pid; holds = H0 c } in
        let back_at : Return = record { question = 1; faults = p.faults } in
        ask-cases (co c).handed c.rec.generation.image me 1 fate p.table (λ st. Answers v sc (grounded I P (co c) (acts c) gd) order [] bs p st)
        (goes-back-from c (back_at ∷ []) (fits-attended (back_at ∷ []) is) m ne hs none r T (n c) r0 0 l0 files (after_call c.rec.generation.image order [] (gives answer.Back p.table) p) aside only0
        (record { looks = h'.looks; enough = h'.enough; secured = h'.secured; budget = h'.budget; lacking = h'.lacking; marks = marks-back false back_at p.faults p.losses (p.calls + 1) p.cause h'.marks; still = h'.still; beside = h'.beside }))
        (next (after_call c.rec.generation.image order [] (gives answer.Go p.table) p)
        (record { looks = h'.looks; enough = h'.enough; secured = h'.secured; budget = h'.budget; lacking = h'.lacking; marks = marks-plain false p.faults p.losses (p.calls + 1) p.cause h'.marks; still = h'.still; beside = h'.beside })))

    ---- All of it

    pub relieves :
        (files : List File) (q : Progress) → Aside c c.rec.pid_path files → Written c m ne c.rec.pid_path files → Band v
        (pair_scene c second ne (eqb-refl c.rec.pid c.rec.pid refl) T (n c) (f c) [] files c.rec.note) none r0
        (named (g c) (is_in (R c))) (length (R c)) 0 false l0 q → Goes c (co c)
        (relieve c.attended c.rec.generation.image (old_crew c) (new_crew c) (R c) c.rec.retries c.rec.pid_path (n c)) q
    relieves files q aside written h =
        asks-first c.attended refl
        (quits c.rec.generation.image (g c) (reverse (R c)) (awaits_gone c.rec.generation.image (g c) (reverse (R c)) (last_pause c.attended)))
        files q aside
        (λ q1 h1. rule-quits v (both files) (grounded I P (co c) (acts c) (good files)) (awaits_gone c.rec.generation.image (g c) (reverse (R c)) (last_pause c.attended)) (g c) (reverse (R c)) none r0 none 0 0 false l0 q1 (λ k e. refl)
        (λ st rd q' less_st less_rd h'. rule-waits v (both files) (grounded I P (co c) (acts c) (good files)) (last_pause c.attended) (g c) (reverse (R c)) none none none 0 false l0 q' (λ k e. refl)
        (λ st' rd' b k q'' sub_st sub_rd up h''. asks-last c.attended refl files b q'' aside written (bared files st' rd' k b q'' sub_st sub_rd h''))
        0
        (bared files st rd 0 false q' (λ j i e. (less_st j i e).0) (λ j i e. let l = less_rd j i e in let o = only0 j i l.0 in absurd (true-false (is_in (reverse (R c)) i) (in-reverse (R c) i ∙ o.1) (l.1 o.0))) h'))
        (beside files none r0 false q1 h1.looks h1.lacking h1.marks h1.still h1.beside)) h
