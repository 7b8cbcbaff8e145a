-- An upgrade's new master: each of its calls answers plainly, or the old master goes back.
use Rattle.std.proofs.Common.{◌≡◌, ◌≢◌, ℕ, ◌+◌, Bool, true, false, List, [], ◌∷◌, ◌++◌, length, Option, Some, refl, sym}
use Rattle.std.proofs.Common.{ap, ◌∙◌, subst, arith, inl, ⊎_elim, nat_lt}
use Rattle.std.specs.Prelude.{◌&&◌, if◌then◌else◌, drop}
use Rattle.listener_set.specs.Numbers.{is_in}
use Rattle.listener_set.specs.declared.generation.Generation.{Generation}
use Rattle.vocabulary.specs.declared.table.Limits.{Limits}
use Rattle.vocabulary.specs.declared.table.Stance.TheVariants.{Starting}
use Rattle.vocabulary.specs.declared.calls.Call.{Call}
use Rattle.vocabulary.specs.declared.calls.Call.TheVariants.{Adopt, CloseAt, OpenAt, AwaitReady, WritePid}
use Rattle.vocabulary.specs.declared.calls.Fate.{Fate}
use Rattle.vocabulary.specs.declared.calls.Answer.TheVariants as answer
use Rattle.vocabulary.specs.declared.calls.Reply.TheVariants as reply
use Rattle.vocabulary.specs.declared.plans.Order.TheVariants.{Make}
use Rattle.definitions.specs.Table.{Address, FilePath, File, Hold, Worker, Table, Caller, bears, same_generation, is_worker}
use Rattle.call_laws.specs.Pieces.{is_starting, is_exited, with_files, with_new_socket, lacks_address, is_row}
use Rattle.call_laws.specs.Pieces.{made_ready, share, answered, first_cause, replies_to}
use Rattle.definitions.specs.Calls.{Stepped, gives, step_by, own_step, each_row, drop_where, with_file, with_new_row}
use Rattle.definitions.specs.Calls.{with_holds, put_hold, lowest_free, is_of, change}
use Rattle.definitions.specs.Master.{fds_of, fork_of}
use Rattle.definitions.specs.Claims.{is_leave_call, names_any}
use Rattle.definitions.specs.Run.{Tree, Branches, Nothing, plain_reply, reply_of, Lack, lacked_by, Ending, Progress}
use Rattle.definitions.specs.Run.{after_moment, after_call}
use Rattle.definitions.specs.Plans.{on, tries, back_from}
use Rattle.run_laws.proofs.Refusals.{is_leave}
use Rattle.table_laws.proofs.Rows.{both-true}
use Rattle.call_laws.proofs.Choices.{and-left, and-right}
use Rattle.table_laws.proofs.Views.{Names, named, View, Looks, finds, eqb-refl}
use Rattle.table_laws.proofs.Effects.{after_wait, after_open, after_close, none, bears-is, same-refl, looks-allows}
use Rattle.table_laws.proofs.Effects.{mine-of, mine-row, mine-worker, holds-stay, ready-stays, close-looks, close-weigh}
use Rattle.table_laws.proofs.Effects.{open-looks, fork-looks, fork-weigh, await-looks, await-gains, gone-looks}
use Rattle.table_laws.proofs.Effects.{gone-weigh}
use Rattle.table_laws.proofs.Exits.{spares-each}
use Rattle.table_laws.proofs.Sets.{in-here, in-there}
use Rattle.table_laws.proofs.Shares.{share-lacks}
use Rattle.table_laws.proofs.Small.{or-elim}
use Rattle.run_laws.proofs.Logic.{Unasked, Course, course_after, Behind, Anyhow}
use Rattle.call_laws.proofs.Cases.{adopt-cases, open-cases, fork-cases, await-cases, write-cases, unfailing}
use Rattle.run_laws.proofs.Rules.{IsGood, Scene, view, plus, minus, Band, Only, marks-plain, marks-wrong, weigh-sub, band-exits, band-inv, grounded}
use Rattle.table_laws.proofs.Duo.{Framed, framed-change, framed-drop, framed-grow, dead-none, with_other}
use Rattle.theorems.proofs.UpgradeStage.{Given, g, new, old_crew, new_crew, posts, R, f, co, acts, inv, post, Goes, u}
use Rattle.theorems.proofs.UpgradeStage.{w, Second, hold-old, pair_scene, good-pair}
use Rattle.theorems.proofs.UpgradeBack.{Aside, goes-back-from}

module _ (c : Given) (m : ℕ) (ne : m ≢ c.rec.pid) where
  abbrev I : Progress → Type 0
  I = inv c

  abbrev P : Ending → Progress → Type 0
  P = post c

  abbrev pub v : View
  v = with_other m (u c)

  abbrev pub image : ℕ
  image = (new c).image

  -- what is known of the new master: its holds, its workers, how many of the names are not lost, and the files
  pub record Doing : Type 0 where
    pub hs : List Hold
    pub s : Names
    pub r : Names
    pub names : Names
    pub d : ℕ
    pub files : List File

  abbrev pub sc : Doing → Scene c.rec.pid c.rec.generation.image
  sc x = pair_scene c (w c m x.hs x.s x.r) ne (eqb-refl c.rec.pid c.rec.pid refl) x.names x.d (f c) [] x.files c.rec.note

  -- between two calls: what is known of the new master, and of the old one with its names that may be Starting and Ready
  abbrev pub Held : Doing → Names → Names → ℕ → Bool → List ℕ → Progress → Type 0
  Held x s0 r0 k b ls q = Band v (sc x) s0 r0 (named (g c) (is_in (R c))) (length (R c)) k b ls q

  pub good : (x : Doing) → IsGood v (sc x) I
  good x = good-pair c v (w c m x.hs x.s x.r) x.names x.d (f c) [] (λ e. refl) (inl (λ a. omega arith)) refl (hold-old c)

  pub goes-back :
      (x : Doing) (r0 : Names) (k : ℕ) (ls : List ℕ) (q : Progress) → Only (g c) (R c) r0 →
      Aside c c.rec.pid_path x.files → Held x none r0 k true ls q →
      Goes c (co c) (back_from c.rec.generation.image image (old_crew c) (R c) c.rec.retries c.rec.pid_path) q
  goes-back x r0 k ls q only0 aside b = goes-back-from c [] (λ e. refl) m ne x.hs x.s x.r x.names x.d r0 k ls x.files q aside only0 b

  pub apart : (s0 r0 : Names) → (view v s0 r0).number ≢ m
  apart s0 r0 e = ne (sym e)

  abbrev pub me : Doing → Caller
  me x = record { number = m; holds = x.hs }

  abbrev pub with_hs : Doing → List Hold → Doing
  with_hs x hs = record { hs = hs; s = x.s; r = x.r; names = x.names; d = x.d; files = x.files }

  -- Only a master without workers opens.
  abbrev pub bare : List Hold → List File → Doing
  bare hs files = record { hs = hs; s = none; r = none; names = none; d = 0; files = files }

  abbrev pub with_starting : Doing → Names → Doing
  with_starting x s = record { hs = x.hs; s = s; r = x.r; names = x.names; d = x.d; files = x.files }

  -- of the numbers that were forked, those that are Ready, and are counted
  abbrev pub readied : List Hold → Names → List ℕ → List File → Doing
  readied hs s done files = record { hs = hs; s = s; r = named (new c) (is_in done); names = named (new c) (is_in done); d = length done; files = files }

  abbrev pub with_written : Doing → List File → Doing
  with_written x files = record { hs = x.hs; s = x.s; r = x.r; names = x.names; d = x.d; files = files }

  -- A call failed, whatever became of the table.
  abbrev pub failed_with : Table → Progress → Progress
  failed_with t q = record {
    table = t;
    calls = q.calls + 1;
    ready = q.ready;
    lacked = q.lacked;
    faults = q.faults + 1;
    losses = q.losses;
    returns = q.returns;
    cause = first_cause q.cause true (q.calls + 1);
    note = q.note;
  }

  -- A call was answered plainly.
  abbrev pub plain_with : Table → List ℕ → List Lack → Progress → Progress
  plain_with t ready lacked q = record {
    table = t;
    calls = q.calls + 1;
    ready = ready;
    lacked = lacked;
    faults = q.faults;
    losses = q.losses;
    returns = q.returns;
    cause = first_cause q.cause false (q.calls + 1);
    note = q.note;
  }

  ---- A call of the new master, whatever the old one is at and whatever follows

  module _ (s0 r0 : Names) (k0 : ℕ) (w0 : Bool) (ls0 : List ℕ) (back : Tree)
      (back-goes : (y : Doing) (q : Progress) → Aside c c.rec.pid_path y.files → Held y s0 r0 (k0 + 1) true ls0 q → Goes c (co c) back q)
    where
      ---- A step

      abbrev pub edges : Call → Tree → Branches
      edges call rest = on (plain_reply call ∷ []) rest (on (drop 1 (replies_to call) ++ reply.MasterGone ∷ []) back Nothing)

      abbrev pub Edge : Call → Tree → List ℕ → Progress → Stepped → Type 0
      Edge call rest set q st = Behind I P Anyhow Unasked (co c) (edges call rest) (reply_of set st.answer) (after_call image (Make call) set st q)

      pub still-framed : (q : Progress) → Looks (view v s0 r0) q.table.rows → Framed (view v s0 r0) q.table.rows q.table.rows
      still-framed q looks = record { looks = looks; same = λ t. refl }

      pub held-plain :
          {ls : List ℕ} (x y : Doing) (t : Table) (ready : List ℕ) (lacked : List Lack) (q : Progress) →
          Held x s0 r0 k0 w0 ls0 q → t.files ≡ y.files → t.limits ≡ q.table.limits → lacked_by v.image lacked ≡ ls →
          Framed (view v s0 r0) q.table.rows t.rows → Second c (w c m y.hs y.s y.r) y.names y.d t.rows q.losses →
          Held y s0 r0 k0 w0 ls (plain_with t ready lacked q)
      held-plain x y t ready lacked q b files limits is framed second = record {
        looks = framed.looks;
        enough = b.enough;
        secured = λ a e. omega (arith, b.secured a e, framed.same (named (g c) (is_in (R c))));
        budget = omega (arith, b.budget, framed.same (named (g c) (is_in (R c))));
        lacking = is;
        marks = marks-plain w0 q.faults q.losses (q.calls + 1) q.cause b.marks;
        still = record { files_stay = files; note_stays = b.still.note_stays; limits_stay = limits ∙ b.still.limits_stay };
        beside = second;
      }

      pub held-failed :
          (x y : Doing) (t : Table) (q : Progress) → Held x s0 r0 k0 w0 ls0 q → t.files ≡ y.files →
          t.limits ≡ q.table.limits → Framed (view v s0 r0) q.table.rows t.rows →
          Second c (w c m y.hs y.s y.r) y.names y.d t.rows q.losses → Held y s0 r0 (k0 + 1) true ls0 (failed_with t q)
      held-failed x y t q b files limits framed second = record {
        looks = framed.looks;
        enough = b.enough;
        secured = λ a e. omega (arith, b.secured a e, framed.same (named (g c) (is_in (R c))));
        budget = omega (arith, b.budget, framed.same (named (g c) (is_in (R c))));
        lacking = b.lacking;
        marks = marks-wrong w0 q.faults (q.faults + 1) q.losses (q.calls + 1) q.cause (omega arith) b.marks;
        still = record { files_stay = files; note_stays = b.still.note_stays; limits_stay = limits ∙ b.still.limits_stay };
        beside = second;
      }

      -- it failed and nothing changed
      pub just-failed : (x : Doing) (q : Progress) → Aside c c.rec.pid_path x.files → Held x s0 r0 k0 w0 ls0 q → Goes c (co c) back (failed_with q.table q)
      just-failed x q aside b =
          back-goes x (failed_with q.table q) aside
          (held-failed x x q.table q b b.still.files_stay refl (still-framed q b.looks) b.beside)

      -- Where the new master lives, its call; else it is gone.
      pub step :
          (call : Call) (set : List ℕ) (rest : Tree) (x : Doing) (q : Progress) → is_leave_call call ≡ false → Held x s0
          r0 k0 w0 ls0 q →
          ((q' : Progress) → Held x s0 r0 k0 w0 ls0 q' → Looks (w c m x.hs x.s x.r) q'.table.rows → (fate : Option Fate) → Edge call rest set q' (step_by (co c).handed image (Some (record { number = m; holds = x.hs })) call fate q'.table))
          → ((q' : Progress) → Held x s0 r0 k0 w0 ls0 q' → Edge call rest set q' (gives answer.MasterGone q'.table)) →
          Goes c (co c) (tries image call set rest back) q
      step call set rest x q stays b own gone =
          let order = Make call in
          let moment = c.pattern (q.calls + 1) in
          let middle = after_moment moment.exits q in
          let at : (if is_leave order then (co c).executing ++ (co c).heirs else (co c).executing) ≡ (co c).executing = rw stays in
          let after : course_after order (co c) ≡ co c = go (is_leave order) stays in
          λ spared mild.
          let sp =
          spares-each (co c).executing c.rec.generation.image moment.exits (acts c)
          (subst (λ images. names_any images moment.exits ≡ false) at spared) in
          let b' = band-exits v (sc x) s0 r0 (named (g c) (is_in (R c))) (length (R c)) k0 w0 ls0 moment.exits q sp mild b in (
            band-inv v (sc x) (grounded I P (co c) (acts c) (good x)) s0 r0 (named (g c) (is_in (R c))) (length (R c)) k0 w0 ls0 q b,
            band-inv v (sc x) (grounded I P (co c) (acts c) (good x)) s0 r0 (named (g c) (is_in (R c))) (length (R c)) k0 w0 ls0 middle b',
            tt,
            subst
                (λ (y : Course). Behind I P Anyhow Unasked y (edges call rest) (reply_of set (answered (co c).handed image order moment.fate middle).answer) (after_call image order set (answered (co c).handed image order moment.fate middle) middle))
                (sym after)
                (⊎_elim (λ looks. subst (λ (o : Option Caller). Edge call rest set middle (step_by (co c).handed image o call moment.fate middle.table)) (sym (finds (w c m x.hs x.s x.r) middle.table.rows looks)) (own middle b' looks moment.fate))
                (λ dead. subst (λ (o : Option Caller). Edge call rest set middle (step_by (co c).handed image o call moment.fate middle.table)) (sym (dead-none (w c m x.hs x.s x.r) middle.table.rows dead)) (gone middle b'))
                b'.beside.0),
          )
        where
          go :
              (b : Bool) → b ≡ false → record
              { handed = (co c).handed; pattern = (co c).pattern; executing = if b then (co c).heirs else (co c).executing; heirs = (co c).heirs }
              ≡ co c
          go true e = absurd (cc)
          go false e = refl

      ---- Each call

      pub try-adopt :
          (rest : Tree) (x : Doing) (q : Progress) → Aside c c.rec.pid_path x.files →
          ((q' : Progress) → Held x s0 r0 k0 w0 ls0 q' → Goes c (co c) rest q') → Held x s0 r0 k0 w0 ls0 q →
          Goes c (co c) (tries image Adopt [] rest back) q
      try-adopt rest x q aside next b =
          step Adopt [] rest x q refl b
          (λ q' b' looks fate. adopt-cases (co c).handed image (me x) fate q'.table (λ st. Edge Adopt rest [] q' st) (just-failed x q' aside b')
          (next (plain_with q'.table q'.ready q'.lacked q') (held-plain x x q'.table q'.ready q'.lacked q' b' b'.still.files_stay refl b'.lacking (still-framed q' b'.looks) b'.beside)))
          (λ q' b'. just-failed x q' aside b')

      pub try-close :
          (rest : Tree) (a : Address) (x : Doing) (q : Progress) → Aside c c.rec.pid_path x.files →
          ((q' : Progress) → Held (with_hs x (lacks_address a x.hs)) s0 r0 k0 w0 ls0 q' → Goes c (co c) rest q') →
          Held x s0 r0 k0 w0 ls0 q → Goes c (co c) (tries image (CloseAt a) [] rest back) q
      try-close rest a x q aside next b =
          step (CloseAt a) [] rest x q refl b
          (λ q' b' looks fate.
          let t' = (own_step (co c).handed image (me x) (CloseAt a) q'.table).table in
          let framed =
          framed-change (view v s0 r0) m (is_of m) (with_holds (lacks_address a)) q'.table.rows (apart s0 r0)
          (mine-of m, λ k zs. refl) (holds-stay (lacks_address a)) b'.looks in
          subst (λ st. Edge (CloseAt a) rest [] q' st) (sym (unfailing (co c).handed image (me x) (CloseAt a) fate q'.table tt))
          (next (plain_with t' q'.ready q'.lacked q') (held-plain x (with_hs x (lacks_address a x.hs)) t' q'.ready q'.lacked q' b' b'.still.files_stay refl b'.lacking framed
          (inl (looks-allows (after_close a (w c m x.hs x.s x.r)) (w c m (lacks_address a x.hs) x.s x.r) (record { number = refl; others = λ k e. e; image = refl; holds = refl; starting = λ j k e. e; ready = λ j k e. e; held_starting = λ j k e. share-lacks (posts c) k a x.hs; held = λ j k e. share-lacks (posts c) k a x.hs }) t'.rows (close-looks (w c m x.hs x.s x.r) a q'.table.rows looks)), omega (arith, b'.beside.1, close-weigh m x.names a q'.table.rows)))))
          (λ q' b'. just-failed x q' aside b')

      pub try-open :
          (rest : Tree) (a : Address) (hs : List Hold) (files : List File) (q : Progress) → Aside c c.rec.pid_path files →
          ((h : Hold) (q' : Progress) → h.address ≡ a → h.fd ≡ lowest_free hs → nat_lt (length hs) c.t.limits.descriptors ≡ true → Held (bare (put_hold h hs) files) s0 r0 k0 w0 ls0 q' → Goes c (co c) rest q')
          → Held (bare hs files) s0 r0 k0 w0 ls0 q → Goes c (co c) (tries image (OpenAt a) [] rest back) q
      try-open rest a hs files q aside next b =
          let x = bare hs files in
          step (OpenAt a) [] rest x q refl b
          (λ q' b' looks fate.
          let bad = just-failed x q' aside b' in
          open-cases (co c).handed image (me x) a fate q'.table (λ st. Edge (OpenAt a) rest [] q' st) bad bad bad bad
          (λ off room.
          let h : Hold = record { fd = lowest_free hs; socket = q'.table.next_socket; address = a } in
          let t' = with_new_socket q'.table m h in
          let framed =
          framed-change (view v s0 r0) m (is_row m) (with_holds (put_hold h)) q'.table.rows (apart s0 r0)
          (mine-row m, λ k zs. refl) (holds-stay (put_hold h)) b'.looks in
          next h (plain_with t' q'.ready q'.lacked q') refl refl
          (ap (λ (l : Limits). nat_lt (length hs) l.descriptors) (sym b'.still.limits_stay) ∙ room)
          (held-plain x (bare (put_hold h hs) files) t' q'.ready q'.lacked q' b' b'.still.files_stay refl b'.lacking framed
          (inl (looks-allows (after_open h (w c m hs none none)) (w c m (put_hold h hs) none none) (record { number = refl; others = λ k e. e; image = refl; holds = refl; starting = λ j k e. e; ready = λ j k e. e; held_starting = λ j k e. absurd (cc e); held = λ j k e. absurd (cc e) }) t'.rows (open-looks (w c m hs none none) h q'.table.rows looks)), omega arith))))
          (λ q' b'. just-failed x q' aside b')

      pub try-fork :
          (rest : Tree) (k : ℕ) (x : Doing) (q : Progress) → Aside c c.rec.pid_path x.files →
          ((q' : Progress) → Held (with_starting x (plus x.s (new c) k)) s0 r0 k0 w0 ls0 q' → Goes c (co c) rest q') →
          Held x s0 r0 k0 w0 ls0 q → Goes c (co c) (tries image (fork_of (new_crew c) k) [] rest back) q
      try-fork rest k x q aside next b =
          let hold = share (posts c) k x.hs in
          step (fork_of (new_crew c) k) [] rest x q refl b
          (λ q' b' looks fate.
          let bad = just-failed x q' aside b' in
          fork-cases (co c).handed image (me x) (new c) k (fds_of (posts c) k) fate q'.table (λ st. Edge (fork_of (new_crew c) k) rest [] q' st) bad bad
          (λ off.
          let j = q'.table.next_process in
          let t' = with_new_row q'.table (λ j. Worker j m (new c) k Starting hold) in
          let framed = framed-grow (view v s0 r0) m j (new c) k hold q'.table.rows (apart s0 r0) (eqb-refl m m refl) b'.looks in
          next (plain_with t' q'.ready q'.lacked q')
          (held-plain x (with_starting x (plus x.s (new c) k)) t' q'.ready q'.lacked q' b' b'.still.files_stay refl b'.lacking framed
          (inl (fork-looks (w c m x.hs x.s x.r) (new c) k j hold q'.table.rows refl off looks), omega (arith, b'.beside.1, fork-weigh m (new c) x.names k j hold q'.table.rows)))))
          (λ q' b'. just-failed x q' aside b')

      joins :
          (k : ℕ) (done : List ℕ) (h : Generation) (j : ℕ) → plus (named (new c) (is_in done)) (new c) k h j ≡ true →
          named (new c) (is_in (k ∷ done)) h j ≡ true
      joins k done h j e =
          ⊎_elim
          (λ a. both-true (same_generation h (new c)) (is_in (k ∷ done) j) (and-left _ _ a) (in-there k j done (and-right (same_generation h (new c)) _ a)))
          (λ a. both-true (same_generation h (new c)) (is_in (k ∷ done) j) (and-left _ _ a) (in-here k j done (sym (bears-is (new c) k h j a).1)))
          (or-elim (named (new c) (is_in done) h j) (bears (new c) k h j) e)

      off-named : (k : ℕ) (done : List ℕ) → is_in done k ≡ false → named (new c) (is_in done) (new c) k ≡ false
      off-named k done off = go (same_generation (new c) (new c)) off
        where
          go : (b : Bool) → is_in done k ≡ false → (b && is_in done k) ≡ false
          go true e = e
          go false e = refl

      pub try-await :
          (rest : Tree) (k : ℕ) (hs : List Hold) (s : Names) (done : List ℕ) (files : List File) (q : Progress) → is_in
          done k ≡ false → Aside c c.rec.pid_path files →
          ((q' : Progress) → Held (readied hs (minus s (new c) k) (k ∷ done) files) s0 r0 k0 w0 ls0 q' → Goes c (co c) rest q')
          → Held (readied hs s done files) s0 r0 k0 w0 ls0 q → Goes c (co c)
          (tries image (AwaitReady (new c) k) [] rest back) q
      try-await rest k hs s done files q off aside next b =
          let x = readied hs s done files in
          let y = readied hs (minus s (new c) k) (k ∷ done) files in
          step (AwaitReady (new c) k) [] rest x q refl b
          (λ q' b' looks fate.
          await-cases (co c).handed image (me x) (new c) k fate q'.table (λ st. Edge (AwaitReady (new c) k) rest [] q' st) (just-failed x q' aside b')
          (λ live.
          let t' = each_row (change (is_worker is_starting m (new c) k) made_ready) q'.table in
          let framed =
          framed-change (view v s0 r0) m (is_worker is_starting m (new c) k) made_ready q'.table.rows (apart s0 r0)
          (mine-worker is_starting m (new c) k, λ j zs. refl) ready-stays b'.looks in
          let gain =
          await-gains (w c m hs s (named (new c) (is_in done))) (new c) (named (new c) (is_in (k ∷ done))) k
          q'.table.rows
          (both-true (same_generation (new c) (new c)) (is_in (k ∷ done) k) (same-refl (new c)) (in-here k k done refl))
          (off-named k done off) live looks in
          let more =
          weigh-sub m (named (new c) (is_in done)) (named (new c) (is_in (k ∷ done)))
          (λ h j e. both-true (same_generation h (new c)) (is_in (k ∷ done) j) (and-left _ _ e) (in-there k j done (and-right (same_generation h (new c)) _ e)))
          q'.table.rows in
          next (plain_with t' q'.ready q'.lacked q')
          (held-plain x y t' q'.ready q'.lacked q' b' b'.still.files_stay refl b'.lacking framed (
            inl
                (looks-allows (after_wait (new c) k (w c m hs s (named (new c) (is_in done)))) (w c m hs (minus s (new c) k) (named (new c) (is_in (k ∷ done)))) (record { number = refl; others = λ j e. e; image = refl; holds = refl; starting = λ h j e. e; ready = joins k done; held_starting = λ h j e. refl; held = λ h j e. refl }) t'.rows (await-looks (w c m hs s (named (new c) (is_in done))) (new c) k q'.table.rows looks)),
            omega (arith, b'.beside.1, gain, more),
          )))
          (λ gone.
          let t' = each_row (drop_where (is_worker is_exited m (new c) k)) q'.table in
          let framed =
          framed-drop (view v s0 r0) m (is_worker is_exited m (new c) k) q'.table.rows (apart s0 r0)
          (mine-worker is_exited m (new c) k, λ j zs. refl) b'.looks in
          let z = with_starting x (minus s (new c) k) in
          back-goes z (failed_with t' q') aside (held-failed x z t' q' b' b'.still.files_stay refl framed
          (inl (gone-looks (w c m hs s (named (new c) (is_in done))) (new c) k q'.table.rows gone looks), omega (arith, b'.beside.1, gone-weigh m (new c) k (named (new c) (is_in done)) q'.table.rows)))))
          (λ q' b'. just-failed x q' aside b')

      pub try-write :
          (rest : Tree) (path : FilePath) (x : Doing) (q : Progress) → Aside c c.rec.pid_path x.files →
          ((q' : Progress) → Held (with_written x (with_file path m x.files)) s0 r0 k0 w0 ls0 q' → Goes c (co c) rest q')
          → Held x s0 r0 k0 w0 ls0 q → Goes c (co c) (tries image (WritePid path) [] rest back) q
      try-write rest path x q aside next b =
          step (WritePid path) [] rest x q refl b
          (λ q' b' looks fate. write-cases (co c).handed image (me x) path fate q'.table (λ st. Edge (WritePid path) rest [] q' st) (just-failed x q' aside b')
          (let t' = with_files (with_file path m q'.table.files) q'.table in
          next (plain_with t' q'.ready q'.lacked q')
          (held-plain x (with_written x (with_file path m x.files)) t' q'.ready q'.lacked q' b' (ap (with_file path m) b'.still.files_stay) refl b'.lacking (record { looks = b'.looks; same = λ t. refl }) b'.beside)))
          (λ q' b'. just-failed x q' aside b')
