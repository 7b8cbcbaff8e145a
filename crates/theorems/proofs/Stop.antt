-- The headline for a stop.
use Rattle.std.proofs.Common.{◌≡◌, ℕ, ◌+◌, Bool, true, false, not, List, [], ◌∷◌, Option, Some, None, refl, sym, ap, ◌∙◌, subst, arith, ⊎_elim}
use Rattle.std.specs.Prelude.{filter_map, reverse, unwrap_or, ⊤, ◌==◌, bytes_eq, if◌then◌else◌}
use Rattle.std.specs.List.{AllByRecursion, list_any, cons_option}
use Rattle.listener_set.specs.Numbers.{is_in}
use Rattle.listener_set.specs.declared.generation.Generation.{Generation}
use Rattle.vocabulary.specs.declared.plans.PidNote.{PidNote}
use Rattle.vocabulary.specs.declared.plans.PidNote.TheVariants.{InPlace, AtOldbin, OldbinLeft, Left, NoFile}
use Rattle.vocabulary.specs.declared.plans.End.TheVariants.{Done, RolledBack, ShortOld, ShortTarget}
use Rattle.vocabulary.specs.declared.plans.Order.TheVariants.{Make}
use Rattle.vocabulary.specs.declared.calls.Call.TheVariants.{RemovePid, Leave}
use Rattle.vocabulary.specs.declared.calls.Answer.TheVariants as answer
use Rattle.vocabulary.specs.declared.targets.Target.TheVariants.{Stop}
use Rattle.definitions.specs.Table.{is_own, FilePath, File, Process, Master, Worker, Foreign, Table, Hold, Caller}
use Rattle.definitions.specs.Table.{owner_at, has_address, service, IsSame}
use Rattle.call_laws.specs.Pieces.{owner_if, with_files, without_master, quits, kills, is_live_with, noted, answered}
use Rattle.call_laws.specs.Pieces.{lacked_last}
use Rattle.definitions.specs.Calls.{Stepped, gives, step_by, each_row, without_file}
use Rattle.definitions.specs.Master.{Record, FilesAre, oldbin, want, sides_of}
use Rattle.definitions.specs.Run.{Tree, Ends, reply_of, outcome_of, Pattern, Progress, Ending, At, Lost, Ran, start_at}
use Rattle.definitions.specs.Run.{after_call, after_moment}
use Rattle.definitions.specs.Plans.{plan_tree, stop_tree, awaits_gone, then_edge, note_edges, removes}
use Rattle.definitions.specs.Plans.{remove_oldbin_too, has_oldbin, stopped, does}
use Rattle.definitions.specs.Claims.{was_failed, IsRemoved, Says, HasCause, IsPaid, IsStart, Kept, IsBlamed, StopNote, run_of}
use Rattle.theorems.proofs.Headlines.{StopHeadline}
use Rattle.table_laws.proofs.Rows.{every-more}
use Rattle.listener_set.specs.AddressList.{has}
use Rattle.table_laws.proofs.Addresses.{address-refl}
use Rattle.table_laws.proofs.Files.{gone-file, other-oldbin}
use Rattle.theorems.proofs.StopFiles.{Ended, files-removed}
use Rattle.table_laws.proofs.Views.{Names, View, Fine, finds, eqb-refl}
use Rattle.table_laws.proofs.Exits.{spares-each}
use Rattle.table_laws.proofs.Effects.{none, looks-allows}
use Rattle.table_laws.proofs.Sets.{in-here}
use Rattle.table_laws.proofs.Services.{sole-fine}
use Rattle.theorems.proofs.Notes.{LeftByFault, SaidBy, left-by}
use Rattle.theorems.proofs.Ends.{report_at}
use Rattle.definitions.specs.After.{next_record}
use Rattle.vocabulary.specs.declared.calls.Reply.{Reply}
use Rattle.table_laws.proofs.Begins.{first_view, begin}
use Rattle.run_laws.proofs.Logic.{Unasked, course_after, Behind, Course, Anyhow, Along, from-along, are-mild-anyhow}
use Rattle.call_laws.proofs.Cases.{remove-cases, unfailing}
use Rattle.run_laws.proofs.Rules.{IsGood, Ground, rule-waits, band-anew, Scene, plain_scene, Band, view, any, Answers}
use Rattle.run_laws.proofs.Rules.{marks-plain, marks-wrong, rule-step, rule-quits, rule-kills, band-exits, band-inv}

---- Files

-- no file appears where another is removed
pub still-gone : (path other : FilePath) (files : List File) → owner_at path files ≡ None → owner_at path (without_file other files) ≡ None
still-gone path other [] e = refl
still-gone path other (f ∷ files) e = go (bytes_eq f.path path) refl e (still-gone path other files) (not (bytes_eq f.path other))
  where
    go :
        (b : Bool) → bytes_eq f.path path ≡ b → owner_if b f.owner (owner_at path files) ≡ None →
        (owner_at path files ≡ None → owner_at path (without_file other files) ≡ None) → (c : Bool) →
        owner_at path (if c then f ∷ without_file other files else without_file other files) ≡ None
    go true is e ih c = absurd (cc)
    go false is e ih true = rw is (ih e)
    go false is e ih false = ih e

---- Leaving

-- when the only master leaves, no live master is there
none-live :
    (v : View) (test : List Hold → Bool) (rows : List Process) → AllByRecursion (Fine v) rows →
    list_any (is_live_with test) (filter_map (without_master v.number) rows) ≡ false
none-live v test [] fine = refl
none-live v test (Master n q i live hs ∷ rows) fine = go (n == v.number) (eqb-refl n v.number fine.0.0) (none-live v test rows fine.1)
  where
    go :
        (b : Bool) → b ≡ true → list_any (is_live_with test) (filter_map (without_master v.number) rows) ≡ false →
        list_any (is_live_with test)
        (cons_option (if b then None else Some (Master n (if q == v.number then 1 else q) i live hs)) (filter_map (without_master v.number) rows))
        ≡ false
    go true e ih = ih
    go false e ih = absurd (cc)
none-live v test (Worker n q g k st hs ∷ rows) fine = go (q == v.number) (none-live v test rows fine.1)
  where
    go :
        (b : Bool) → list_any (is_live_with test) (filter_map (without_master v.number) rows) ≡ false → list_any
        (is_live_with test)
        (cons_option (if b then None else Some (Worker n q g k st hs)) (filter_map (without_master v.number) rows)) ≡
        false
    go true ih = ih
    go false ih = ih
none-live v test (Foreign n hs ∷ rows) fine = none-live v test rows fine.1

-- And no process of any master.
none-own : (v : View) (rows : List Process) → AllByRecursion (Fine v) rows → list_any is_own (filter_map (without_master v.number) rows) ≡ false
none-own v [] fine = refl
none-own v (Master n q i live hs ∷ rows) fine = go (n == v.number) (eqb-refl n v.number fine.0.0) (none-own v rows fine.1)
  where
    go :
        (b : Bool) → b ≡ true → list_any is_own (filter_map (without_master v.number) rows) ≡ false → list_any is_own
        (cons_option (if b then None else Some (Master n (if q == v.number then 1 else q) i live hs)) (filter_map (without_master v.number) rows))
        ≡ false
    go true e ih = ih
    go false e ih = absurd (cc)
none-own v (Worker n q g k st hs ∷ rows) fine = go (q == v.number) (eqb-refl q v.number fine.0.0) (none-own v rows fine.1)
  where
    go :
        (b : Bool) → b ≡ true → list_any is_own (filter_map (without_master v.number) rows) ≡ false → list_any is_own
        (cons_option (if b then None else Some (Worker n q g k st hs)) (filter_map (without_master v.number) rows)) ≡
        false
    go true e ih = ih
    go false e ih = absurd (cc)
none-own v (Foreign n hs ∷ rows) fine = none-own v rows fine.1

-- The files after a stop are as its note says; of what a failed removal left, see StopFiles.
abbrev pub FilesThen : PidNote → Option FilePath → List File → Type 0
FilesThen NoFile None files = ⊤
FilesThen NoFile (Some path) files = (owner_at path files ≡ None) × (owner_at (oldbin path) files ≡ None)
FilesThen Left None files = ⊥
FilesThen Left (Some path) files = ⊤
FilesThen InPlace path files = ⊥
FilesThen AtOldbin path files = ⊥
FilesThen OldbinLeft path files = ⊥

module _ (t : Table) (rec : Record) (quick : Bool) (pattern : Pattern) (s : IsStart t rec) where
  abbrev g : Generation
  g = rec.generation

  abbrev R : List ℕ
  R = rec.ready

  abbrev u : View
  u = first_view rec s.agrees.holds

  abbrev sc : List File → PidNote → Scene rec.pid rec.generation.image
  sc files note = plain_scene rec.pid rec.generation.image (λ a. 0) (λ a. none) files note t.limits

  abbrev co : Course
  co = record { handed = None; pattern = pattern; executing = rec.generation.image ∷ []; heirs = [] }

  acts : is_in (rec.generation.image ∷ []) rec.generation.image ≡ true
  acts = in-here rec.generation.image rec.generation.image [] refl

  abbrev inv : Progress → Type 0
  inv q = Kept (service t) (want rec (Stop quick)) t q.table × IsBlamed q

  abbrev post : Ending → Progress → Type 0
  post (At Done) q = IsSame (service q.table) (want rec (Stop quick)) × (list_any is_own q.table.rows ≡ false) × FilesThen q.note rec.pid_path q.table.files
  post (At RolledBack) q = ⊥
  post (At ShortOld) q = ⊥
  post (At ShortTarget) q = ⊥
  post (At _) q = ⊥
  post Lost q = ⊥

  abbrev Goes : Tree → Progress → Type 0
  Goes tree q = Along inv post Anyhow Unasked co tree q

  good : (files : List File) (note : PidNote) → IsGood u (sc files note) inv
  good files note names count w q enough looks secured marks beside = (λ a socket common on. absurd (cc (common.1)), (marks.clean, marks.blamed))

  abbrev ground : (files : List File) (note : PidNote) → Ground u (sc files note)
  ground files note = record { inv = inv; post = post; co = co; acts = acts; good = good files note }

  -- what is known: the master is alone, and of its workers nothing is counted
  abbrev Holds : List File → PidNote → Bool → Progress → Type 0
  Holds files note w q = Band u (sc files note) any any none 0 0 w [] q

  widen : (files : List File) (note : PidNote) (st r : Names) (w : Bool) (q : Progress) → Band u (sc files note) st r none 0 0 w [] q → Holds files note w q
  widen files note st r w q b = record {
    looks =
        looks-allows (view u st r) (view u any any)
        (record {
          number = refl;
          others = λ n e. e;
          image = refl;
          holds = refl;
          starting = λ h k e. refl;
          ready = λ h k e. refl;
          held_starting = λ h k e. refl;
          held = λ h k e. refl;
        })
        q.table.rows b.looks;
    enough = b.enough;
    secured = λ a e. absurd (omega (arith, e));
    budget = omega arith;
    lacking = b.lacking;
    still = b.still;
    marks = b.marks;
    beside = tt;
  }

  forget : (files : List File) (note : PidNote) (w : Bool) (q : Progress) → Holds files note w q → Holds files note false q
  forget files note w q b = record {
    looks = b.looks;
    enough = b.enough;
    secured = λ a e. absurd (omega (arith, e));
    budget = omega arith;
    lacking = b.lacking;
    still = b.still;
    marks = record { clean = b.marks.clean; blamed = b.marks.blamed; caused = λ e. absurd (cc e); returned = b.marks.returned };
    beside = tt;
  }

  ---- The steps

  quits-all :
      (rest : Tree) (ks : List ℕ) (files : List File) (note : PidNote) (q : Progress) →
      ((q' : Progress) → Holds files note false q' → Goes rest q') → Holds files note false q →
      Goes (quits g.image g ks rest) q
  quits-all rest ks files note q next b =
      rule-quits u (sc files note) (ground files note) rest g ks any any none 0 0 false [] q (λ k e. refl)
      (λ st r q' less_s less b'. next q' (widen files note st r false q' b')) b

  kills-all :
      (rest : Tree) (ks : List ℕ) (files : List File) (note : PidNote) (q : Progress) →
      ((q' : Progress) → Holds files note false q' → Goes rest q') → Holds files note false q →
      Goes (kills g.image g ks rest) q
  kills-all rest ks files note q next b =
      rule-kills u (sc files note) (ground files note) rest g ks any any none 0 0 false [] q (λ k e. refl)
      (λ st r q' less_s less b'. next q' (widen files note st r false q' b')) b

  waits-all :
      (rest : Tree) (ks : List ℕ) (files : List File) (note : PidNote) (q : Progress) →
      ((q' : Progress) → Holds files note false q' → Goes rest q') → Holds files note false q →
      Goes (awaits_gone g.image g ks rest) q
  waits-all rest ks files note q next b =
      rule-waits u (sc files note) (ground files note) rest g ks any any none 0 false [] q (λ k e. refl)
      (λ st r w k q' sub_st sub_r up b'. next q' (forget files note w q' (widen files note st r w q' (band-anew u (sc files note) (ground files note) st r none 0 k w [] q' b'))))
      0 b

  said-so :
      (said : Option PidNote) (files : List File) (note : PidNote) (w : Bool) (q : Progress) → Holds files note w q →
      Holds files (unwrap_or said note) w (noted said q)
  said-so None files note w q b = b
  said-so (Some x) files note w q b = record {
    looks = b.looks;
    enough = b.enough;
    secured = λ a e. absurd (omega (arith, e));
    budget = omega arith;
    lacking = b.lacking;
    still = record { files_stay = b.still.files_stay; note_stays = refl; limits_stay = b.still.limits_stay };
    marks = b.marks;
    beside = tt;
  }

  -- A removal, and what its edges say.
  removal :
      (path : FilePath) (fine fault : Option PidNote) (rest : Tree) (files : List File) (note : PidNote) (q : Progress)
      → ((q' : Progress) → Holds (without_file path files) (unwrap_or fine note) false q' → Goes rest q') →
      ((q' : Progress) → Holds files (unwrap_or fault note) false q' → Goes rest q') → Holds files note false q → Goes
      (does g.image (RemovePid path) (note_edges fine fault rest)) q
  removal path fine fault rest files note q on_fine on_fault b =
      let order = Make (RemovePid path) in
      let bs = note_edges fine fault rest in
      rule-step u (sc files note) (ground files note) order [] bs any any none 0 0 false [] q refl b (λ p b' fate.
      remove-cases co.handed g.image (record { number = rec.pid; holds = s.agrees.holds }) path fate p.table
      (λ st. Answers u (sc files note) (ground files note) order [] bs p st)
      (on_fault (noted fault (after_call rec.generation.image order [] (gives answer.IoFault p.table) p)) (forget files (unwrap_or fault note) true _
      (said-so fault files note true (after_call rec.generation.image order [] (gives answer.IoFault p.table) p)
      (record { looks = b'.looks; enough = b'.enough; secured = λ a e. absurd (omega (arith, e)); budget = omega arith; lacking = b'.lacking; still = b'.still; marks = marks-wrong false p.faults (p.faults + 1) p.losses (p.calls + 1) p.cause (omega arith) b'.marks; beside = tt }))))
      (on_fine (noted fine (after_call rec.generation.image order [] (gives answer.Fine (with_files (without_file path p.table.files) p.table)) p))
      (said-so fine (without_file path files) note false (after_call rec.generation.image order [] (gives answer.Fine (with_files (without_file path p.table.files) p.table)) p)
      (record {
        looks = b'.looks;
        enough = b'.enough;
        secured = λ a e. absurd (omega (arith, e));
        budget = omega arith;
        lacking = b'.lacking;
        still = record { files_stay = ap (without_file path) b'.still.files_stay; note_stays = b'.still.note_stays; limits_stay = b'.still.limits_stay };
        marks = marks-plain false p.faults p.losses (p.calls + 1) p.cause b'.marks;
        beside = tt;
      }))))

  ---- The ends

  leaving : (files : List File) (note : PidNote) (q : Progress) → FilesThen note rec.pid_path files → Holds files note false q → Goes (stopped g.image) q
  leaving files note q as_said b spared mild =
      let order = Make Leave in
      let moment = pattern (q.calls + 1) in
      let middle = after_moment moment.exits q in
      let sp = spares-each co.executing g.image moment.exits acts spared in
      let b' = band-exits u (sc files note) any any none 0 0 false [] moment.exits q sp mild b in
      let me : Caller = record { number = rec.pid; holds = s.agrees.holds } in
      let is : answered None g.image order moment.fate middle ≡ gives answer.Fine (each_row (without_master rec.pid) middle.table) =
      ap (λ (o : Option Caller). step_by None g.image o Leave moment.fate middle.table)
      (finds (view u any any) middle.table.rows b'.looks) ∙ unfailing None g.image me Leave moment.fate middle.table tt in
      let gone = after_call rec.generation.image order [] (gives answer.Fine (each_row (without_master rec.pid) middle.table)) middle in
      let marks = marks-plain false middle.faults middle.losses (middle.calls + 1) middle.cause b'.marks in
      let fine = sole-fine (view u any any) (λ n. refl) middle.table.rows b'.looks.fine in
      let kept : inv gone = (λ a socket common on. absurd (cc (common.1)), (marks.clean, marks.blamed)) in
      let empty : IsSame (service gone.table) (want rec (Stop quick)) = λ a. rw (none-live (view u any any) (has_address a) middle.table.rows fine) refl in
      let files_then : FilesThen gone.note rec.pid_path gone.table.files =
      subst (λ x. FilesThen x rec.pid_path gone.table.files) (sym b'.still.note_stays)
      (subst (λ x. FilesThen note rec.pid_path x) (sym b'.still.files_stay) as_said) in (
        band-inv u (sc files note) (ground files note) any any none 0 0 false [] q b,
        band-inv u (sc files note) (ground files note) any any none 0 0 false [] middle b',
        tt,
        subst
            (λ (st : Stepped). Behind inv post Anyhow Unasked (course_after order co) (then_edge (Ends Done)) (reply_of [] st.answer) (after_call rec.generation.image order [] st middle))
            (sym is) (kept, (empty, none-own (view u any any) middle.table.rows fine, files_then)),
      )

  -- the rest of the plan, from what the files and the note are
  abbrev Next : Option FilePath → Type 0
  Next path = (files : List File) (note : PidNote) (q : Progress) → FilesThen note path files → Holds files note false q → Goes (stopped g.image) q

  -- The file with the suffix goes too.
  removing-both :
      (path : FilePath) (files : List File) (note : PidNote) (q : Progress) → Next (Some path) → Holds files note false
      q → Goes
      (does g.image (RemovePid path) (note_edges (Some NoFile) (Some Left) (does g.image (RemovePid (oldbin path)) (note_edges None (Some Left) (stopped g.image)))))
      q
  removing-both path files note q next b =
      removal path (Some NoFile) (Some Left) (does g.image (RemovePid (oldbin path)) (note_edges None (Some Left) (stopped g.image))) files note q
      (λ q' b'. removal (oldbin path) None (Some Left) (stopped g.image) (without_file path files) NoFile q'
      (λ q'' b''. next (without_file (oldbin path) (without_file path files)) NoFile q'' (still-gone path (oldbin path) (without_file path files) (gone-file path files), gone-file (oldbin path) (without_file path files)) b'')
      (λ q'' b''. next (without_file path files) Left q'' tt b'') b')
      (λ q' b'. removal (oldbin path) None (Some Left) (stopped g.image) files Left q' (λ q'' b''. next (without_file (oldbin path) files) Left q'' tt b'') (λ q'' b''. next files Left q'' tt b'') b')
      b

  removing :
      (path : Option FilePath) (note : PidNote) (files : List File) (q : Progress) → Next path →
      FilesAre note path rec.pid files → Holds files note false q → Goes (removes g.image path note (stopped g.image)) q
  removing None InPlace files q next are b = absurd are
  removing None AtOldbin files q next are b = absurd are
  removing None OldbinLeft files q next are b = absurd are
  removing None Left files q next are b = absurd are
  removing None NoFile files q next are b = next files NoFile q tt b
  removing (Some path) InPlace files q next are b =
      removal path (Some NoFile) (Some Left) (stopped g.image) files InPlace q
      (λ q' b'. next (without_file path files) NoFile q' (gone-file path files, still-gone (oldbin path) path files are.1) b')
      (λ q' b'. next files Left q' tt b') b
  removing (Some path) AtOldbin files q next are b = removing-both path files AtOldbin q next b
  removing (Some path) OldbinLeft files q next are b = removing-both path files OldbinLeft q next b
  removing (Some path) Left files q next are b = absurd are
  removing (Some path) NoFile files q next are b = absurd are

  ---- The whole plan

  at_first : Holds t.files rec.note false (start_at t rec.note)
  at_first =
      let looks0 = begin t rec s in
      widen t.files rec.note none u.ready false (start_at t rec.note)
      (record {
        looks = looks0;
        enough = λ a e. absurd (omega (arith, e));
        secured = λ a e. absurd (omega (arith, e));
        budget = omega arith;
        lacking = refl;
        still = record { files_stay = refl; note_stays = refl; limits_stay = refl };
        marks = record { clean = λ e. refl; blamed = λ e. absurd (cc e); caused = λ e. absurd (cc e); returned = refl };
        beside = tt;
      })

  ending : (q : Progress) → Holds t.files rec.note false q → Goes (removes g.image rec.pid_path rec.note (stopped g.image)) q
  ending q b = removing rec.pid_path rec.note t.files q (λ files note q' as_said b'. leaving files note q' as_said b') s.agrees.files b

  goes-quick : Goes (kills g.image g R (removes g.image rec.pid_path rec.note (stopped g.image))) (start_at t rec.note)
  goes-quick = kills-all (removes g.image rec.pid_path rec.note (stopped g.image)) R t.files rec.note (start_at t rec.note) ending at_first

  goes-slowly :
      Goes
      (quits g.image g (reverse R) (awaits_gone g.image g (reverse R) (removes g.image rec.pid_path rec.note (stopped g.image))))
      (start_at t rec.note)
  goes-slowly =
      quits-all (awaits_gone g.image g (reverse R) (removes g.image rec.pid_path rec.note (stopped g.image))) (reverse R) t.files rec.note (start_at t rec.note)
      (λ q b. waits-all (removes g.image rec.pid_path rec.note (stopped g.image)) (reverse R) t.files rec.note q ending b) at_first

---- Only a failed removal leaves a file

abbrev paths_of : Option FilePath → List FilePath
paths_of None = []
paths_of (Some path) = path ∷ oldbin path ∷ []

unsaid : (paths : List FilePath) (removes : Bool) (replies : List Reply) → SaidBy paths removes replies None
unsaid paths removes replies e = absurd (cc e)

said-none : (paths : List FilePath) (removes : Bool) (replies : List Reply) → SaidBy paths removes replies (Some NoFile)
said-none paths removes replies e = absurd (cc e)

by-quits : (paths : List FilePath) (by : ℕ) (g : Generation) (ks : List ℕ) (rest : Tree) → LeftByFault paths rest → LeftByFault paths (quits by g ks rest)
by-quits paths by g [] rest h = h
by-quits paths by g (x ∷ ks) rest h = (unsaid paths false _, by-quits paths by g ks rest h, tt)

by-kills : (paths : List FilePath) (by : ℕ) (g : Generation) (ks : List ℕ) (rest : Tree) → LeftByFault paths rest → LeftByFault paths (kills by g ks rest)
by-kills paths by g [] rest h = h
by-kills paths by g (x ∷ ks) rest h = (unsaid paths false _, by-kills paths by g ks rest h, tt)

by-waits : (paths : List FilePath) (by : ℕ) (g : Generation) (ks : List ℕ) (rest : Tree) → LeftByFault paths rest → LeftByFault paths (awaits_gone by g ks rest)
by-waits paths by g [] rest h = h
by-waits paths by g (x ∷ ks) rest h =
    let more = by-waits paths by g ks rest h in
    (unsaid paths false _, more, (unsaid paths false _, (unsaid paths false _, more, tt), tt))

by-removes :
    (by : ℕ) (path : Option FilePath) (note : PidNote) (rest : Tree) → LeftByFault (paths_of path) rest →
    LeftByFault (paths_of path) (removes by path note rest)
by-removes by None note rest h = h
by-removes by (Some path) note rest h =
    let paths = paths_of (Some path) in
    let more = too (has_oldbin note) in
    let on : has paths path ≡ true = rw (address-refl path) refl in
    (said-none paths _ _, more, ((λ e. (on, refl)), more, tt))
  where
    too : (b : Bool) → LeftByFault (paths_of (Some path)) (remove_oldbin_too by path b rest)
    too true =
        let paths = paths_of (Some path) in
        let on : has paths (oldbin path) ≡ true = rw (other-oldbin path, address-refl (oldbin path)) refl in
        (unsaid paths _ _, h, ((λ e. (on, refl)), h, tt))
    too false = h

by-stop :
    (by : ℕ) (g : Generation) (ready : List ℕ) (path : Option FilePath) (note : PidNote) (quick : Bool) →
    LeftByFault (paths_of path) (stop_tree by g ready path note quick)
by-stop by g ready path note true =
    let paths = paths_of path in
    by-kills paths by g ready (removes by path note (stopped by)) (by-removes by path note (stopped by) (unsaid paths false _, tt, tt))
by-stop by g ready path note false =
    let paths = paths_of path in
    by-quits paths by g (reverse ready) (awaits_gone by g (reverse ready) (removes by path note (stopped by)))
    (by-waits paths by g (reverse ready) (removes by path note (stopped by)) (by-removes by path note (stopped by) (unsaid paths false _, tt, tt)))

---- The headline

not-left : (note : PidNote) (path : Option FilePath) (pid : ℕ) (files : List File) → FilesAre note path pid files → note ≡ Left → ⊥
not-left InPlace path pid files are e = cc e
not-left AtOldbin path pid files are e = cc e
not-left OldbinLeft path pid files are e = cc e
not-left NoFile path pid files are e = cc e
not-left Left None pid files are e = are
not-left Left (Some path) pid files are e = are

stop-note :
    (note : PidNote) (path : Option FilePath) (first : Table) (ran : Ran) → FilesThen note path ran.last.table.files →
    (note ≡ Left → was_failed (paths_of path) ran.entries ≡ true) →
    ((x : FilePath) → path ≡ Some x → IsRemoved x first ran × IsRemoved (oldbin x) first ran) → StopNote note path first ran
stop-note NoFile None first ran files failed removed = tt
stop-note NoFile (Some path) first ran files failed removed = files
stop-note Left None first ran files failed removed = absurd files
stop-note Left (Some path) first ran files failed removed =
    let both = removed path refl in
    (failed refl, both.0, both.1)
stop-note InPlace path first ran files failed removed = absurd files
stop-note AtOldbin path first ran files failed removed = absurd files
stop-note OldbinLeft path first ran files failed removed = absurd files

-- A stop is done, whatever is answered.
abbrev AllDone : Table → Record → Bool → Ending → Progress → Type 0
AllDone t rec quick e q =
    let sides = sides_of rec (Stop quick) in
    Says rec (Stop quick) (outcome_of sides e (lacked_last q.lacked)) t q.table
    × (next_record rec (Stop quick) (report_at sides e q) q.table ≡ None)
    × HasCause (outcome_of sides e (lacked_last q.lacked)) q.cause × IsPaid rec.retries (outcome_of sides e (lacked_last q.lacked)) q

all-done :
    (t : Table) (rec : Record) (quick : Bool) (pattern : Pattern) (s : IsStart t rec) (e : Ending) (q : Progress) → post
    t rec quick pattern s e q → AllDone t rec quick e q × Ended e × (list_any is_own q.table.rows ≡ false) × FilesThen
    q.note rec.pid_path q.table.files
all-done t rec quick pattern s (At Done) q h = ((h.0, refl, tt, tt), tt, h.1, h.2)
all-done t rec quick pattern s (At RolledBack) q h = absurd h
all-done t rec quick pattern s (At ShortOld) q h = absurd h
all-done t rec quick pattern s (At ShortTarget) q h = absurd h
all-done t rec quick pattern s (At _) q h = absurd h
all-done t rec quick pattern s Lost q h = absurd h

goes :
    (t : Table) (rec : Record) (quick : Bool) (pattern : Pattern) (s : IsStart t rec) →
    Goes t rec quick pattern s (plan_tree rec (Stop quick) []) (start_at t rec.note)
goes t rec true pattern s = goes-quick t rec true pattern s
goes t rec false pattern s = goes-slowly t rec false pattern s

pub stop_headline : StopHeadline
stop_headline t rec quick turns pattern a =
    let at = start_at t rec.note in
    let tree = plan_tree rec (Stop quick) [] in
    let i = inv t rec quick pattern a.start in
    let c = co t rec quick pattern a.start in
    let all =
    from-along i (post t rec quick pattern a.start) Anyhow Unasked c tree at (goes t rec quick pattern a.start)
    a.spared (are-mild-anyhow c tree at) in
    let ran = run_of rec (Stop quick) [] pattern t in
    let done = all-done t rec quick pattern a.start ran.ending ran.last all.last in
    let failed : ran.last.note ≡ Left → was_failed (paths_of rec.pid_path) ran.entries ≡ true = λ e.
    ⊎_elim (λ x. absurd (not-left rec.note rec.pid_path rec.pid t.files a.start.agrees.files x)) (λ x. x)
    (left-by (paths_of rec.pid_path) None tree pattern at (by-stop rec.generation.image rec.generation rec.ready rec.pid_path rec.note quick) e) in
    record {
      says = done.0.0;
      after =
          (done.0.1, done.2, stop-note ran.last.note rec.pid_path t ran done.3 failed (λ x is. files-removed x t rec quick pattern is a.start.agrees.files a.spared done.1));
      kept = every-more i (λ q. Kept (service t) (want rec (Stop quick)) t q.table) (λ q h. h.0) ran.passed all.always;
      blamed = every-more i IsBlamed (λ q h. h.1) ran.passed all.always;
      cause = done.0.2;
      paid = done.0.3;
    }
