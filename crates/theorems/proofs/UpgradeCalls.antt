-- All that an upgrade's new master does before it is counted, and its count.
use Rattle.std.proofs.Common.{◌≡◌, ◌≢◌, ℕ, ◌+◌, ◌<◌, Bool, true, false, cond, not, List, [], ◌∷◌, ◌++◌, length, Option}
use Rattle.std.proofs.Common.{Some, None, refl, sym, ap, ◌∙◌, subst, append_assoc, arith, inl, inr, ⊎_elim}
use Rattle.std.specs.Prelude.{map, ◌&&◌, ◌||◌, bytes_eq}
use Rattle.std.specs.List.{AllByRecursion, list_any}
use Rattle.listener_set.specs.Numbers.{is_in, numbers_below, lacks, RisesFrom}
use Rattle.listener_set.specs.AddressList.{has}
use Rattle.listener_set.specs.declared.generation.Generation.{Generation}
use Rattle.vocabulary.specs.declared.table.Listener.{Listener}
use Rattle.vocabulary.specs.declared.calls.Call.{Call}
use Rattle.vocabulary.specs.declared.calls.Call.TheVariants.{Adopt, CloseAt, OpenAt, AwaitReady, WritePid, Census}
use Rattle.definitions.specs.Table.{Address, FilePath, File, Hold, bears, same_generation, owner_at, has_address, is_worker}
use Rattle.call_laws.specs.Pieces.{is_at, is_ready, lacks_address, listener_of, full_or_short, went_wrong, first_cause}
use Rattle.definitions.specs.Calls.{each_row, drop_where, with_file, put_hold, is_exited_of, census_of}
use Rattle.definitions.specs.Master.{fork_of, FilesAre, oldbin}
use Rattle.vocabulary.specs.declared.plans.End.{End}
use Rattle.vocabulary.specs.declared.plans.End.TheVariants.{JoinReady, JoinBack}
use Rattle.vocabulary.specs.declared.plans.Turn.{Turn}
use Rattle.definitions.specs.Run.{Tree, Ends, lacked_by, lacked_after, Progress}
use Rattle.definitions.specs.Plans.{joined, weave, graft, tries, tries_all, pid_calls, new_part, back_from, only_in}
use Rattle.vocabulary.specs.declared.calls.Answer.TheVariants as answer
use Rattle.definitions.specs.After.{all_opened, still_wanted, upgraded}
use Rattle.table_laws.proofs.Rows.{both-true}
use Rattle.call_laws.proofs.Choices.{and-left, and-right}
use Rattle.table_laws.proofs.Views.{Names, named}
use Rattle.table_laws.proofs.Effects.{same-is, none, bears-is, bears-refl, looks-allows, mine-exited}
use Rattle.table_laws.proofs.Counts.{Distinct, census-looks, census-weigh, census-in, count-set}
use Rattle.table_laws.proofs.Sets.{every-in, in-here, in-there, in-cases, below-of, below-distinct, below-length}
use Rattle.table_laws.proofs.Small.{off-from, or-elim, true-false, not-is}
use Rattle.table_laws.proofs.Addresses.{stays-lacks, stays-put, any-put, stands-filter}
use Rattle.table_laws.proofs.Listeners.{fds, fds-listed, opens-on, all_closed, closed-first, has-closed, rises-closed, upgrade-added}
use Rattle.table_laws.proofs.Files.{written-file, other-written, other-oldbin}
use Rattle.theorems.proofs.Ends.{first-keys}
use Rattle.run_laws.proofs.Logic.{Unasked, Anyhow, Behind}
use Rattle.call_laws.proofs.Cases.{unfailing}
use Rattle.run_laws.proofs.Rules.{view, minus, plus, seen, Only, marks-wrong, weigh-sub, band-anew, grounded}
use Rattle.table_laws.proofs.Duo.{framed-drop}
use Rattle.theorems.proofs.UpgradeStage.{post, inv, Second, Given, g, new, new_crew, R, H0, A0, f, n, low, wanted}
use Rattle.theorems.proofs.UpgradeStage.{wanted-of, co, acts, old_crew, Goes, w, Common, common0, Lists, Laid}
use Rattle.theorems.proofs.UpgradeStage.{laid-first}
use Rattle.theorems.proofs.UpgradeBack.{Aside}
use Rattle.theorems.proofs.UpgradeNew.{Doing, Held, sc, good, bare, readied, with_starting, with_written, v, edges}
use Rattle.theorems.proofs.UpgradeNew.{Edge, held-plain, goes-back, apart, me, step, just-failed, try-adopt, try-close}
use Rattle.theorems.proofs.UpgradeNew.{try-open, try-fork, try-await, try-write}
use Rattle.theorems.proofs.UpgradeBeside.{Place, Counts, tree_at, starting, Knows, knows-on, At, Cont, olds-beside, olds-alone}

module _ (c : Given) (m : ℕ) (ne : m ≢ c.rec.pid) where
  abbrev image : ℕ
  image = (new c).image

  abbrev D : Type 0
  D = Doing c m ne

  abbrev G : Tree → Progress → Type 0
  G tree q = Goes c (co c) tree q

  abbrev A : List File → Type 0
  A files = Aside c c.rec.pid_path files

  abbrev back : Tree
  back = back_from c.rec.generation.image image (old_crew c) (R c) c.rec.retries c.rec.pid_path

  ---- Closing and opening

  common-lacks : (b : Address) (hs : List Hold) → has (wanted c) b ≡ false → Common c hs → Common c (lacks_address b hs)
  common-lacks b hs off common a h = stays-lacks (wanted c) a b (H0 c) hs off (wanted-of c a h.1) (common a h)

  common-put : (h : Hold) (hs : List Hold) → Common c hs → Common c (put_hold h hs)
  common-put h hs common a e = stays-put h a (H0 c) hs (common a e)

  abbrev pub none_yet : List Hold → List File → D
  none_yet hs files = bare c m ne hs files

  abbrev part : List Call → Tree
  part calls = tries_all image calls (Ends JoinReady) (Ends JoinBack)

  abbrev pub S : List ℕ
  S = numbers_below (n c)

  abbrev pub T : Names
  T = named (new c) (is_in S)

  abbrev forking : List Hold → Names → List File → D
  forking hs s files = with_starting c m ne (none_yet hs files) s

  abbrev ready_so_far : List Hold → Names → List ℕ → List File → D
  ready_so_far hs s done files = readied c m ne hs s done files

  -- what is left of the names that may be Starting
  still-only : (k : ℕ) (ks : List ℕ) (s : Names) → Only (new c) (k ∷ ks) s → Only (new c) ks (minus s (new c) k)
  still-only k ks s only h j e =
      let o = only h j (and-left (s h j) _ e) in
      (o.0, ⊎_elim (λ same. absurd (true-false (bears (new c) k h j) (subst (λ x. bears (new c) k x j ≡ true) (sym o.0) (subst (λ z. bears (new c) k (new c) z ≡ true) same (bears-refl (new c) k))) (not-is (bears (new c) k h j) (and-right (s h j) _ e)))) (λ a. a) (in-cases k j ks o.1))

  -- how far the waits have come
  record Waiting (ks done : List ℕ) (s : Names) : Type 0 where
    only : Only (new c) ks s
    apart : Distinct ks
    fresh : (k : ℕ) → is_in ks k ≡ true → is_in done k ≡ false
    left : (k : ℕ) → is_in ks k ≡ true → is_in S k ≡ true
    within : (k : ℕ) → is_in done k ≡ true → is_in S k ≡ true
    sum : length done + length ks ≡ n c

  abbrev pub counted : List Hold → Names → List File → D
  counted hs r files = record { hs = hs; s = none; r = r; names = T; d = n c; files = files }

  -- All were waited for, and all that were are Ready.
  all-waited :
      (done : List ℕ) (hs : List Hold) (s : Names) (files : List File) (place : Place) (r0 : Names) (k0 : ℕ) (b0 : Bool)
      (ls0 : List ℕ) (q : Progress) → Waiting [] done s → Held c m ne (ready_so_far hs s done files)
      (starting c m ne place) r0 k0 b0 ls0 q → Held c m ne (counted hs T files) (starting c m ne place) r0 k0 b0 ls0 q
  all-waited done hs s files place r0 k0 b0 ls0 q wait b =
      record {
        looks = b.looks;
        enough = b.enough;
        secured = b.secured;
        budget = b.budget;
        lacking = b.lacking;
        marks = b.marks;
        still = b.still;
        beside = (
          ⊎_elim (λ looks. inl (looks-allows (w c m hs s (named (new c) (is_in done))) (w c m hs none T) (record {
            number = refl;
            others = λ k e. e;
            image = refl;
            holds = refl;
            starting = λ h k e. absurd (cc ((wait.only h k e).1));
            ready = within;
            held_starting = λ h k e. refl;
            held = λ h k e. refl;
          }) q.table.rows looks)) (λ dead. inr dead) b.beside.0,
          omega (arith, b.beside.1, wait.sum, weigh-sub m (named (new c) (is_in done)) T within q.table.rows),
        );
      }
    where
      within : (h : Generation) (k : ℕ) → named (new c) (is_in done) h k ≡ true → T h k ≡ true
      within h k e = both-true (same_generation h (new c)) (is_in S k) (and-left _ _ e) (wait.within k (and-right (same_generation h (new c)) _ e))

  ---- Beside the old part

  module _ (ready : Tree) where
    abbrev join : End → Tree
    join = joined ready back

    -- A part of the new master goes, from wherever the old one stands and under whatever turns.
    abbrev W : D → Tree → Type 0
    W x tree = Cont c m ne x (weave join tree)

    -- The new part has failed: the old one goes on to its end, and then the plan goes back.
    back-woven : (x : D) (place : Place) (q : Progress) → A x.files → At c m ne true x place q → G (graft (λ e. back) (tree_at c place)) q
    back-woven x place q aside a =
        olds-alone c m ne true x back
        (λ end q' a'. goes-back c m ne x a'.r a'.k a'.ls q' a'.knows aside (subst (λ b. Held c m ne x none a'.r a'.k b a'.ls q') (a'.up refl) a'.held))
        place q a

    -- A call of the new part, from what it does wherever the old one stands, and whatever is behind.
    abbrev Tries : D → Call → Tree → Type 0
    Tries x call rest =
        (turns : List Turn) (place : Place) (r : Names) (k : ℕ) (b : Bool) (ls : List ℕ) (back' : Tree) → Knows c m ne place r b ls
        → ((y : D) (q : Progress) → A y.files → Held c m ne y (starting c m ne place) r (k + 1) true ls q → G back' q)
        → (q : Progress) → Held c m ne x (starting c m ne place) r k b ls q → G (tries image call [] (weave join rest turns (tree_at c place)) back') q

    tried : (x : D) (call : Call) (rest : Tree) → Tries x call rest → W x (tries image call [] rest (Ends JoinBack))
    tried x call rest next turns place q a =
        olds-beside c m ne x (λ later still. tries image call [] (weave join rest later still) (graft (λ e. back) still))
        (λ later there q' a'.
        next later there a'.r a'.k a'.w a'.ls (graft (λ e. back) (tree_at c there)) a'.knows
        (λ y q'' aside h. back-woven y there q'' aside (record {
          r = a'.r;
          k = a'.k + 1;
          w = true;
          ls = a'.ls;
          knows = knows-on c m ne there a'.r a'.w a'.ls a'.knows;
          up = λ e. refl;
          held = h;
        }))
        q' a'.held)
        turns place q a

    -- what is known where a call was answered plainly
    now :
        (x : D) (place : Place) (r : Names) (k : ℕ) (b : Bool) (ls : List ℕ) (q : Progress) →
        Knows c m ne place r b ls → Held c m ne x (starting c m ne place) r k b ls q → At c m ne false x place q
    now x place r k b ls q knows held = record { r = r; k = k; w = b; ls = ls; knows = knows; up = λ e. absurd (cc e); held = held }

    adopts : (rest : Tree) (x : D) → A x.files → W x rest → W x (tries image Adopt [] rest (Ends JoinBack))
    adopts rest x aside next =
        tried x Adopt rest (λ turns place r k b ls back' knows bad q h.
        try-adopt c m ne (starting c m ne place) r k b ls back' bad (weave join rest turns (tree_at c place)) x q aside
        (λ q' h'. next turns place q' (now x place r k b ls q' knows h')) h)

    ---- Closing and opening

    closes-all :
        (l : List Address) (more : List Call) (hs : List Hold) (files : List File) → A files →
        AllByRecursion (λ b. has (wanted c) b ≡ false) l → Common c hs →
        (Common c (all_closed l hs) → W (none_yet (all_closed l hs) files) (part more)) →
        W (none_yet hs files) (part (map CloseAt l ++ more))
    closes-all [] more hs files aside off common next = next common
    closes-all (a ∷ l) more hs files aside off common next =
        tried (none_yet hs files) (CloseAt a) (part (map CloseAt l ++ more)) (λ turns place r k b ls back' knows bad q h.
        try-close c m ne (starting c m ne place) r k b ls back' bad
        (weave join (part (map CloseAt l ++ more)) turns (tree_at c place)) a (none_yet hs files) q aside
        (λ q' h'. closes-all l more (lacks_address a hs) files aside off.1 (common-lacks a hs off.0 common) next turns place q' (now (none_yet (lacks_address a hs) files) place r k b ls q' knows h'))
        h)

    opens-all :
        (goal : Option (List Listener)) (l : List Address) (more : List Call) (hs : List Hold) (files : List File) → A
        files → (all_opened l (map listener_of hs) ≡ goal) × RisesFrom 3 (fds hs) → Common c hs →
        ((hs' : List Hold) → Some (map listener_of hs') ≡ goal → RisesFrom 3 (fds hs') → ((a : Address) → has_address a hs' ≡ (has l a || has_address a hs)) → Common c hs' → W (none_yet hs' files) (part more))
        → W (none_yet hs files) (part (map OpenAt l ++ more))
    opens-all goal [] more hs files aside listing common next = next hs listing.0 listing.1 (λ a. refl) common
    opens-all goal (x ∷ l) more hs files aside listing common next =
        tried (none_yet hs files) (OpenAt x) (part (map OpenAt l ++ more)) (λ turns place r k b ls back' knows bad q h0.
        try-open c m ne (starting c m ne place) r k b ls back' bad (weave join (part (map OpenAt l ++ more)) turns (tree_at c place)) x hs files q aside
        (λ h q' is fd room h'. opens-all goal l more (put_hold h hs) files aside
        (opens-on c.t.limits.descriptors h hs l goal c.ds.limit listing.1 fd room (subst (λ z. all_opened (z ∷ l) (map listener_of hs) ≡ goal) (sym is) listing.0))
        (common-put h hs common)
        (λ hs' lists rises keys common'. next hs' lists rises (λ a. keys a ∙ ap (λ z. has l a || z) (any-put (is_at a) h hs ∙ ap (λ z. bytes_eq z a || has_address a hs) is) ∙ move (has l a) (bytes_eq x a) (has_address a hs)) common')
        turns place q' (now (none_yet (put_hold h hs) files) place r k b ls q' knows h')) h0)
      where
        move : (p e o : Bool) → (p || (e || o)) ≡ ((e || p) || o)
        move true true o = refl
        move true false o = refl
        move false true o = refl
        move false false o = refl

    ---- Forking and waiting

    forks-all :
        (ks : List ℕ) (more : List Call) (hs : List Hold) (s : Names) (files : List File) → A files →
        ((k : ℕ) → is_in ks k ≡ true → is_in S k ≡ true) → Only (new c) S s →
        ((s' : Names) → Only (new c) S s' → W (forking hs s' files) (part more)) →
        W (forking hs s files) (part (map (fork_of (new_crew c)) ks ++ more))
    forks-all [] more hs s files aside within only next = next s only
    forks-all (k ∷ ks) more hs s files aside within only next =
        tried (forking hs s files) (fork_of (new_crew c) k) (part (map (fork_of (new_crew c)) ks ++ more)) (λ turns place r count b ls back' knows bad q h.
        try-fork c m ne (starting c m ne place) r count b ls back' bad
        (weave join (part (map (fork_of (new_crew c)) ks ++ more)) turns (tree_at c place)) k (forking hs s files) q
        aside
        (λ q' h'. forks-all ks more hs (plus s (new c) k) files aside (λ j e. within j (in-there k j ks e))
        (λ h j e. ⊎_elim (λ a. only h j a) (λ a. let is = bears-is (new c) k h j a in (is.0, subst (λ z. is_in S z ≡ true) (sym is.1) (within k (in-here k k ks refl)))) (or-elim (s h j) (bears (new c) k h j) e))
        next turns place q' (now (forking hs (plus s (new c) k) files) place r count b ls q' knows h')) h)

    awaits-all :
        (ks done : List ℕ) (hs : List Hold) (s : Names) (files : List File) → A files → Waiting ks done s →
        W (counted hs T files) (Ends JoinReady) → W (ready_so_far hs s done files) (part (map (AwaitReady (new c)) ks))
    awaits-all [] done hs s files aside wait next =
        λ turns place q a. next turns place q
        (now (counted hs T files) place a.r a.k a.w a.ls q a.knows (all-waited done hs s files place a.r a.k a.w a.ls q wait a.held))
    awaits-all (k ∷ ks) done hs s files aside wait next =
        tried (ready_so_far hs s done files) (AwaitReady (new c) k) (part (map (AwaitReady (new c)) ks)) (λ turns place r count b ls back' knows bad q h.
        try-await c m ne (starting c m ne place) r count b ls back' bad
        (weave join (part (map (AwaitReady (new c)) ks)) turns (tree_at c place)) k hs s done files q
        (wait.fresh k (in-here k k ks refl)) aside
        (λ q' h'. awaits-all ks (k ∷ done) hs (minus s (new c) k) files aside
        (record {
          only = still-only k ks s wait.only;
          apart = wait.apart.1;
          fresh =
              λ j e. off-from (k ∷ done) j
              (λ on. ⊎_elim (λ same. true-false (is_in ks k) (subst (λ z. is_in ks z ≡ true) (sym same) e) wait.apart.0) (λ a. true-false (is_in done j) a (wait.fresh j (in-there k j ks e))) (in-cases k j done on));
          left = λ j e. wait.left j (in-there k j ks e);
          within = λ j e. ⊎_elim (λ same. subst (λ z. is_in S z ≡ true) same (wait.left k (in-here k k ks refl))) (λ a. wait.within j a) (in-cases k j done e);
          sum = omega (arith, wait.sum);
        }) next turns place q' (now (ready_so_far hs (minus s (new c) k) (k ∷ done) files) place r count b ls q' knows h')) h)

  ---- The pid file

  -- The new master's pid file is at the path, and the old one's is aside.
  abbrev pub Written : Option FilePath → List File → Type 0
  Written None files = FilesAre c.rec.note None c.rec.pid files
  Written (Some path) files = (owner_at path files ≡ Some m) × (owner_at (oldbin path) files ≡ Some c.rec.pid)

  ---- Where both parts have ended and the new one is ready

  module _ (r0 : Names) (only0 : Only (g c) (R c) r0) (ls0 : List ℕ) where
    abbrev H : D → List ℕ → Progress → Type 0
    H x ls q = Held c m ne x none r0 0 false ls q

    back-goes : (y : D) (q : Progress) → A y.files → Held c m ne y none r0 (0 + 1) true ls0 q → G back q
    back-goes y q aside h = goes-back c m ne y r0 1 ls0 q only0 aside h

    writes-all :
        (path : Option FilePath) (rest : Tree) (x : D) (q : Progress) → A x.files → Aside c path x.files →
        ((files : List File) (q' : Progress) → Aside c path files → Written path files → H (with_written c m ne x files) ls0 q' → G rest q')
        → H x ls0 q → G (tries_all image (pid_calls path WritePid) rest back) q
    writes-all None rest x q a aside next b = next x.files q aside aside b
    writes-all (Some path) rest x q a aside next b =
        try-write c m ne none r0 0 false ls0 back back-goes rest path x q a
        (λ q' b'.
        let still = other-written path (oldbin path) m x.files (other-oldbin path) ∙ aside in
        next (with_file path m x.files) q' still (written-file path m x.files, still) b') b

    ---- The census

    only-seen : (cs : List ℕ) → Only (new c) S (seen T (new c) cs)
    only-seen cs h k e = let on = and-left (T h k) _ e in (same-is h (new c) (and-left _ _ on), and-right (same_generation h (new c)) _ on)

    counts :
        (rest : Tree) (hs : List Hold) (files : List File) (q : Progress) → A files →
        ((r : Names) (ls : List ℕ) (q' : Progress) → Only (new c) S r → H (counted hs r files) ls q' → G rest q') →
        H (counted hs T files) ls0 q → G (tries image (Census (new c)) S rest back) q
    counts rest hs files q aside next b =
        let x = counted hs T files in
        let call = Census (new c) in
        step c m ne none r0 0 false ls0 back back-goes call S rest x q refl b
        (λ q' b' looks fate.
        let rows = q'.table.rows in
        let cs = census_of m (new c) rows in
        let t' = each_row (drop_where (is_exited_of m)) q'.table in
        let framed = framed-drop (view (v c m ne) none r0) m (is_exited_of m) rows (apart c m ne none r0) (mine-exited m, λ k zs. refl) b'.looks in
        let count =
        count-set (w c m hs none T) (new c) rows cs looks S (below-distinct (n c))
        (every-in (λ k. list_any (is_worker is_ready m (new c) k) rows ≡ is_in cs k) S (λ k e. sym (census-in m (new c) rows k (omega (arith, below-of (n c) k e, low c)))))
        in
        let same = census-weigh m m T rows in
        let bound : (k : ℕ) → T (new c) k ≡ true → k < 1024 = λ k e. omega (arith, below-of (n c) k (and-right (same_generation (new c) (new c)) _ e), low c) in
        let second : Second c (w c m hs none (seen T (new c) cs)) T (n c) t'.rows q'.losses =
        (inl (census-looks (w c m hs none T) (new c) rows bound looks), omega (arith, b'.beside.1, same)) in
        let ls = lacked_by c.rec.generation.image (lacked_after image S (answer.Counted cs) q'.lacked) in
        let after : List ℕ → Progress =
        λ l. record
        { table = t'; calls = q'.calls + 1; ready = cs; lacked = lacked_after image S (answer.Counted cs) q'.lacked; faults = q'.faults; losses = q'.losses; returns = q'.returns; cause = first_cause q'.cause (went_wrong call (full_or_short l)) (q'.calls + 1); note = q'.note }
        in
        subst (λ st. Edge c m ne none r0 0 false ls0 back back-goes call rest S q' st) (sym (unfailing (co c).handed image (me c m ne x) call fate q'.table tt))
        (elim (lacks S cs) as (λ l. lacks S cs ≡ l → Behind (inv c) (post c) Anyhow Unasked (co c) (edges c m ne none r0 0 false ls0 back back-goes call rest) (full_or_short l) (after l)) [
          | [] ↦ λ e. next (seen T (new c) cs) ls (after []) (only-seen cs)
              (held-plain c m ne none r0 0 false ls0 back back-goes x (counted hs (seen T (new c) cs) files) t' cs (lacked_after image S (answer.Counted cs) q'.lacked) q' b' b'.still.files_stay refl refl framed second)
          | k ∷ ks ↦ λ e. goes-back c m ne (counted hs (seen T (new c) cs) files) r0 0 ls (after (k ∷ ks)) only0 aside (record {
            looks = framed.looks;
            enough = b'.enough;
            secured = λ a e'. omega (arith, b'.secured a e', framed.same (named (g c) (is_in (R c))));
            budget = omega (arith, b'.budget, framed.same (named (g c) (is_in (R c))));
            lacking = refl;
            marks =
                marks-wrong false q'.faults q'.faults q'.losses (q'.calls + 1) q'.cause
                (omega (arith, b'.beside.1, count, below-length (n c), ap length e)) b'.marks;
            still = record { files_stay = b'.still.files_stay; note_stays = b'.still.note_stays; limits_stay = b'.still.limits_stay };
            beside = second;
          })
        ] refl))
        (λ q' b'. just-failed c m ne none r0 0 false ls0 back back-goes x q' aside b')

  ---- All of them

  abbrev dropped_here : List Address
  dropped_here = only_in (A0 c) (wanted c)

  abbrev added_here : List Address
  added_here = only_in (wanted c) (A0 c)

  -- what is closed is not wanted
  dropped-off : (l : List Address) → AllByRecursion (λ b. has (wanted c) b ≡ false) (only_in l (wanted c))
  dropped-off [] = tt
  dropped-off (a ∷ l) = go (has (wanted c) a) refl (dropped-off l)
    where
      go :
          (b : Bool) → has (wanted c) a ≡ b → AllByRecursion (λ b. has (wanted c) b ≡ false) (only_in l (wanted c)) →
          AllByRecursion (λ b. has (wanted c) b ≡ false)
          (cond (not b) (a ∷ only_in l (wanted c)) (only_in l (wanted c)))
      go true e ih = ih
      go false e ih = (e, ih)

  first-listing :
      (all_opened added_here (map listener_of (all_closed dropped_here (H0 c))) ≡ upgraded c.st.listeners c.rec.listeners)
      × RisesFrom 3 (fds (all_closed dropped_here (H0 c)))
  first-listing = (
    ap (λ ls. all_opened added_here ls)
        (closed-first (A0 c) (wanted c) (H0 c) (first-keys c.t c.rec c.start) ∙ ap (still_wanted (wanted c)) c.start.agrees.listeners)
        ∙ ap (λ l. all_opened l (still_wanted (wanted c) c.rec.listeners)) (upgrade-added (wanted c) c.rec.listeners),
    rises-closed dropped_here (H0 c)
        (subst (λ l. RisesFrom 3 l) (sym (fds-listed (H0 c) ∙ ap (map (λ (l : Listener). l.descriptor)) c.start.agrees.listeners)) c.ds.descriptors),
  )

  -- what is held when all is closed and opened is what is wanted
  keys-of : (a : Address) → (has added_here a || has_address a (all_closed dropped_here (H0 c))) ≡ has (wanted c) a
  keys-of a =
      ap (λ z. z || has_address a (all_closed dropped_here (H0 c))) (stands-filter (λ b. not (has (A0 c) b)) (wanted c) a)
      ∙ ap (λ z. (has (wanted c) a && not (has (A0 c) a)) || z)
      (has-closed a dropped_here (H0 c) ∙ ap (λ z. z && not (has dropped_here a)) (first-keys c.t c.rec c.start a) ∙ ap (λ z. has (A0 c) a && not z) (stands-filter (λ b. not (has (wanted c) b)) (A0 c) a))
      ∙ table (has (wanted c) a) (has (A0 c) a)
    where
      table : (w o : Bool) → ((w && not o) || (o && not (o && not w))) ≡ w
      table true true = refl
      table true false = refl
      table false true = refl
      table false false = refl

  waiting-first : (s : Names) → Only (new c) S s → Waiting S [] s
  waiting-first s only = record {
    only = only;
    apart = below-distinct (n c);
    fresh = λ k e. refl;
    left = λ k e. e;
    within = λ k e. absurd (cc e);
    sum = omega (arith, below-length (n c));
  }

  -- None was waited for yet.
  none-waited :
      (hs : List Hold) (s : Names) (files : List File) (place : Place) (r0 : Names) (k0 : ℕ) (b0 : Bool) (ls0 : List ℕ)
      (q : Progress) → Held c m ne (forking hs s files) (starting c m ne place) r0 k0 b0 ls0 q → Held c m ne
      (ready_so_far hs s [] files) (starting c m ne place) r0 k0 b0 ls0 q
  none-waited hs s files place r0 k0 b0 ls0 q b =
      record {
        looks = b.looks;
        enough = b.enough;
        secured = b.secured;
        budget = b.budget;
        lacking = b.lacking;
        marks = b.marks;
        still = b.still;
        beside = (
          ⊎_elim (λ looks. inl (looks-allows (w c m hs s none) (w c m hs s (named (new c) (is_in []))) (record {
            number = refl;
            others = λ k e. e;
            image = refl;
            holds = refl;
            starting = λ h k e. e;
            ready = λ h k e. absurd (cc e);
            held_starting = λ h k e. refl;
            held = λ h k e. refl;
          }) q.table.rows looks)) (λ dead. inr dead) b.beside.0,
          omega arith,
        );
      }

  calls-are : (a b f w : List Call) → Adopt ∷ a ++ b ++ f ++ w ≡ Adopt ∷ (a ++ (b ++ (f ++ w)))
  calls-are a b f w = append_assoc (Adopt ∷ a ++ b) f w ∙ append_assoc (Adopt ∷ a) b (f ++ w)

  -- The old master begins to mend, and the new one adopts, closes, opens, forks and waits; both end, and the new one writes its pid and
  -- is counted: then the rest; else back.
  pub new-goes :
      (rest : Tree) (files : List File) (q : Progress) (turns : List Turn) (r0 : Names) → A files → Only (g c) (R c) r0
      →
      ((hs : List Hold) (r0 r : Names) (ls : List ℕ) (files' : List File) (q' : Progress) → Lists c hs → ((a : Address) → has_address a hs ≡ has (wanted c) a) → Laid c hs → Common c hs → A files' → Written c.rec.pid_path files' → Only (g c) (R c) r0 → Only (new c) S r → Held c m ne (counted hs r files') none r0 0 false ls q' → G rest q')
      → Held c m ne (none_yet (H0 c) files) none r0 0 false [] q → G
      (weave (joined (tries_all image (pid_calls c.rec.pid_path WritePid) (tries image (Census (new c)) S rest back) back) back) (new_part (new_crew c) (A0 c) (wanted c) (n c)) turns (tree_at c (Counts c.rec.retries)))
      q
  new-goes rest files q turns r0 aside only0 next b =
      let last = tries image (Census (new c)) S rest back in
      let ready = tries_all image (pid_calls c.rec.pid_path WritePid) last back in
      let waits = map (AwaitReady (new c)) S in
      let forks = map (fork_of (new_crew c)) S in
      let opens = map OpenAt added_here in
      let closes = map CloseAt dropped_here in
      let starting = forks ++ waits in
      let opening = opens ++ starting in
      subst (λ calls. G (weave (joined ready back) (part calls) turns (tree_at c (Counts c.rec.retries))) q) (sym (calls-are closes opens forks waits))
      (adopts ready (part (closes ++ opening)) (none_yet (H0 c) files) aside
      (closes-all ready dropped_here opening (H0 c) files aside (dropped-off (A0 c)) (common0 c)
      (λ common. opens-all ready (upgraded c.st.listeners c.rec.listeners) added_here starting (all_closed dropped_here (H0 c)) files aside first-listing common
      (λ hs lists rises keys common3. forks-all ready S waits hs none files aside (λ k e. e) (λ h k e. absurd (cc e))
      (λ s only turns4 place4 q4 a4. awaits-all ready S [] hs s files aside (waiting-first s only)
      (λ turns5 place5 q5 a5. olds-alone c m ne false (counted hs T files) ready
      (λ end q6 a6.
      let b6 =
      band-anew (v c m ne) (sc c m ne (counted hs T files))
      (grounded (inv c) (post c) (co c) (acts c) (good c m ne (counted hs T files))) none a6.r
      (named (g c) (is_in (R c))) (length (R c)) a6.k a6.w a6.ls q6 a6.held in
      writes-all a6.r a6.knows a6.ls c.rec.pid_path last (counted hs T files) q6 aside aside
      (λ files' q7 aside' written b7. counts a6.r a6.knows a6.ls rest hs files' q7 aside'
      (λ r ls q8 only8 b8. next hs a6.r r ls files' q8 (sym lists) (λ a. keys a ∙ keys-of a) (laid-first c hs (sym lists) rises) common3 aside' written a6.knows only8 b8)
      b7)
      (record { looks = b6.looks; enough = b6.enough; secured = b6.secured; budget = b6.budget; lacking = b6.lacking; marks = record { clean = b6.marks.clean; blamed = b6.marks.blamed; caused = λ e. absurd (cc e); returned = b6.marks.returned }; still = b6.still; beside = b6.beside })) place5 q5 a5)
      turns4 place4 q4
      (now ready (ready_so_far hs s [] files) place4 a4.r a4.k a4.w a4.ls q4 a4.knows (none-waited hs s files place4 a4.r a4.k a4.w a4.ls q4 a4.held))))))
      turns (Counts c.rec.retries) q (now ready (none_yet (H0 c) files) (Counts c.rec.retries) r0 0 false [] q only0 b))
