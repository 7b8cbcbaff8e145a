-- Upgrades go well under no event, under all turns.
use Rattle.std.proofs.Common.{◌≡◌, ◌≢◌, ℕ, ◌+◌, ◌≤◌, Bool, true, false, List, [], ◌∷◌, ◌++◌, length, Option, Some, None}
use Rattle.std.proofs.Common.{refl, sym}
use Rattle.std.proofs.Common.{ap, ◌∙◌, subst, arith, map, reverse, count_by, nat_lt, option_map, unwrap_or}
use Rattle.std.specs.Prelude.{◌==◌, if◌then◌else◌, bytes_eq}
use Rattle.std.specs.List.{list_any, filter_map, AllByRecursion}
use Rattle.std.proofs.lemmas.Bool.Decides.{nat_tests}
use Rattle.vocabulary.specs.Settings.{Settings}
use Rattle.listener_set.specs.declared.generation.Generation.{Generation}
use Rattle.listener_set.specs.Numbers.{numbers_below}
use Rattle.vocabulary.specs.declared.table.Limits.{Limits}
use Rattle.vocabulary.specs.declared.table.Listener.{Listener}
use Rattle.vocabulary.specs.declared.calls.Answer.TheVariants as answer
use Rattle.vocabulary.specs.declared.plans.Side.TheVariants as side
use Rattle.vocabulary.specs.declared.plans.Turn.{Turn}
use Rattle.vocabulary.specs.declared.plans.PidNote.{PidNote}
use Rattle.vocabulary.specs.declared.plans.PidNote.TheVariants.{InPlace, AtOldbin, OldbinLeft, Left, NoFile}
use Rattle.definitions.specs.Table.{Hold, Process, Master, Table, Caller, Address, FilePath, File, is_own, is_master}
use Rattle.definitions.specs.Table.{is_worker, is_active}
use Rattle.definitions.specs.Table.{is_held, owner_at}
use Rattle.definitions.specs.Calls.{OpenAt, CloseAt, AwaitReady, Quit, Census, WritePid, MovePid, Alive, Leave}
use Rattle.definitions.specs.Calls.{SpawnMaster, Handed, Stepped, gives, has_process_room, with_new_row, suits}
use Rattle.definitions.specs.Calls.{are_listeners, is_image}
use Rattle.definitions.specs.Calls.{own_step, step_with, step_by, with_file, without_file}
use Rattle.definitions.specs.Master.{Record, Crew, FilesAre, crew_of, fork_of, upgrade_generation, handover_of, oldbin}
use Rattle.definitions.specs.Master.{addresses_of}
use Rattle.definitions.specs.Run.{Tree, Ends, Does}
use Rattle.definitions.specs.Plans.{upgrade_tree, move_aside, taken_over, relieve, asks, retire, hand_over}
use Rattle.definitions.specs.Plans.{remove_oldbin, pid_calls}
use Rattle.definitions.specs.Plans.{back_alone, new_calls, only_in, settle, tells, either, back_from, plan_tree}
use Rattle.definitions.specs.Claims.{IsStart}
use Rattle.call_laws.specs.Pieces.{listener_of, without_master}
use Rattle.call_laws.proofs.Choices.{pick}
use Rattle.table_laws.proofs.Rows.{every-more, count-weigh, both-true}
use Rattle.table_laws.proofs.Views.{eqb-refl}
use Rattle.table_laws.proofs.Addresses.{address-refl}
use Rattle.table_laws.proofs.Sets.{below-distinct, below-length}
use Rattle.quiet_runs.specs.Quiet.{HasNoneTwice}
use Rattle.quiet_runs.proofs.Ways.{Goes, IsPlain}
use Rattle.quiet_runs.proofs.Rows.{any-app, both-off, own-app, live-app, live-new, live-leave, held-off, holds_it}
use Rattle.quiet_runs.proofs.Stands.{Spot, State, Stands, none-in, by-own, step-census, step-alive, step-ask}
use Rattle.quiet_runs.proofs.Stands.{step-write, step-remove, step-adopt}
use Rattle.quiet_runs.proofs.Chains.{piled, in-piled, Onward, Chain, both, chain-forks, chain-awaits, chain-quits}
use Rattle.quiet_runs.proofs.Chains.{chain-gone, chain-closes}
use Rattle.quiet_runs.proofs.Chains.{chain-opens, go-tells, fine-map, go-awaits-gone, go-settle, go-tries-all, go-weave}
use Rattle.quiet_runs.proofs.Starts.{length-map, no-image, live-below, none-of-next, own-leave}
use Rattle.quiet_runs.proofs.Alone.{bare, from-bare}

-- what a master tells a new one suits its holds
listeners-suit : (hs : List Hold) → are_listeners (map listener_of hs) hs ≡ true
listeners-suit [] = refl
listeners-suit (h ∷ hs) =
    both-true (h.fd == h.fd) _ (eqb-refl h.fd h.fd refl) (both-true (bytes_eq h.address h.address) _
    (address-refl h.address) (listeners-suit hs))

module _ (handed : Handed) (r : Record) (heir : Generation) (number : ℕ) (apart : number ≢ r.pid) where
  -- the new master, with the old one beside it, and the other way round; and the new one alone
  abbrev new_spot : Spot
  new_spot = record { image = heir.image; number = number; other = r.generation.image; other_number = r.pid }

  abbrev old_spot : Spot
  old_spot = record { image = r.generation.image; number = r.pid; other = heir.image; other_number = number }

  abbrev heir_spot : Spot
  heir_spot = record { image = heir.image; number = number; other = heir.image; other_number = number }

  swap : (rows : List Process) (limits : Limits) → Stands handed new_spot heir bare rows limits →
      Stands handed old_spot r.generation bare rows limits
  swap rows limits s = record {
    holds = s.beside.0;
    lives = s.beside.1;
    told = λ e. absurd (cc);
    beside = (s.holds, s.lives);
    busy = λ k e. absurd (none-in k e);
    idle = λ k e. absurd (none-in k e);
    room = s.room;
    unheld = tt;
    apart = tt;
    limit = λ e. absurd (omega (arith, e));
  }

  left : (rows : List Process) (limits : Limits) → Stands handed old_spot r.generation bare rows limits →
      Stands handed heir_spot heir bare (filter_map (without_master r.pid) rows) limits
  left rows limits s =
      let lives = live-leave r.pid heir.image (record { number = number; holds = s.beside.0 }) rows apart s.beside.1 in
      record {
        holds = s.beside.0;
        lives = lives;
        told = λ e. absurd (cc);
        beside = (s.beside.0, lives);
        busy = λ k e. absurd (none-in k e);
        idle = λ k e. absurd (none-in k e);
        room = let less = own-leave r.pid rows in omega (arith, less, s.room);
        unheld = tt;
        apart = tt;
        limit = λ e. absurd (omega (arith, e));
      }

  module _ (new : Crew) (same : new.generation ≡ heir) (n : ℕ) where
    go-remove : (path : Option FilePath) (rest : Tree) → Onward handed heir_spot heir bare rest →
        Onward handed heir_spot heir bare (remove_oldbin heir.image path rest)
    go-remove None rest on t s = on t s
    go-remove (Some path) rest on t s = let now = step-remove handed heir_spot heir (oldbin path) bare t s in
        (now.0, on _ now.1)

    go-hand-over : Onward handed old_spot r.generation bare (hand_over r.generation.image new r.retries r.pid_path n)
    go-hand-over t s =
        by-own handed old_spot r.generation t Leave (record { number = r.pid; holds = s.holds })
        (λ st. (IsPlain Leave st.answer) × Goes handed rest st.table) s.lives (
          refl,
          subst (λ (h : Generation). Goes handed (remove_oldbin h.image r.pid_path (settle h.image new
              (numbers_below n) side.Target r.retries)) after) (sym same)
              (go-remove r.pid_path _ (go-settle handed heir_spot heir new
              (numbers_below n) side.Target r.retries bare) after (left t.rows t.limits s)),
        )
      where
        rest : Tree
        rest = remove_oldbin new.generation.image r.pid_path (settle new.generation.image new
            (numbers_below n) side.Target r.retries)

        after : Table
        after = (own_step handed r.generation.image (record { number = r.pid; holds = s.holds }) Leave t).table

    go-retire : Onward handed old_spot r.generation bare (retire r.generation.image
        (crew_of r) new r.ready r.retries r.pid_path n)
    go-retire =
        subst (λ (h : Generation). Onward handed old_spot r.generation bare (either r.generation.image
        (Alive h.image) [] (hand_over r.generation.image new r.retries r.pid_path n)
        (Rattle.definitions.specs.Plans.back_late r.generation.image h.image
        (crew_of r) r.ready r.retries r.pid_path))) (sym same)
        (λ t s. let now = step-alive handed old_spot r.generation bare t s in (now.0, go-hand-over _ now.1))

    go-asks : (b : Bool) (q : ℕ) (on_go on_back : Tree) → Onward handed old_spot r.generation bare on_go →
        Onward handed old_spot r.generation bare (asks b r.generation.image q on_go on_back)
    go-asks true q on_go on_back on t s = let now = step-ask handed old_spot r.generation q bare t s in
        (now.0, on _ now.1)
    go-asks false q on_go on_back on t s = on t s

    go-relieve : (attended : Bool) → Onward handed old_spot r.generation bare (relieve attended r.generation.image
        (crew_of r) new r.ready r.retries r.pid_path n)
    go-relieve attended =
        let qs = reverse r.ready in
        let g = r.generation in
        let x : State = record bare { busy = []; idle = piled qs [] } in
        go-asks attended 1 _ _
        (go-tells handed old_spot g (map (Quit g) qs) _ bare x (fine-map handed old_spot g (Quit g) (λ k. refl) qs)
        (chain-quits handed old_spot g qs bare refl)
        (go-awaits-gone handed old_spot g g qs _ x x (chain-gone handed old_spot g qs x refl
        (λ k e. in-piled qs [] k e))
        (from-bare handed old_spot g [] (piled qs []) [] [] false _ (go-asks attended 2 _ _ go-retire))))

    go-taken-over :
        (attended : Bool) (back : Tree) → Onward handed new_spot heir bare (taken_over attended r.generation.image
        (crew_of r) new r.ready r.retries r.pid_path n back)
    go-taken-over attended back =
        subst (λ (h : Generation). Onward handed new_spot heir bare (Rattle.definitions.specs.Plans.tries_all h.image
        (pid_calls r.pid_path WritePid)
        (Rattle.definitions.specs.Plans.tries h.image (Census new.generation) (numbers_below n)
        (relieve attended r.generation.image (crew_of r) new r.ready r.retries r.pid_path n) back) back)) (sym same)
        (go-tries-all handed new_spot heir (pid_calls r.pid_path WritePid) _ back bare bare (writes r.pid_path)
        (go-count-on attended back))
      where
        go-count-on : (attended : Bool) (back : Tree) → Onward handed new_spot heir bare
            (Rattle.definitions.specs.Plans.tries heir.image (Census new.generation) (numbers_below n)
            (relieve attended r.generation.image (crew_of r) new r.ready r.retries r.pid_path n) back)
        go-count-on attended back t s =
            let now = step-census handed new_spot heir new.generation bare t s in (
              now.0,
              go-relieve attended (step_with handed heir.image (Census new.generation) None t).table
                  (swap _ _ now.1),
            )

        writes : (path : Option FilePath) → Chain handed new_spot heir bare (pid_calls path WritePid) bare
        writes None = refl
        writes (Some path) = (bare, step-write handed new_spot heir path bare, refl)

    -- all that the new master does by itself
    chain-new :
        (held wanted : List Address) →
        Chain handed new_spot heir (record {
          busy = [];
          idle = numbers_below n;
          room = numbers_below n;
          unheld = only_in wanted held;
          fresh = true;
        })
        (new_calls new held wanted n) (record {
          busy = piled (numbers_below n) [];
          idle = [];
          room = [];
          unheld = [];
          fresh = false;
        })
    chain-new held wanted =
        let S = numbers_below n in
        let x0 : State = record { busy = []; idle = S; room = S; unheld = only_in wanted held; fresh = false } in
        let x1 : State = record { busy = []; idle = S; room = S; unheld = []; fresh = false } in
        let x2 : State = record { busy = piled S []; idle = []; room = []; unheld = []; fresh = false } in
        let closes = map CloseAt (only_in held wanted) in
        let opens = map OpenAt (only_in wanted held) in
        let forks = map (fork_of new) S in
        let sp = new_spot in (
          x0,
          step-adopt handed sp heir [] S S (only_in wanted held),
          both handed sp heir (closes ++ opens ++ forks) (map (AwaitReady new.generation) S) x0 x2 x2
              (both handed sp heir (closes ++ opens) forks x0 x1 x2
              (both handed sp heir closes opens x0 x0 x1 (chain-closes handed sp heir (only_in held wanted) [] S S
              (only_in wanted held))
              (chain-opens handed sp heir (only_in wanted held) [] S S))
              (chain-forks handed sp heir new S [] [] same (below-distinct n)))
              (subst (λ h. Chain handed sp heir x2 (map (AwaitReady h) S) x2) (sym same)
              (chain-awaits handed sp heir S x2 (λ k e. in-piled S [] k e))),
        )

---- From the start

module _ (t : Table) (r : Record) (start : IsStart t r) (s : Settings) (attended : Bool) (handed : Handed)
    (is : handed ≡ Some (handover_of r s))
    (fits : count_by is_own t.rows + (s.workers + 1) ≤ t.limits.processes)
    (held : AllByRecursion (λ a. is_held a t.rows ≡ false) (only_in s.listeners (addresses_of r)))
    (none_twice : HasNoneTwice (only_in s.listeners (addresses_of r)))
    (limit : length r.listeners + length (only_in s.listeners (addresses_of r)) ≤ t.limits.descriptors)
    (turns : List Turn) where
  abbrev heir : Generation
  heir = upgrade_generation r.generation

  abbrev next : ℕ
  next = t.next_process

  abbrev c : Caller
  c = record { number = r.pid; holds = start.agrees.holds }

  apart : next ≢ r.pid
  apart e = let lt = live-below 0 r.generation.image c t.rows t.next_process start.formed.ascending start.agrees.lives in omega (arith, lt, e)

  absent : list_any (is_image heir.image) t.rows ≡ false
  absent =
      no-image r.generation.image heir.image c t.rows (λ e. omega (arith, e)) (sym (count-weigh is_master t.rows) ∙
      start.agrees.alone) start.agrees.lives

  abbrev row : Process
  row = Master next r.pid heir.image true start.agrees.holds

  abbrev x : State
  x = record {
    busy = [];
    idle = numbers_below s.workers;
    room = numbers_below s.workers;
    unheld = only_in s.listeners
        (addresses_of r);
    fresh = true;
  }

  suit : suits handed heir.image start.agrees.holds ≡ true
  suit =
      subst (λ (h : Handed). suits h heir.image start.agrees.holds ≡ true) (sym is)
      (both-true (heir.image == heir.image) (are_listeners r.listeners start.agrees.holds)
      (eqb-refl heir.image heir.image refl)
      (subst (λ (l : List Listener). are_listeners l start.agrees.holds ≡ true) start.agrees.listeners
      (listeners-suit start.agrees.holds)))

  -- the new master is there
  spawned : Stands handed (new_spot handed r heir next apart) heir x (t.rows ++ row ∷ []) t.limits
  spawned = record {
    holds = start.agrees.holds;
    lives = live-new heir.image next r.pid start.agrees.holds t.rows absent;
    told = λ e. suit;
    beside = (start.agrees.holds, live-app r.generation.image c t.rows (row ∷ []) start.agrees.lives);
    busy = λ k e. absurd (none-in k e);
    idle =
        λ k e. any-app (is_worker is_active next heir k) t.rows row ∙
        both-off _ _ (none-of-next t.rows t.rows next heir k start.formed.ascending start.formed.parents) refl;
    room = let one = own-app t.rows row refl in let many = below-length s.workers in omega (arith, one, many, fits);
    unheld =
        every-more (λ a. is_held a t.rows ≡ false) (λ a. is_held a (t.rows ++ row ∷ []) ≡ false)
        (λ a off. any-app (holds_it a) t.rows row ∙ both-off _ _ off
        (held-off a r.generation.image c t.rows start.agrees.lives off))
        (only_in s.listeners (addresses_of r)) held;
    apart = none_twice;
    limit =
        λ e. let a = length-map listener_of start.agrees.holds in
        let b : length (map listener_of start.agrees.holds) ≡ length r.listeners = ap (λ
        (l : List Listener). length l) start.agrees.listeners in
        omega (arith, a, b, limit);
  }

  module _ (new : Crew) (same : new.generation ≡ heir) where
    abbrev back : Tree
    back = back_from r.generation.image new.generation.image (crew_of r) r.ready r.retries r.pid_path

    abbrev S : List ℕ
    S = numbers_below s.workers

    abbrev body : Tree
    body =
        Rattle.definitions.specs.Plans.weave
        (Rattle.definitions.specs.Plans.joined (taken_over attended r.generation.image
        (crew_of r) new r.ready r.retries r.pid_path s.workers back) back)
        (Rattle.definitions.specs.Plans.new_part new (addresses_of r) s.listeners s.workers) turns
        (Rattle.definitions.specs.Plans.old_part r.generation.image (crew_of r) r.ready r.retries)

    go-body : Onward handed (new_spot handed r heir next apart) heir x body
    go-body =
        subst (λ (h : Generation). Onward handed (new_spot handed r heir next apart) heir x
        (Rattle.definitions.specs.Plans.weave
        (Rattle.definitions.specs.Plans.joined (taken_over attended r.generation.image
        (crew_of r) new r.ready r.retries r.pid_path s.workers back) back)
        (Rattle.definitions.specs.Plans.tries_all h.image (new_calls new (addresses_of r) s.listeners s.workers)
        (Ends Rattle.definitions.specs.Run.JoinReady) (Ends Rattle.definitions.specs.Run.JoinBack))
        turns (Rattle.definitions.specs.Plans.old_part r.generation.image (crew_of r) r.ready r.retries))) (sym same)
        (go-weave handed (new_spot handed r heir next apart) heir _ back (record {
          busy = piled S [];
          idle = [];
          room = [];
          unheld = [];
          fresh = false;
        })
        (from-bare handed (new_spot handed r heir next apart) heir (piled S []) [] [] [] false _
        (go-taken-over handed r heir next apart new same s.workers attended back))
        (crew_of r) r.ready r.retries (new_calls new (addresses_of r) s.listeners s.workers) turns x
        (chain-new handed r heir next apart new same s.workers (addresses_of r) s.listeners))

    -- the table after the files moved, of which the rows are the same
    go-spawn :
        (files : List File) (bad : Tree) → Goes handed (either r.generation.image
        (SpawnMaster new.generation.image) [] body bad) (record t { files = files })
    go-spawn files bad =
        subst (λ (h : Generation). Goes handed (either r.generation.image (SpawnMaster h.image) [] body bad) t1)
        (sym same)
        (subst (λ o. P (step_by handed r.generation.image o (SpawnMaster heir.image) None t1)) (sym start.agrees.lives)
        (pick P (list_any (is_image heir.image) t.rows) (gives answer.Again t1)
        (if has_process_room t1 then done else gives answer.Again t1)
        (λ on. absurd (let off = absent in cc))
        (λ off. pick P (has_process_room t1) done (gives answer.Again t1) (λ yes. (refl, go-body done.table spawned))
        (λ no. absurd (let some : nat_lt (count_by is_own t.rows) t.limits.processes ≡ true = few
        (count_by is_own t.rows) s.workers t.limits.processes fits in cc)))))
      where
        t1 : Table
        t1 = record t { files = files }

        P : Stepped → Type 0
        P st = IsPlain (SpawnMaster heir.image) st.answer × Goes handed body st.table

        done : Stepped
        done = gives answer.Spawned (with_new_row t1 (λ n. Master n r.pid heir.image true start.agrees.holds))

        few : (n m p : ℕ) → n + (m + 1) ≤ p → nat_lt n p ≡ true
        few n m p le = grind (arith, nat_tests)

    moves :
        (path : FilePath) (ok bad : Tree) (owner : ℕ) → owner_at path t.files ≡ Some owner →
        ((files : List File) → Goes handed ok (record t { files = files })) → Goes handed (either r.generation.image
        (MovePid path (oldbin path)) [] ok bad) t
    moves path ok bad owner e on =
        subst (λ o. P (step_by handed r.generation.image o (MovePid path (oldbin path)) None t))
        (sym start.agrees.lives)
        (subst (λ (o : Option ℕ). P (unwrap_or (option_map (λ (n : ℕ). gives answer.Fine (record t {
          files = with_file
              (oldbin path) n (without_file path t.files);
        })) o) (gives answer.IoFault t)))
        (sym e) (refl, on (with_file (oldbin path) owner (without_file path t.files))))
      where
        P : Stepped → Type 0
        P st = IsPlain (MovePid path (oldbin path)) st.answer × Goes handed ok st.table

    go-aside :
        (path : Option FilePath) (note : PidNote) (ok bad : Tree) → FilesAre note path r.pid t.files →
        ((files : List File) → Goes handed ok (record t { files = files })) → Goes handed
        (move_aside r.generation.image path note ok bad) t
    go-aside None note ok bad f on = on t.files
    go-aside (Some path) InPlace ok bad f on = moves path ok bad r.pid f.0 on
    go-aside (Some path) AtOldbin ok bad f on = on t.files
    go-aside (Some path) OldbinLeft ok bad f on = moves path ok bad r.pid f.0 on
    go-aside (Some path) Left ok bad f on = absurd f
    go-aside (Some path) NoFile ok bad f on = absurd f

    pub go-upgrade : Goes handed (upgrade_tree attended r.generation.image
        (crew_of r) new r.ready r.retries r.pid_path r.note (addresses_of r) s.listeners s.workers turns) t
    go-upgrade = go-aside r.pid_path r.note _ _ start.agrees.files (λ files. go-spawn files
        (back_alone r.generation.image (crew_of r) r.ready r.retries r.pid_path))
