-- What is known of a table on the plain way of a plan, and what each call makes of it.
use Rattle.std.proofs.Common.{◌≡◌, ◌≢◌, ℕ, ◌+◌, ◌≤◌, Bool, true, false, not, List, [], ◌∷◌, ◌++◌, length, Option, Some}
use Rattle.std.proofs.Common.{None, refl, sym, ap, ◌∙◌, subst, arith, option_map, count_by, nat_lt, is_some}
use Rattle.std.proofs.Common.{⊎_elim}
use Rattle.std.specs.Prelude.{◌&&◌, ◌==◌, if◌then◌else◌, bytes_eq}
use Rattle.std.specs.List.{list_any, filter_map, AllByRecursion}
use Rattle.std.proofs.lemmas.Bool.Decides.{nat_tests}
use Rattle.listener_set.specs.declared.generation.Generation.{Generation}
use Rattle.listener_set.specs.Numbers.{is_in}
use Rattle.vocabulary.specs.declared.table.Limits.{Limits}
use Rattle.vocabulary.specs.declared.table.Stance.TheVariants.{Starting, Ready, Draining, Exited}
use Rattle.vocabulary.specs.declared.calls.Answer.TheVariants as answer
use Rattle.definitions.specs.Table.{Hold, Process, Master, Worker, Foreign, Table, Caller, Address, FilePath, is_own}
use Rattle.definitions.specs.Table.{is_worker, is_active, live_master, has_address, is_held, bears, same_generation}
use Rattle.definitions.specs.Calls.{Call, OpenAt, CloseAt, Fork, AwaitReady, Quit, Kill, Census, AwaitGone, Adopt}
use Rattle.definitions.specs.Calls.{WritePid}
use Rattle.definitions.specs.Calls.{RemovePid, Alive, Usr1, Ask, Handed, Stepped, gives, own_step, step_by, step_with}
use Rattle.definitions.specs.Calls.{change, drop_where, with_stance, with_holds, shared, put_hold, has_process_room}
use Rattle.definitions.specs.Calls.{is_of}
use Rattle.definitions.specs.Calls.{with_new_row, each_row, lowest_free, is_exited_of, suits}
use Rattle.call_laws.specs.Pieces.{is_starting, is_any, made_ready, made_draining, is_row, lacks_address}
use Rattle.call_laws.specs.Pieces.{with_new_socket}
use Rattle.call_laws.proofs.Choices.{pick}
use Rattle.table_laws.proofs.Rows.{every-more, every-both, both-true, or-left, or-right}
use Rattle.table_laws.proofs.Views.{eqb-off, eqb-refl}
use Rattle.table_laws.proofs.Effects.{same-refl, any-every}
use Rattle.table_laws.proofs.Addresses.{address-sym}
use Rattle.table_laws.proofs.Sets.{in-here, in-there, in-cases}
use Rattle.quiet_runs.specs.Quiet.{HasNoneTwice}
use Rattle.quiet_runs.proofs.Ways.{IsPlain}
use Rattle.quiet_runs.proofs.Rows as rows

---- What is known

-- A master, by its image and number, and another one that lives too, or the same.
pub record Spot : Type 0 where
  pub image : ℕ
  pub number : ℕ
  pub other : ℕ
  pub other_number : ℕ

-- Numbers of a generation whose workers are Starting or Ready, and whose are not; room for some processes; addresses
-- that nobody holds and that are to be opened; and whether the master has yet to adopt.
pub record State : Type 0 where
  pub busy : List ℕ
  pub idle : List ℕ
  pub room : List ℕ
  pub unheld : List Address
  pub fresh : Bool

pub record Stands (handed : Handed) (sp : Spot) (g : Generation) (x : State) (rows : List Process)
    (limits : Limits) : Type 0 where
  pub holds : List Hold
  pub lives : live_master sp.image rows ≡ Some (record { number = sp.number; holds = holds })
  pub told : x.fresh ≡ true → suits handed sp.image holds ≡ true
  pub beside : (hs : List Hold) × (live_master sp.other rows ≡ Some (record { number = sp.other_number; holds = hs }))
  pub busy : (k : ℕ) → is_in x.busy k ≡ true → list_any (is_worker is_active sp.number g k) rows ≡ true
  pub idle : (k : ℕ) → is_in x.idle k ≡ true → list_any (is_worker is_active sp.number g k) rows ≡ false
  pub room : count_by is_own rows + length x.room ≤ limits.processes
  pub unheld : AllByRecursion (λ a. is_held a rows ≡ false) x.unheld
  pub apart : HasNoneTwice x.unheld
  pub limit : 1 ≤ length x.unheld → length holds + length x.unheld ≤ limits.descriptors

pub none-in : (k : ℕ) → is_in [] k ≡ true → ⊥
none-in k e = cc

module _ (handed : Handed) (sp : Spot) (g : Generation) where
  abbrev pub At : State → Table → Type 0
  At x t = Stands handed sp g x t.rows t.limits

  abbrev pub Then : Call → State → Stepped → Type 0
  Then call y s = IsPlain call s.answer × At y s.table

  -- The call is answered plainly, and then this is known.
  abbrev pub Step : State → Call → State → Type 0
  Step x call y = (t : Table) → At x t → Then call y (step_with handed sp.image call None t)

  pub by-own :
      (t : Table) (call : Call) (c : Caller) (P : Stepped → Type 0) → live_master sp.image t.rows ≡ Some c →
      P (own_step handed sp.image c call t) → P (step_with handed sp.image call None t)
  by-own t call c P e h = subst (λ o. P (step_by handed sp.image o call None t)) (sym e) h

  -- Rows among which no master and no hold is another.
  moved :
      (x : State) (busy idle : List ℕ) (rows rows' : List Process) (limits : Limits) →
      Stands handed sp g x rows limits →
      ((i : ℕ) → live_master i rows' ≡ live_master i rows) → count_by is_own rows' ≤ count_by is_own rows →
      ((a : Address) → is_held a rows ≡ false → is_held a rows' ≡ false) →
      ((k : ℕ) → is_in busy k ≡ true → list_any (is_worker is_active sp.number g k) rows' ≡ true) →
      ((k : ℕ) → is_in idle k ≡ true → list_any (is_worker is_active sp.number g k) rows' ≡ false) →
      Stands handed sp g (record x { busy = busy; idle = idle }) rows' limits
  moved x busy idle rows rows' limits s live own held on off = record {
    holds = s.holds;
    lives = live sp.image ∙ s.lives;
    told = s.told;
    beside = (s.beside.0, live sp.other ∙ s.beside.1);
    busy = on;
    idle = off;
    room = omega (arith, s.room, own);
    unheld = every-more (λ a. is_held a rows ≡ false) (λ a. is_held a rows' ≡ false) held x.unheld s.unheld;
    apart = s.apart;
    limit = s.limit;
  }

  -- Fewer numbers, and no address.
  pub forget :
      (busy idle busy' idle' room : List ℕ) (unheld : List Address) (fresh : Bool) (rows : List Process)
      (limits : Limits) →
      ((k : ℕ) → is_in busy' k ≡ true → is_in busy k ≡ true) → ((k : ℕ) → is_in idle' k ≡ true → is_in idle k ≡ true) →
      Stands handed sp g (record {
        busy = busy;
        idle = idle;
        room = room;
        unheld = unheld;
        fresh = fresh;
      }) rows limits →
      Stands handed sp g (record { busy = busy'; idle = idle'; room = []; unheld = []; fresh = false }) rows limits
  forget busy idle busy' idle' room unheld fresh rows limits on off s = record {
    holds = s.holds;
    lives = s.lives;
    told = λ e. absurd (cc);
    beside = s.beside;
    busy = λ k e. s.busy k (on k e);
    idle = λ k e. s.idle k (off k e);
    room = omega (arith, s.room);
    unheld = tt;
    apart = tt;
    limit = λ e. absurd (omega (arith, e));
  }

  ---- Workers

  pub step-fork :
      (k : ℕ) (fds : Option (List ℕ)) (j : ℕ) (busy idle room : List ℕ) (unheld : List Address) (fresh : Bool) →
      is_in idle k ≡ false →
      Step (record { busy = busy; idle = k ∷ idle; room = j ∷ room; unheld = unheld; fresh = fresh }) (Fork g k fds)
      (record { busy = k ∷ busy; idle = idle; room = room; unheld = unheld; fresh = fresh })
  step-fork k fds j busy idle room unheld fresh new t s =
      by-own t (Fork g k fds) c P s.lives
      (pick P (list_any (is_worker is_active sp.number g k) t.rows) (gives answer.Again t)
      (if has_process_room t then done else gives answer.Again t)
      (λ on. absurd (let off = s.idle k (in-here k k idle refl) in cc))
      (λ off. pick P (has_process_room t) done (gives answer.Again t) (λ yes. (refl, stands))
      (λ no. absurd (let some : nat_lt (count_by is_own t.rows) t.limits.processes ≡ true = few
      (count_by is_own t.rows) (length (j ∷ room)) t.limits.processes (omega arith) s.room in cc))))
    where
      c : Caller
      c = record { number = sp.number; holds = s.holds }

      y : State
      y = record { busy = k ∷ busy; idle = idle; room = room; unheld = unheld; fresh = fresh }

      P : Stepped → Type 0
      P = Then (Fork g k fds) y

      row : Process
      row = Worker t.next_process sp.number g k Starting (shared fds s.holds)

      done : Stepped
      done = gives answer.Forked (with_new_row t (λ n. Worker n sp.number g k Starting (shared fds s.holds)))

      few : (n m p : ℕ) → 1 ≤ m → n + m ≤ p → nat_lt n p ≡ true
      few n m p some le = grind (arith, nat_tests)

      is-row : (i : ℕ) → k ≡ i → is_worker is_active sp.number g i row ≡ true
      is-row i e =
          both-true (sp.number == sp.number) (same_generation g g && (k == i)) (eqb-refl sp.number sp.number refl)
          (both-true (same_generation g g) (k == i) (same-refl g) (eqb-refl k i e))

      not-row : (i : ℕ) → k ≢ i → is_worker is_active sp.number g i row ≡ false
      not-row i ne = both (sp.number == sp.number) (same_generation g g) (k == i) (eqb-off k i ne)
        where
          both : (a b d : Bool) → d ≡ false → (a && (b && d)) ≡ false
          both true true d e = e
          both true false d e = refl
          both false b d e = refl

      stands : At y (with_new_row t (λ n. Worker n sp.number g k Starting (shared fds s.holds)))
      stands = record {
        holds = s.holds;
        lives = rows.live-app sp.image c t.rows (row ∷ []) s.lives;
        told = s.told;
        beside = (s.beside.0, rows.live-app sp.other _ t.rows (row ∷ []) s.beside.1);
        busy =
            λ i e. rows.any-app (is_worker is_active sp.number g i) t.rows row ∙
            ⊎_elim (λ same. or-right _ _ (is-row i same)) (λ more. or-left _ _ (s.busy i more)) (in-cases k i busy e);
        idle =
            λ i e. rows.any-app (is_worker is_active sp.number g i) t.rows row ∙
            rows.both-off _ _ (s.idle i (in-there k i idle e))
            (not-row i (λ same. let f : is_in idle i ≡ false = subst (λ z. is_in idle z ≡ false) same new in absurd
            (cc)));
        room = let one = rows.own-app t.rows row refl in omega (arith, one, s.room);
        unheld =
            every-more (λ a. is_held a t.rows ≡ false) (λ a. is_held a (t.rows ++ row ∷ []) ≡ false)
            (λ a off. rows.any-app (rows.holds_it a) t.rows row ∙ rows.both-off _ _ off
            (rows.shared-off a fds s.holds (rows.held-off a sp.image c t.rows s.lives off))) unheld s.unheld;
        apart = s.apart;
        limit = s.limit;
      }

  pub step-await : (k : ℕ) (x : State) → is_in x.busy k ≡ true → Step x (AwaitReady g k) x
  step-await k x on t s =
      by-own t (AwaitReady g k) (record { number = sp.number; holds = s.holds }) (Then (AwaitReady g k) x) s.lives
      (pick (Then (AwaitReady g k) x) (list_any (is_worker is_active sp.number g k) t.rows)
      (gives answer.IsReady (each_row (change (is_worker is_starting sp.number g k) made_ready) t)) _
      (λ e. (
        refl,
        moved x x.busy x.idle t.rows _ t.limits s (λ i. rows.live-stance T Ready i t.rows)
            (let own = rows.own-change T made_ready (rows.own-stance Ready) t.rows in omega (arith, own))
            (λ a off. rows.off-change T made_ready (rows.holds_it a) (rows.stance-off a Ready) t.rows off)
            (λ i b. same i ∙ s.busy i b) (λ i b. same i ∙ s.idle i b),
      ))
      (λ off. absurd (let b = s.busy k on in cc)))
    where
      T : Process → Bool
      T = is_worker is_starting sp.number g k

      same : (i : ℕ) → list_any (is_worker is_active sp.number g i) (filter_map
          (change T made_ready) t.rows) ≡ list_any (is_worker is_active sp.number g i) t.rows
      same i = rows.same-change T made_ready (is_worker is_active sp.number g i)
          (rows.active-ready sp.number g i k) t.rows

  pub step-quit : (k : ℕ) (x : State) → Step x (Quit g k) (record x { busy = []; idle = k ∷ x.idle })
  step-quit k x t s =
      by-own t (Quit g k) (record { number = sp.number; holds = s.holds }) (Then (Quit g k) (record x {
        busy = [];
        idle = k ∷ x.idle;
      })) s.lives (
        refl,
        moved x [] (k ∷ x.idle) t.rows _ t.limits s (λ i. rows.live-stance T Draining i t.rows)
            (let own = rows.own-change T made_draining (rows.own-stance Draining) t.rows in omega (arith, own))
            (λ a off. rows.off-change T made_draining (rows.holds_it a) (rows.stance-off a Draining) t.rows off)
            (λ i b. absurd (none-in i b))
            (λ i b. ⊎_elim
            (λ same. subst (λ z. list_any (is_worker is_active sp.number g z) (filter_map
            (change T made_draining) t.rows) ≡ false) same
            (rows.gone-change T made_draining T (rows.drained sp.number g k) (λ p e. e) t.rows))
            (λ more. rows.off-change T made_draining (is_worker is_active sp.number g i)
            (rows.drained-off sp.number g i) t.rows (s.idle i more))
            (in-cases k i x.idle b)),
      )
    where
      T : Process → Bool
      T = is_worker is_active sp.number g k

  pub step-kill : (k : ℕ) (x : State) → Step x (Kill g k) (record x { busy = []; idle = k ∷ x.idle })
  step-kill k x t s =
      by-own t (Kill g k) (record { number = sp.number; holds = s.holds }) (Then (Kill g k) (record x {
        busy = [];
        idle = k ∷ x.idle;
      })) s.lives (
        refl,
        moved x [] (k ∷ x.idle) t.rows _ t.limits s (λ i. rows.live-drop T
            (rows.no-master is_any sp.number g k) i t.rows)
            (rows.own-drop T t.rows) (λ a off. rows.off-drop T (rows.holds_it a) t.rows off) (λ i b. absurd
            (none-in i b))
            (λ i b. ⊎_elim
            (λ same. subst (λ z. list_any (is_worker is_active sp.number g z) (filter_map
            (drop_where T) t.rows) ≡ false) same
            (rows.gone-drop T (is_worker is_active sp.number g k) (rows.no-name is_active sp.number g k) t.rows))
            (λ more. rows.off-drop T (is_worker is_active sp.number g i) t.rows (s.idle i more))
            (in-cases k i x.idle b)),
      )
    where
      T : Process → Bool
      T = is_worker is_any sp.number g k

  pub step-gone : (k : ℕ) (x : State) → is_in x.idle k ≡ true → Step x (AwaitGone g k) (record x { busy = [] })
  step-gone k x off t s =
      by-own t (AwaitGone g k) (record { number = sp.number; holds = s.holds }) (Then (AwaitGone g k)
      (record x { busy = [] })) s.lives
      (pick (Then (AwaitGone g k) (record x { busy = [] })) (list_any (is_worker is_active sp.number g k) t.rows)
      (gives answer.Late t)
      (gives answer.Gone (each_row (drop_where T) t)) (λ on. absurd (let e = s.idle k off in cc))
      (λ e. (
        refl,
        moved x [] x.idle t.rows _ t.limits s (λ i. rows.live-drop T (rows.no-master is_any sp.number g k) i t.rows)
            (rows.own-drop T t.rows) (λ a off. rows.off-drop T (rows.holds_it a) t.rows off) (λ i b. absurd
            (none-in i b))
            (λ i b. rows.off-drop T (is_worker is_active sp.number g i) t.rows (s.idle i b)),
      )))
    where
      T : Process → Bool
      T = is_worker is_any sp.number g k

  -- Calls on workers of any generation, where no number is known to be busy.
  pub any-quit : (h : Generation) (k : ℕ) (x : State) → Step x (Quit h k) (record x { busy = [] })
  any-quit h k x t s =
      by-own t (Quit h k) (record { number = sp.number; holds = s.holds }) (Then (Quit h k) (record x { busy = [] })) s.lives (
        refl,
        moved x [] x.idle t.rows _ t.limits s (λ i. rows.live-stance T Draining i t.rows)
            (let own = rows.own-change T made_draining (rows.own-stance Draining) t.rows in omega (arith, own))
            (λ a off. rows.off-change T made_draining (rows.holds_it a) (rows.stance-off a Draining) t.rows off)
            (λ i b. absurd (none-in i b))
            (λ i b. rows.off-change T made_draining (is_worker is_active sp.number g i)
            (rows.drained-off sp.number g i) t.rows (s.idle i b)),
      )
    where
      T : Process → Bool
      T = is_worker is_active sp.number h k

  pub any-gone :
      (h : Generation) (k : ℕ) (x : State) (t : Table) → list_any (is_worker is_active sp.number h k) t.rows ≡ false → At x t →
      Then (AwaitGone h k) (record x { busy = [] }) (step_with handed sp.image (AwaitGone h k) None t)
  any-gone h k x t off s =
      by-own t (AwaitGone h k) (record { number = sp.number; holds = s.holds }) (Then (AwaitGone h k)
      (record x { busy = [] })) s.lives
      (pick (Then (AwaitGone h k) (record x { busy = [] })) (list_any (is_worker is_active sp.number h k) t.rows)
      (gives answer.Late t)
      (gives answer.Gone (each_row (drop_where T) t)) (λ on. absurd (cc))
      (λ e. (
        refl,
        moved x [] x.idle t.rows _ t.limits s (λ i. rows.live-drop T (rows.no-master is_any sp.number h k) i t.rows)
            (rows.own-drop T t.rows) (λ a off. rows.off-drop T (rows.holds_it a) t.rows off) (λ i b. absurd
            (none-in i b))
            (λ i b. rows.off-drop T (is_worker is_active sp.number g i) t.rows (s.idle i b)),
      )))
    where
      T : Process → Bool
      T = is_worker is_any sp.number h k

  -- those that exited leave, of any master
  heard : (m : ℕ) (x : State) (t : Table) → At x t → Stands handed sp g x (filter_map (drop_where
      (is_exited_of m)) t.rows) t.limits
  heard m x t s =
      moved x x.busy x.idle t.rows _ t.limits s (λ i. rows.live-drop (is_exited_of m) no i t.rows) (rows.own-drop
      (is_exited_of m) t.rows)
      (λ a off. rows.off-drop (is_exited_of m) (rows.holds_it a) t.rows off)
      (λ i b. rows.same-drop (is_exited_of m) (is_worker is_active sp.number g i) (dead i) t.rows ∙ s.busy i b)
      (λ i b. rows.off-drop (is_exited_of m) (is_worker is_active sp.number g i) t.rows (s.idle i b))
    where
      no : (p : Process) → is_exited_of m p ≡ true → Rattle.definitions.specs.Table.is_master p ≡ false
      no (Master n q i live hs) e = absurd (cc)
      no (Worker n q h k st hs) e = refl
      no (Foreign n hs) e = refl

      dead : (i : ℕ) (p : Process) → is_exited_of m p ≡ true → is_worker is_active sp.number g i p ≡ false
      dead i (Master n q j live hs) e = refl
      dead i (Worker n q h k Starting hs) e = absurd (cc)
      dead i (Worker n q h k Ready hs) e = absurd (cc)
      dead i (Worker n q h k Draining hs) e = refl
      dead i (Worker n q h k Exited hs) e = refl
      dead i (Foreign n hs) e = refl

  pub step-census : (h : Generation) (x : State) → Step x (Census h) x
  step-census h x t s =
      by-own t (Census h) (record { number = sp.number; holds = s.holds }) (Then (Census h) x) s.lives
      (refl, heard sp.number x t s)

  -- the other master's count
  pub other-census : (h : Generation) (x : State) (t : Table) → At x t → Then (Census h) x (step_with handed sp.other
      (Census h) None t)
  other-census h x t s =
      subst (λ o. Then (Census h) x (step_by handed sp.other o (Census h) None t)) (sym s.beside.1)
      (refl, heard sp.other_number x t s)

  ---- Calls that change no row

  pub step-usr1 : (h : Generation) (k : ℕ) (x : State) → Step x (Usr1 h k) x
  step-usr1 h k x t s = by-own t (Usr1 h k) (record { number = sp.number; holds = s.holds }) (Then
      (Usr1 h k) x) s.lives (refl, s)

  pub step-ask : (n : ℕ) (x : State) → Step x (Ask n) x
  step-ask n x t s = by-own t (Ask n) (record { number = sp.number; holds = s.holds }) (Then (Ask n) x) s.lives
      (refl, s)

  pub step-write : (path : FilePath) (x : State) → Step x (WritePid path) x
  step-write path x t s = by-own t (WritePid path) (record { number = sp.number; holds = s.holds }) (Then
      (WritePid path) x) s.lives (refl, s)

  pub step-remove : (path : FilePath) (x : State) → Step x (RemovePid path) x
  step-remove path x t s = by-own t (RemovePid path) (record { number = sp.number; holds = s.holds }) (Then
      (RemovePid path) x) s.lives (refl, s)

  pub step-alive : (x : State) → Step x (Alive sp.other) x
  step-alive x t s =
      by-own t (Alive sp.other) c (Then (Alive sp.other) x) s.lives
      (subst (λ (o : Option Caller). Then (Alive sp.other) x
      (if is_some o then gives answer.IsAlive t else gives answer.Gone (each_row (drop_where
      (Rattle.definitions.specs.Calls.is_image sp.other)) t)))
      (sym s.beside.1) (refl, s))
    where
      c : Caller
      c = record { number = sp.number; holds = s.holds }

  pub step-adopt : (busy idle room : List ℕ) (unheld : List Address) →
      Step (record { busy = busy; idle = idle; room = room; unheld = unheld; fresh = true }) Adopt
      (record { busy = busy; idle = idle; room = room; unheld = unheld; fresh = false })
  step-adopt busy idle room unheld t s =
      by-own t Adopt (record { number = sp.number; holds = s.holds }) P s.lives
      (pick P (suits handed sp.image s.holds) (gives answer.Adopted t) (gives answer.Refused t) (λ e. (refl, same))
      (λ off. absurd (let on = s.told refl in cc)))
    where
      P : Stepped → Type 0
      P = Then Adopt (record { busy = busy; idle = idle; room = room; unheld = unheld; fresh = false })

      same : At (record { busy = busy; idle = idle; room = room; unheld = unheld; fresh = false }) t
      same = record {
        holds = s.holds;
        lives = s.lives;
        told = λ e. absurd (cc);
        beside = s.beside;
        busy = s.busy;
        idle = s.idle;
        room = s.room;
        unheld = s.unheld;
        apart = s.apart;
        limit = s.limit;
      }

  ---- Listeners

  -- Rows of which the holds of the master and its workers change.
  rehold :
      (T : Process → Bool) (f : List Hold → List Hold) (busy idle room : List ℕ) (unheld unheld' : List Address)
      (fresh : Bool)
      (ps : List Process) (limits : Limits) (s : Stands handed sp g (record {
        busy = busy;
        idle = idle;
        room = room;
        unheld = unheld;
        fresh = fresh;
      }) ps limits) →
      ((n q j : ℕ) (live : Bool) (hs : List Hold) → T (Master n q j live hs) ≡ (n == sp.number)) →
      AllByRecursion (λ a. is_held a (filter_map (change T (with_holds f)) ps) ≡ false) unheld' → HasNoneTwice unheld' →
      (1 ≤ length unheld' → length (f s.holds) + length unheld' ≤ limits.descriptors) →
      Stands handed sp g (record { busy = busy; idle = idle; room = room; unheld = unheld'; fresh = false })
      (filter_map (change T (with_holds f)) ps) limits
  rehold T f busy idle room unheld unheld' fresh ps limits s own held apart limit = record {
    holds = f s.holds;
    lives =
        rows.live-holds T f sp.number own sp.image ps ∙ ap (λ (o : Option Caller). option_map
        (rows.with_f sp.number f) o) s.lives ∙
        ap (λ b. Some (record { number = sp.number; holds = if b then f s.holds else s.holds }))
        (eqb-refl sp.number sp.number refl);
    told = λ e. absurd (cc);
    beside = (
      _,
      rows.live-holds T f sp.number own sp.other ps ∙ ap (λ (o : Option Caller). option_map
          (rows.with_f sp.number f) o) s.beside.1,
    );
    busy = λ i b. same i ∙ s.busy i b;
    idle = λ i b. same i ∙ s.idle i b;
    room = let n = rows.own-change T (with_holds f) (rows.own-holds f) ps in omega (arith, n, s.room);
    unheld = held;
    apart = apart;
    limit = limit;
  }
    where
      same : (i : ℕ) → list_any (is_worker is_active sp.number g i) (filter_map (change T
          (with_holds f)) ps) ≡ list_any (is_worker is_active sp.number g i) ps
      same i = rows.same-change T (with_holds f) (is_worker is_active sp.number g i)
          (λ p e. rows.holds-active f sp.number g i p) ps

  pub step-close :
      (a : Address) (busy idle room : List ℕ) (unheld : List Address) →
      let x : State = record { busy = busy; idle = idle; room = room; unheld = unheld; fresh = false } in Step x
      (CloseAt a) x
  step-close a busy idle room unheld t s =
      by-own t (CloseAt a) (record { number = sp.number; holds = s.holds })
      (Then (CloseAt a) (record { busy = busy; idle = idle; room = room; unheld = unheld; fresh = false })) s.lives (
        refl,
        rehold (is_of sp.number) (lacks_address a) busy idle room unheld unheld false t.rows t.limits s
            (λ n q j live hs. refl)
            (every-more (λ b. is_held b t.rows ≡ false) (λ b. is_held b (filter_map (change (is_of sp.number)
            (with_holds (lacks_address a))) t.rows) ≡ false)
            (λ b off. rows.off-change (is_of sp.number) (with_holds (lacks_address a)) (rows.holds_it b)
            (rows.holds-off b (lacks_address a) (λ hs e. rows.filter-off b _ hs e)) t.rows off) unheld s.unheld)
            s.apart (λ e. let some = s.limit e in let less = rows.filter-le (λ h. not
            (bytes_eq h.address a)) s.holds in omega (arith, some, less)),
      )

  pub step-open :
      (a : Address) (busy idle room : List ℕ) (unheld : List Address) →
      Step (record { busy = busy; idle = idle; room = room; unheld = a ∷ unheld; fresh = false }) (OpenAt a)
      (record { busy = busy; idle = idle; room = room; unheld = unheld; fresh = false })
  step-open a busy idle room unheld t s =
      by-own t (OpenAt a) c P s.lives
      (pick P (is_held a t.rows) (gives answer.InUse t) (if nat_lt
      (length s.holds) t.limits.descriptors then done else gives answer.TooMany t)
      (λ on. absurd (let off = s.unheld.0 in cc))
      (λ off. pick P (nat_lt (length s.holds) t.limits.descriptors) done (gives answer.TooMany t) (λ yes.
      (refl, stands))
      (λ no. absurd (let some : nat_lt (length s.holds) t.limits.descriptors ≡ true = few (length s.holds) (length
      (a ∷ unheld)) t.limits.descriptors (omega arith) (s.limit (omega arith)) in cc))))
    where
      c : Caller
      c = record { number = sp.number; holds = s.holds }

      P : Stepped → Type 0
      P = Then (OpenAt a) (record { busy = busy; idle = idle; room = room; unheld = unheld; fresh = false })

      hold : Hold
      hold = record { fd = lowest_free s.holds; socket = t.next_socket; address = a }

      done : Stepped
      done = gives (answer.Opened (lowest_free s.holds)) (with_new_socket t sp.number hold)

      few : (n m p : ℕ) → 1 ≤ m → n + m ≤ p → nat_lt n p ≡ true
      few n m p some le = grind (arith, nat_tests)

      f : Process → Option Process
      f = change (is_row sp.number) (with_holds (put_hold hold))

      stands : Stands handed sp g (record { busy = busy; idle = idle; room = room; unheld = unheld; fresh = false })
          (filter_map f t.rows) t.limits
      stands =
          rehold (is_row sp.number) (put_hold hold) busy idle room (a ∷ unheld) unheld false t.rows t.limits s
          (λ n q j live hs. refl)
          (every-more (λ b. (bytes_eq b a ≡ false) × (is_held b t.rows ≡ false)) (λ b. is_held b
          (filter_map f t.rows) ≡ false)
          (λ b off. rows.off-change (is_row sp.number) (with_holds (put_hold hold)) (rows.holds_it b)
          (rows.holds-off b (put_hold hold) (λ hs e. rows.put-off b hold hs (address-sym a b ∙
          off.0) e)) t.rows off.1) unheld
          (every-both (λ b. bytes_eq b a ≡ false) (λ b. is_held b t.rows ≡ false) unheld
          (any-every (λ b. bytes_eq b a) unheld s.apart.0) s.unheld.1))
          s.apart.1
          (λ e. let some = s.limit (omega arith) in let more = rows.put-length hold s.holds in omega
          (arith, some, more))
