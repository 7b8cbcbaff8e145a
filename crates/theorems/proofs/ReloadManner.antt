-- The manner of a reload, in one step or more.
use Rattle.std.proofs.Common.{◌≡◌, ℕ, ◌<◌, Bool, true, false, List, [], ◌∷◌, ◌++◌, Option, None, refl, ap, ◌⊎◌, inl, inr}
use Rattle.std.specs.Prelude.{⊤, ◌&&◌, ◌||◌, ◌==◌, not, reverse}
use Rattle.std.specs.List.{list_any}
use Rattle.listener_set.specs.Numbers.{is_in, numbers_below}
use Rattle.listener_set.specs.declared.generation.Generation.{Generation}
use Rattle.vocabulary.specs.declared.names.Name.{Name}
use Rattle.vocabulary.specs.declared.calls.Call.{Call}
use Rattle.vocabulary.specs.declared.calls.Call.TheVariants.{OpenAt, CloseAt, Fork, AwaitReady, Quit, Kill, Census, AwaitGone, Ask}
use Rattle.vocabulary.specs.declared.calls.Fate.{Fate}
use Rattle.vocabulary.specs.declared.reports.Entry.{Entry}
use Rattle.vocabulary.specs.declared.targets.Target.TheVariants.{Reload}
use Rattle.vocabulary.specs.declared.plans.Side.TheVariants.{Old, Target}
use Rattle.vocabulary.specs.Settings.{Settings}
use Rattle.definitions.specs.Table.{Address, Process, Table, bears, same_generation}
use Rattle.definitions.specs.Calls.{after_exits, step_with, Handed}
use Rattle.definitions.specs.Master.{Crew, Record, addresses_of, crew_of, reload_generation, sides_of}
use Rattle.definitions.specs.After.{crew_wanted}
use Rattle.definitions.specs.Run.{Tree, Outcome, Pattern, Progress, Ran, Ending, At, Lost, start_at, outcome_of, report_of}
use Rattle.definitions.specs.Plans.{reload_on, settle, only_in}
use Rattle.definitions.specs.Claims.{has_ready, is_lost, is_old_side, Stays, is_wait, names_any, IsStart, IsKillDue, KillsAreDue, refused_among}
use Rattle.call_laws.specs.Pieces.{lacked_last}
use Rattle.table_laws.proofs.Exits.{spares-each}
use Rattle.table_laws.proofs.Views.{eqb-off}
use Rattle.table_laws.proofs.Small.{not-is}
use Rattle.table_laws.proofs.Sets.{in-here}
use Rattle.run_laws.proofs.Logic.{Course, Anyhow, Unasked, AllDue, are-mild-anyhow, refused_in, run_in}
use Rattle.run_laws.proofs.Processes.{fact-any, fact-steps}
use Rattle.run_laws.proofs.Lights.{any_end, settle-along, calm-along}
use Rattle.run_laws.proofs.Calms.{calm-settle, calm-quits, calm-closes, free-along, ends-settle, ends-quits, ends-closes}
use Rattle.run_laws.proofs.Staying.{Unlost, IsIt, Stands, standing, stands-any, stands-exits, stands-steps}
use Rattle.run_laws.proofs.Taken.{NotTaken, OnlyOurs, IsUntouched, untouched, loose, loosens, close-lasts, free-taken}
use Rattle.run_laws.proofs.Firsts.{first-low, first-stands, first-untouched, stands-ready}
use Rattle.run_laws.proofs.Manners.{are-unlost, paired}
use Rattle.run_laws.proofs.Traces.{Asking, Finally, Traced, AllTraced, from-traced, along-traced}
use Rattle.theorems.proofs.Reload.{other-next}
use Rattle.definitions.specs.Plans.{reload_plan, rollout_of}
use Rattle.definitions.specs.Claims.{ReloadManner}
use Rattle.theorems.proofs.Headlines.{InManner}
use Rattle.theorems.proofs.Late.{wait-keeps, waited-for, LateFirst, not-taken-late, anyway, not-lost, Close, exits-close, told-and-waited}
use Rattle.theorems.proofs.Walks.{IsGentle, Goes, closes-go, stepped-goes}

module _ (t : Table) (r : Record) (st : Settings) (pattern : Pattern) (s : IsStart t r) (p k : ℕ) (on : has_ready t p k ≡ true) where
  abbrev g : Generation
  g = r.generation

  abbrev new : Generation
  new = reload_generation r.generation

  abbrev old : Crew
  old = crew_of r

  abbrev next : Crew
  next = crew_wanted r (Reload st)

  abbrev low : k < 1024
  low = first-low t r s p k on

  abbrev co : Course
  co = record { handed = None; pattern = pattern; executing = g.image ∷ []; heirs = [] }

  acts : is_in (g.image ∷ []) g.image ≡ true
  acts = in-here g.image g.image [] refl

  abbrev dropped : List Address
  dropped = only_in (addresses_of r) st.listeners

  abbrev IsFree : Generation → ℕ → Type 0
  IsFree h x = bears h x g k ≡ false

  -- no worker of the next configuration bears the name
  free-new : (x : ℕ) → IsFree new x
  free-new x = go (same_generation g new) (k == x) (other-next g)
    where
      go : (a b : Bool) → a ≡ false → (a && b) ≡ false
      go true b e = absurd (cc)
      go false b e = refl

  -- and no other number is its own
  free-other : (x : ℕ) → (k ≡ x → ⊥) → IsFree g x
  free-other x ne = go (same_generation g g) (k == x) (eqb-off k x ne)
    where
      go : (a b : Bool) → b ≡ false → (a && b) ≡ false
      go true b e = e
      go false b e = refl

  ---- Who stays

  abbrev F : Table → Type 0
  F u = Stands r.pid g.image p g k low u

  -- it stands at an end on the old side, unless its master had waited for it to go
  abbrev stays : Finally
  stays past e q =
      is_old_side (outcome_of (sides_of r (Reload st)) e (lacked_last q.lacked)) ≡ true →
      list_any (λ e. is_wait (bears g k) e.call) past ≡ false → F q.table

  abbrev unasked : Asking
  unasked past call u = ⊤

  never-lost : (past : List Entry) (q : Progress) → stays past Lost q
  never-lost past q back = absurd (cc back)

  exits-it : (es : List Name) (u : Table) → names_any co.executing es ≡ false → Unlost p es u.rows → F u → F (after_exits es u)
  exits-it es u spared mild h = stands-exits r.pid g.image p g k low es u (spares-each co.executing g.image es acts spared) mild h

  steps-it :
      (handed : Handed) (call : Call) (fate : Option Fate) (u : Table) → IsGentle IsFree call → F u →
      F (step_with handed g.image call fate u).table
  steps-it handed (OpenAt a) fate u ok h = stands-steps r.pid g.image p g k low handed (OpenAt a) fate u (tt, tt) h
  steps-it handed (CloseAt a) fate u ok h = stands-steps r.pid g.image p g k low handed (CloseAt a) fate u (tt, tt) h
  steps-it handed (Fork f x fds) fate u ok h = stands-steps r.pid g.image p g k low handed (Fork f x fds) fate u (tt, tt) h
  steps-it handed (AwaitReady f x) fate u ok h = stands-steps r.pid g.image p g k low handed (AwaitReady f x) fate u (tt, tt) h
  steps-it handed (Quit f x) fate u ok h = stands-steps r.pid g.image p g k low handed (Quit f x) fate u (ok, tt) h
  steps-it handed (Kill f x) fate u ok h = stands-steps r.pid g.image p g k low handed (Kill f x) fate u (tt, ok) h
  steps-it handed (Census f) fate u ok h = stands-steps r.pid g.image p g k low handed (Census f) fate u (tt, tt) h
  steps-it handed (AwaitGone f x) fate u ok h =
      wait-keeps r.pid g.image p (IsIt r.pid g.image p g k low) F handed f x fate u h.fact h
      (stands-steps r.pid g.image p g k low None (Kill f x) None u (tt, ok) h)
  steps-it handed (Ask q) fate u ok h = stands-any r.pid g.image p g k low handed g.image (Ask q) fate u tt h
  steps-it handed _ fate u ok h = absurd ok

  abbrev Keeps : Tree → Type 0
  Keeps tree = Goes unasked stays (Unlost p) co never-lost g.image F exits-it IsFree steps-it (λ past call u ok h. tt) tree

  settled-it : Keeps (settle g.image old r.ready Old r.retries)
  settled-it past q known h =
      along-traced unasked stays (Unlost p) Unasked (λ e q. F q.table) (λ past call u x. tt)
      (λ past e q stands back none. stands) co (settle g.image old r.ready Old r.retries) q
      (settle-along g.image (Unlost p) Unasked (standing r.pid g.image p g k low) (λ e q. F q.table)
      (λ e q stands. stands) co acts Old old r.ready r.retries q tt h)
      past

  -- On the way on nothing is asked of an end.
  on-it : (left : List ℕ) → Keeps (reload_on g.image old next left r.retries dropped st.workers)
  on-it left past q known h =
      let post' : Ending → Progress → Type 0 =
      λ e q. is_old_side (outcome_of (sides_of r (Reload st)) e (lacked_last q.lacked)) ≡ true → F q.table in
      let way = reload_on g.image old next left r.retries dropped st.workers in
      along-traced unasked stays (Unlost p) Unasked post' (λ past call u x. tt) (λ past e q x back none. x back) co way q
      (free-along (Unlost p) post' co (λ q need. absurd (cc)) way q
      (ends-quits (λ e. (q : Progress) → post' (At e) q) g.image g (reverse left) _
      (ends-closes (λ e. (q : Progress) → post' (At e) q) g.image dropped _
      (ends-settle (λ e. (q : Progress) → post' (At e) q) g.image next (numbers_below st.workers) Target r.retries (λ q need. absurd (cc)) (λ q need. absurd (cc))))))
      past

  stays-traced : (asked : Bool) (surge : ℕ) → Traced unasked stays (Unlost p) co [] (reload_plan asked surge r st) (start_at t r.note)
  stays-traced asked surge =
      stepped-goes unasked stays (Unlost p) co never-lost g.image F exits-it IsFree steps-it (λ past call u ok h. tt) old next k
      free-new free-other
      (λ ks rest in_it past q known stands. waited-for stays (Unlost p) co never-lost g.image g k (λ past e q w back none. absurd (cc (w, none))) ks rest in_it past q)
      asked r.ready r.retries (addresses_of r) st.listeners st.workers (rollout_of r st surge)
      (on-it (rollout_of r st surge).left)
      (λ opened. closes-go unasked stays (Unlost p) co never-lost g.image F exits-it IsFree steps-it (λ past call u ok h. tt) opened (settle g.image old r.ready Old r.retries) settled-it)
      [] (start_at t r.note) tt (first-stands t r s p k on)

  ---- No kill takes it but when it was late

  abbrev C : Table → Type 0
  C u = Close r.pid g.image p g k low co acts u

  abbrev Untouched : Process → Type 0
  Untouched row = OnlyOurs r.pid g.image p g k low (IsUntouched r.pid g.image p g k low) row

  steps-late :
      (handed : Handed) (call : Call) (fate : Option Fate) (u : Table) → IsGentle IsFree call → C u →
      C (step_with handed g.image call fate u).table
  steps-late handed (OpenAt a) fate u ok h = fact-steps r.pid g.image p _ _ (close-lasts r.pid g.image p g k low) handed (OpenAt a) fate u tt h
  steps-late handed (CloseAt a) fate u ok h = fact-steps r.pid g.image p _ _ (close-lasts r.pid g.image p g k low) handed (CloseAt a) fate u tt h
  steps-late handed (Fork f x fds) fate u ok h = fact-steps r.pid g.image p _ _ (close-lasts r.pid g.image p g k low) handed (Fork f x fds) fate u tt h
  steps-late handed (AwaitReady f x) fate u ok h = fact-steps r.pid g.image p _ _ (close-lasts r.pid g.image p g k low) handed (AwaitReady f x) fate u tt h
  steps-late handed (Quit f x) fate u ok h = fact-steps r.pid g.image p _ _ (close-lasts r.pid g.image p g k low) handed (Quit f x) fate u ok h
  steps-late handed (Kill f x) fate u ok h = fact-steps r.pid g.image p _ _ (close-lasts r.pid g.image p g k low) handed (Kill f x) fate u tt h
  steps-late handed (Census f) fate u ok h = fact-steps r.pid g.image p _ _ (close-lasts r.pid g.image p g k low) handed (Census f) fate u tt h
  steps-late handed (AwaitGone f x) fate u ok h =
      wait-keeps r.pid g.image p Untouched C handed f x fate u h h
      (fact-steps r.pid g.image p _ _ (close-lasts r.pid g.image p g k low) None (Kill f x) None u tt h)
  steps-late handed (Ask q) fate u ok h = fact-any r.pid g.image p _ _ (close-lasts r.pid g.image p g k low) [] handed g.image (Ask q) fate u tt h
  steps-late handed _ fate u ok h = absurd ok

  owes-late : (past : List Entry) (call : Call) (u : Table) → IsGentle IsFree call → C u → LateFirst p past call u
  owes-late past (Kill f x) u ok h =
      not-taken-late p past (Kill f x) u (free-taken r.pid g.image p g k low (IsUntouched r.pid g.image p g k low) f x u.rows ok h.all)
  owes-late past _ u ok h = tt

  abbrev Spares : Tree → Type 0
  Spares tree =
      Goes (LateFirst p) anyway Anyhow co not-lost g.image C (exits-close r.pid g.image p g k low co acts) IsFree steps-late
      owes-late tree

  settled-late : Spares (settle g.image old r.ready Old r.retries)
  settled-late past q known h =
      along-traced (LateFirst p) anyway Anyhow (NotTaken p) any_end (not-taken-late p) (λ past e q x. tt) co
      (settle g.image old r.ready Old r.retries) q
      (settle-along g.image Anyhow (NotTaken p) (untouched r.pid g.image p g k low) any_end (λ e q x. tt) co acts Old old r.ready
      r.retries q tt h)
      past

  -- The old workers that are left quit, and from then on new ones alone are killed.
  on-late : (left : List ℕ) → Spares (reload_on g.image old next left r.retries dropped st.workers)
  on-late left past q known h =
      let light = loose r.pid g.image p g k low in
      let way = reload_on g.image old next left r.retries dropped st.workers in
      along-traced (LateFirst p) anyway Anyhow (NotTaken p) any_end (not-taken-late p) (λ past e q x. tt) co way q
      (calm-along g.image Anyhow (NotTaken p) light any_end (λ e q h. tt) co acts way
      (calm-quits g.image Anyhow (NotTaken p) light any_end (λ e q h. tt) co acts g (reverse left) _ (λ x in_it. (tt, tt))
      (calm-closes g.image Anyhow (NotTaken p) light any_end (λ e q h. tt) co acts dropped _ (λ a. (tt, tt))
      (calm-settle g.image Anyhow (NotTaken p) light any_end (λ e q h. tt) co acts Target next (numbers_below st.workers) r.retries (λ x in_it. free-new x))))
      q (loosens r.pid g.image p g k low q.table h))
      past

  late-traced : (asked : Bool) (surge : ℕ) → Traced (LateFirst p) anyway Anyhow co [] (reload_plan asked surge r st) (start_at t r.note)
  late-traced asked surge =
      stepped-goes (LateFirst p) anyway Anyhow co not-lost g.image C (exits-close r.pid g.image p g k low co acts) IsFree steps-late
      owes-late old next k free-new free-other
      (λ ks rest in_it. told-and-waited r.pid g.image p g k low co acts ks rest in_it)
      asked r.ready r.retries (addresses_of r) st.listeners st.workers (rollout_of r st surge)
      (on-late (rollout_of r st surge).left)
      (λ opened. closes-go (LateFirst p) anyway Anyhow co not-lost g.image C (exits-close r.pid g.image p g k low co acts) IsFree steps-late owes-late opened (settle g.image old r.ready Old r.retries) settled-late)
      [] (start_at t r.note) tt (first-untouched t r s p k on)

---- The manner

-- a kill of all who were Ready at first
kill-due :
    (first : Table) (past : List Entry) (call : Call) (t : Table) →
    ((p k : ℕ) → has_ready first p k ≡ true → LateFirst p past call t) → IsKillDue first past call t
kill-due first past (Kill h x) t all = λ p k on taken. all p k on taken
kill-due first past _ t all = tt

kills-due :
    (first : Table) (past entries : List Entry) (passed : List Progress) → AllDue Unasked entries passed →
    ((p k : ℕ) → has_ready first p k ≡ true → AllTraced (LateFirst p) past entries passed) → KillsAreDue first past entries passed
kills-due first past [] passed pairs h = tt
kills-due first past (e ∷ entries) [] pairs h = absurd pairs
kills-due first past (e ∷ entries) (q ∷ []) pairs h = absurd pairs
kills-due first past (e ∷ entries) (q ∷ middle ∷ rest) pairs h =
    (kill-due first past e.call middle.table (λ p k on. (h p k on).0), kills-due first (past ++ e ∷ []) entries rest pairs.1 (λ p k on. (h p k on).1))

-- One that was Ready at first stands at the end, or is lost.
stays-or-lost :
    (asked : Bool) (surge : ℕ) (t : Table) (r : Record) (st : Settings) (pattern : Pattern) (s : IsStart t r) (p k : ℕ)
    (on : has_ready t p k ≡ true) →
    let tree = reload_plan asked surge r st in
    let at = start_at t r.note in
    let ran = run_in (co t r st pattern s p k on) tree at in
    refused_in (co t r st pattern s p k on) tree at ≡ None →
    is_old_side (outcome_of (sides_of r (Reload st)) ran.ending (lacked_last ran.last.lacked)) ≡ true →
    list_any (λ e. is_wait (bears r.generation k) e.call) ran.entries ≡ false → (b : Bool) → is_lost p ran.passed ≡ b →
    (has_ready ran.last.table p k ≡ true) ⊎ (is_lost p ran.passed ≡ true)
stays-or-lost asked surge t r st pattern s p k on spared back none true e = inr e
stays-or-lost asked surge t r st pattern s p k on spared back none false e =
    let tree = reload_plan asked surge r st in
    let at = start_at t r.note in
    let course = co t r st pattern s p k on in
    let all =
    from-traced (λ past call t. ⊤) (stays t r st pattern s p k on) (Unlost p) course [] tree at
    (stays-traced t r st pattern s p k on asked surge) spared (are-unlost p course tree at e) in
    inl
    (stands-ready r.pid r.generation.image p r.generation k (first-low t r s p k on) (run_in course tree at).last.table
    (all.last back none))

pub reload_manner : (st : Settings) → InManner (Reload st)
reload_manner st t r turns pattern a =
    let s = a.start in
    let spared = a.spared in
    let tree = reload_plan false st.surge r st in
    let at = start_at t r.note in
    let course : Course = record { handed = None; pattern = pattern; executing = r.generation.image ∷ []; heirs = [] } in
    let ran = run_in course tree at in (
      λ back p k on need. stays-or-lost false st.surge t r st pattern s p k on spared back
          (not-is (list_any (λ e. is_wait (bears r.generation k) e.call) ran.entries) need) (is_lost p ran.passed) refl,
      kills-due t [] ran.entries ran.passed (paired None tree pattern at)
          (λ p k on. (from-traced (LateFirst p) anyway Anyhow course [] tree at
          (late-traced t r st pattern s p k on false st.surge) spared (are-mild-anyhow course tree at)).dues),
    )

-- Where it waited for nobody all stay.
pub all-stay :
    (r : Record) (end : Outcome) (first : Table) (ran : Ran) → ReloadManner r end first ran → is_old_side end ≡ true →
    list_any (λ e. is_wait (λ g k. true) e.call) ran.entries ≡ false → Stays first (λ k. true) ran
all-stay r end first ran manner back none p k on need = manner.0 back p k on (ap not (unwaited k ran.entries none))
  where
    or-false : (a b c d : Bool) → (a ≡ false → c ≡ false) → (b ≡ false → d ≡ false) → (a || b) ≡ false → (c || d) ≡ false
    or-false true b c d here there e = absurd (cc e)
    or-false false b c d here there e = rw (here refl) (there e)

    one : (k : ℕ) (call : Call) → is_wait (λ g k. true) call ≡ false → is_wait (bears r.generation k) call ≡ false
    one k (AwaitGone g x) e = absurd (cc e)
    one k _ e = refl

    unwaited :
        (k : ℕ) (l : List Entry) → list_any (λ e. is_wait (λ g k. true) e.call) l ≡ false →
        list_any (λ e. is_wait (bears r.generation k) e.call) l ≡ false
    unwaited k [] e = refl
    unwaited k (x ∷ l) e = or-false _ _ _ _ (one k x.call) (unwaited k l) e
