-- A whole life, by induction on its tasks.
use Rattle.std.proofs.Common.{◌≡◌, ℕ, ◌+◌, ◌≤◌, Bool, true, false, List, [], ◌∷◌, Option, Some, None, refl, sym, ap, ◌∙◌, arith, ◌⊎◌, inl, inr, ⊎_elim, count_by}
use Rattle.std.specs.Prelude.{⊤, IfSome, is_some, bytes_eq, ◌&&◌, ◌==◌, if◌then◌else◌}
use Rattle.std.specs.List.{AllByRecursion, list_any}
use Rattle.listener_set.specs.declared.generation.Generation.{Generation}
use Rattle.definitions.specs.Table.{Address, Hold, Process, Master, Worker, Foreign, Table, service, is_own, is_live_where, is_serving, same_generation, has_address}
use Rattle.definitions.specs.Master.{Record, Target, Workers, Mend, Reopen, Reload, Upgrade, Attended, Stop, want, handover_for, sides_of, layout_wanted, short_at, shortfalls_of}
use Rattle.definitions.specs.Plans.{plan_tree}
use Rattle.vocabulary.specs.declared.calls.Reply.{Reply}
use Rattle.definitions.specs.Calls.{Handed}
use Rattle.definitions.specs.Run.{Ending, At, Lost, Done, RolledBack, ShortOld, ShortTarget, Split, JoinReady, JoinBack, Join, outcome_of}
use Rattle.definitions.specs.Run.{start_at, Tree, Branches, Ends, Does, Nothing, Branch, reply_of, Pattern, Progress, Ran, run_with, goes_with, after_moment, after_call}
use Rattle.call_laws.specs.Pieces.{among, noted, answered, has_socket, lacked_last}
use Rattle.call_laws.proofs.Choices.{and-left}
use Rattle.table_laws.proofs.Rows.{every-more, or-left, or-right}
use Rattle.table_laws.proofs.Small.{or-elim}
use Rattle.table_laws.proofs.Begins.{first_view, begin}
use Rattle.table_laws.proofs.Services.{live-with}
use Rattle.theorems.proofs.Ends.{first-keys}
use Rattle.lives.proofs.Counting.{IsStop}
use Rattle.lives.proofs.Clinging.{Clings, clings-open, found-clings}
use Rattle.lives.proofs.Holding.{IsOldEnding, run-holds, plan-holds}
use Rattle.definitions.specs.Claims.{KeepsPromise, Kept, Says, IsFewerAt, IsSucceeded, heirs_of}
use Rattle.lives.specs.Lives.{Task, Through, Anything, IsCarriedOut, IsStanding, is_open}
use Rattle.lives.specs.Lives.{CanBeHealed, IsAccounted, missing_workers, owed_after, run_at, reported_at, table_after, record_left_by}
use Rattle.lives.specs.Lives.{LivesKeepTheirPromise}
use Rattle.lives.proofs.Standing.{promised, stands-after}
use Rattle.lives.proofs.Healing.{heals}
use Rattle.lives.proofs.Accounts.{accounted-after}

-- the last table of a run is one that it passes
mutual
  pub last-passed :
      (P : Progress → Type 0) (handed : Handed) (tree : Tree) (pattern : Pattern) (p : Progress) →
      AllByRecursion P (run_with handed tree pattern p).passed → P (run_with handed tree pattern p).last
  last-passed P handed (Ends end) pattern p h = h.0
  last-passed P handed (Does by order set branches) pattern p h =
      let moment = pattern (p.calls + 1) in
      let middle = after_moment moment.exits p in
      let s = answered handed by order moment.fate middle in
      last-behind P handed branches (reply_of set s.answer) pattern (after_call by order set s middle) h.1.1

  last-behind :
      (P : Progress → Type 0) (handed : Handed) (bs : Branches) (r : Reply) (pattern : Pattern) (p : Progress) →
      AllByRecursion P (goes_with handed bs r pattern p).passed → P (goes_with handed bs r pattern p).last
  last-behind P handed Nothing r pattern p h = h.0
  last-behind P handed (Branch replies said rest more) r pattern p h =
      let here = last-passed P handed rest pattern (noted said p) in
      let there = last-behind P handed more r pattern p in
      elim (among replies r) as
      (λ b. (let ran = elim b as (λ c. Ran) [ true ↦ run_with handed rest pattern (noted said p) | false ↦ goes_with handed more r pattern p ] in AllByRecursion P ran.passed → P ran.last)) [
        | true ↦ here
        | false ↦ there
      ] h

stays-true :
    (tasks : List Task) (t : Table) (state : Option Record) → IfSome state (IsStanding t) → Through Anything IsCarriedOut t state tasks →
    Through (λ u x. IfSome x (IsStanding u)) (λ u s task. KeepsPromise u s task.target (run_at u s task)) t state tasks
stays-true tasks t None h c = tt
stays-true [] t (Some r) h c = h
stays-true (task ∷ tasks) t (Some r) h c =
    (h, promised t r task h c.1, stays-true tasks (table_after t r task) (record_left_by t r task) (stands-after t r task h c.1) c.2)

stays-healable :
    (tasks : List Task) (t : Table) (state : Option Record) → IfSome state (IsStanding t) → Through Anything IsCarriedOut t state tasks →
    Through (λ u x. IfSome x (CanBeHealed u)) (λ u s task. ⊤) t state tasks
stays-healable tasks t None h c = tt
stays-healable [] t (Some r) h c = heals t r h
stays-healable (task ∷ tasks) t (Some r) h c =
    (heals t r h, tt, stays-healable tasks (table_after t r task) (record_left_by t r task) (stands-after t r task h c.1) c.2)

accounted :
    (owed : ℕ) (tasks : List Task) (t : Table) (state : Option Record) → IfSome state (IsStanding t) →
    IfSome state (λ r. missing_workers r ≤ owed) → Through Anything IsCarriedOut t state tasks → IsAccounted owed t state tasks
accounted owed tasks t None h le c = tt
accounted owed [] t (Some r) h le c = le
accounted owed (task ∷ tasks) t (Some r) h le c =
    (le, accounted (owed_after owed r task.target (reported_at t r task).outcome (run_at t r task).last) tasks (table_after t r task) (record_left_by t r task) (stands-after t r task h c.1) (go (record_left_by t r task) refl) c.2)
  where
    go :
        (left : Option Record) → record_left_by t r task ≡ left →
        IfSome left (λ x. missing_workers x ≤ owed_after owed r task.target (reported_at t r task).outcome (run_at t r task).last)
    go None e = tt
    go (Some left) e = accounted-after t r task owed left h c.1 le e

---- An address that each report names

none-own : (test : ℕ → List Hold → Bool) (rows : List Process) → list_any is_own rows ≡ false → list_any (is_live_where test) rows ≡ false
none-own test [] e = refl
none-own test (Foreign n hs ∷ rows) e = none-own test rows e
none-own test (Master n q i live hs ∷ rows) e = absurd (cc)
none-own test (Worker n q g k s hs ∷ rows) e = absurd (cc)

-- after a stop no address is named
unnamed : (t : Table) (a : Address) → list_any is_own t.rows ≡ false → is_some (service t a) ≡ true → ⊥
unnamed t a none named = go (list_any (is_live_where (λ n hs. has_address a hs)) t.rows) (none-own (λ n hs. has_address a hs) t.rows none) named
  where
    go : (b : Bool) → b ≡ false → is_some {T = Generation → ℕ} (if b then Some (λ g. count_by (is_serving a (λ h. same_generation h g)) t.rows) else None) ≡ true → ⊥
    go true e f = cc
    go false e f = cc

stop-gone : (r : Record) (target : Target) (first : Table) (ran : Ran) → IsStop target → IsSucceeded r target first ran → list_any is_own ran.last.table.rows ≡ false
stop-gone r (Stop quick) first ran h after = after.1
stop-gone r (Workers n) first ran h after = absurd h
stop-gone r (Mend overdue) first ran h after = absurd h
stop-gone r Reopen first ran h after = absurd h
stop-gone r (Reload s) first ran h after = absurd h
stop-gone r (Upgrade s) first ran h after = absurd h
stop-gone r (Attended s) first ran h after = absurd h

fewer-some : (m : ℕ) (full less : Option (Generation → ℕ)) → IsFewerAt m full less → is_some less ≡ true → is_some full ≡ true
fewer-some m None None h e = e
fewer-some m (Some f) (Some l) h e = refl
fewer-some m None (Some l) h e = absurd h
fewer-some m (Some f) None h e = refl

-- what the last service names, the target's does, unless the run went back
wanted-named :
    (r : Record) (target : Target) (e : Ending) (l : List ℕ) (first last : Table) (a : Address) → (IsOldEnding e → ⊥) →
    Says r target (outcome_of (sides_of r target) e l) first last → is_some (service last a) ≡ true → is_some (want r target a) ≡ true
wanted-named r target (At Done) l first last a not_old says named = ap is_some (sym (says a)) ∙ named
wanted-named r target (At RolledBack) l first last a not_old says named = absurd (not_old tt)
wanted-named r target (At ShortOld) l first last a not_old says named = absurd (not_old tt)
wanted-named r target (At ShortTarget) l first last a not_old says named =
    fewer-some (short_at (layout_wanted r target) (shortfalls_of (sides_of r target).target l) a) (want r target a) (service last a) (says.2 a) named
wanted-named r target (At Split) l first last a not_old says named = ap is_some (sym (says a)) ∙ named
wanted-named r target (At JoinReady) l first last a not_old says named = ap is_some (sym (says a)) ∙ named
wanted-named r target (At JoinBack) l first last a not_old says named = ap is_some (sym (says a)) ∙ named
wanted-named r target (At Join) l first last a not_old says named = ap is_some (sym (says a)) ∙ named
wanted-named r target Lost l first last a not_old says named = absurd says

old-or-not : (e : Ending) → IsOldEnding e ⊎ (IsOldEnding e → ⊥)
old-or-not (At RolledBack) = inl tt
old-or-not (At ShortOld) = inl tt
old-or-not (At Done) = inr (λ h. h)
old-or-not (At ShortTarget) = inr (λ h. h)
old-or-not (At Split) = inr (λ h. h)
old-or-not (At JoinReady) = inr (λ h. h)
old-or-not (At JoinBack) = inr (λ h. h)
old-or-not (At Join) = inr (λ h. h)
old-or-not Lost = inr (λ h. h)

has-of : (a : Address) (socket : ℕ) (hs : List Hold) → has_socket a socket hs ≡ true → has_address a hs ≡ true
has-of a socket [] e = e
has-of a socket (h ∷ hs) e =
    ⊎_elim (λ x. or-left (bytes_eq h.address a) (has_address a hs) (and-left (bytes_eq h.address a) _ x)) (λ x. or-right (bytes_eq h.address a) (has_address a hs) (has-of a socket hs x))
    (or-elim (bytes_eq h.address a && (h.socket == socket)) (has_socket a socket hs) e)

module _ (t : Table) (r : Record) (task : Task) (h : IsStanding t r) (c : IsCarriedOut t r task) (a : Address) (socket : ℕ)
    (on : is_open a socket t ≡ true) where
  abbrev ran : Ran
  ran = run_at t r task

  abbrev Open : Progress → Type 0
  Open p = is_open a socket p.table ≡ true

  holds-it : has_socket a socket h.start.agrees.holds ≡ true
  holds-it = sym (live-with (first_view r h.start.agrees.holds) (λ n. refl) (has_socket a socket) t.rows (begin t r h.start)) ∙ on

  -- a run that goes back closes none
  goes-back : (IsStop task.target → ⊥) → IsOldEnding ran.ending → AllByRecursion Open ran.passed
  goes-back no_stop old =
      let holds = h.start.agrees.holds in
      let i = r.generation.image in
      let keys = sym (first-keys t r h.start a) ∙ has-of a socket holds holds-it in
      every-more (λ (p : Progress). Clings a socket r.pid i p.table.rows) Open (λ p k. clings-open a socket r.pid i p.table.rows k) ran.passed
      (run-holds i a socket r.pid (heirs_of r task.target) (handover_for r task.target) (plan_tree r task.target task.turns) task.pattern (start_at t r.note)
      (plan-holds r a keys task.target task.turns no_stop) h.kept (found-clings a socket r.pid i holds t.rows h.start.agrees.lives holds-it) c.spared old)

  pub all-open : is_some (service ran.last.table a) ≡ true → is_some (service t a) ≡ true → AllByRecursion Open ran.passed
  all-open named_then named_first =
      let k = promised t r task h c in
      ⊎_elim
      (λ old. goes-back (λ stop. unnamed ran.last.table a (stop-gone r task.target t ran stop k.after) named_then) old)
      (λ not_old.
      let wants = wanted-named r task.target ran.ending (lacked_last ran.last.lacked) t ran.last.table a not_old k.says named_then in
      every-more (λ (p : Progress). Kept (service t) (want r task.target) t p.table) Open (λ p kept. kept a socket (named_first, wants) on) ran.passed k.kept)
      (old-or-not ran.ending)

-- the first standing of a life
first-standing :
    (stands : Table → Option Record → Type 0) (does : Table → Record → Task → Type 0) (t : Table) (state : Option Record) (tasks : List Task) →
    Through stands does t state tasks → stands t state
first-standing stands does t None tasks h = h
first-standing stands does t (Some r) [] h = h
first-standing stands does t (Some r) (task ∷ tasks) h = h.0

stays-open :
    (a : Address) (socket : ℕ) (tasks : List Task) (t : Table) (state : Option Record) → IfSome state (IsStanding t) →
    Through Anything IsCarriedOut t state tasks → Through (λ u x. is_some (service u a) ≡ true) (λ u s task. ⊤) t state tasks →
    is_open a socket t ≡ true →
    Through (λ u x. is_open a socket u ≡ true) (λ u s task. AllByRecursion (λ (p : Progress). is_open a socket p.table ≡ true) (run_at u s task).passed) t state tasks
stays-open a socket tasks t None h c named on = on
stays-open a socket [] t (Some r) h c named on = on
stays-open a socket (task ∷ tasks) t (Some r) h c named on =
    let all =
    all-open t r task h c.1 a socket on
    (first-standing (λ u x. is_some (service u a) ≡ true) (λ u s x. ⊤) (table_after t r task) (record_left_by t r task) tasks named.2) named.0 in (
      on,
      all,
      stays-open a socket tasks (table_after t r task) (record_left_by t r task) (stands-after t r task h c.1) c.2 named.2
          (last-passed (λ (p : Progress). is_open a socket p.table ≡ true) (handover_for r task.target) (plan_tree r task.target task.turns) task.pattern (start_at t r.note) all),
    )

pub lives-keep : LivesKeepTheirPromise
lives-keep t r tasks s c = record {
  stays_true = stays-true tasks t (Some r) s c;
  stays_open = λ a socket named on. stays-open a socket tasks t (Some r) s c named on;
  healable = stays-healable tasks t (Some r) s c;
  accounted = accounted (missing_workers r) tasks t (Some r) s (omega arith) c;
}
