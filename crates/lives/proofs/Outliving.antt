-- Lives in which masters die, by induction on what befalls them.
use Rattle.std.proofs.Common.{◌≡◌, ℕ, zero, suc, true, List, [], ◌∷◌, Option, Some, None, refl, sym, ap, ◌∙◌}
use Rattle.std.specs.Prelude.{⊤, IfSome, is_some}
use Rattle.std.specs.List.{AllByRecursion}
use Rattle.listener_set.specs.AddressList.{has}
use Rattle.vocabulary.specs.Settings.{Settings, IsInRange}
use Rattle.definitions.specs.Table.{Address, Table, service}
use Rattle.definitions.specs.Master.{Record, addresses_of, handover_for}
use Rattle.definitions.specs.Plans.{plan_tree}
use Rattle.definitions.specs.Run.{Progress, start_at}
use Rattle.table_laws.proofs.Rows.{every-more}
use Rattle.theorems.proofs.Ends.{first-held, first-keys}
use Rattle.lives.specs.Lives.{Task, IsStanding, CanBeHealed, is_open, run_at}
use Rattle.lives.specs.Deaths.{kept_socket, AreAllKept, restarted, restarted_record, CanTakeOver, Deed, Carries, Dies, passed_at, table_at_death, deed_run, table_then, record_then, CanBefall, Throughout, LivesWithDeaths}
use Rattle.lives.proofs.Standing.{stands-after}
use Rattle.lives.proofs.Healing.{heals}
use Rattle.lives.proofs.Living.{all-open, last-passed}
use Rattle.lives.proofs.Leftovers.{strangers, kept-by, all-those}
use Rattle.lives.proofs.Restart.{listed, restarted-kept, takes-over, deaths-survived}

-- what holds in each table that is passed holds at a place
at-place : (P : Table → Type 0) (n : ℕ) (passed : List Progress) (first : Table) → P first → AllByRecursion (λ (p : Progress). P p.table) passed → P (passed_at n passed first)
at-place P n [] first h all = h
at-place P zero (p ∷ rest) first h all = all.0
at-place P (suc n) (p ∷ rest) first h all = at-place P n rest first h all.1

-- at any place of a run a master can take over
takes-over-at :
    (t : Table) (r : Record) (task : Task) (place : ℕ) (s : Settings) → IsStanding t r → IsInRange s → AreAllKept s.listeners t →
    CanTakeOver s t (table_at_death t r task place)
takes-over-at t r task place s stands range kept =
    at-place (CanTakeOver s t) place (run_at t r task).passed t (takes-over s range t t kept stands.kept refl)
    (deaths-survived t r task.target task.turns task.pattern s stands.kept range kept)

-- each deed leads to a standing
stands-then : (t : Table) (r : Record) (e : Deed) → IsStanding t r → CanBefall t r e → IfSome (record_then t r e) (IsStanding (table_then t r e))
stands-then t r (Carries task) s c = stands-after t r task s c
stands-then t r (Dies task place x g) s c = (takes-over-at t r task place x s c.0 c.1).standing g

-- a fact of each standing
at-standings :
    (P : Table → Record → Type 0) → ((t : Table) (r : Record) → IsStanding t r → P t r) → (deeds : List Deed) (t : Table) (state : Option Record) →
    IfSome state (IsStanding t) → Throughout (λ u x. ⊤) CanBefall t state deeds → Throughout (λ u x. IfSome x (P u)) (λ u x e. ⊤) t state deeds
at-standings P up deeds t None h c = tt
at-standings P up [] t (Some r) h c = up t r h
at-standings P up (e ∷ deeds) t (Some r) h c =
    (up t r h, tt, at-standings P up deeds (table_then t r e) (record_then t r e) (stands-then t r e h c.1) c.2)

-- nobody touches what is kept
kept-on : (t : Table) (r : Record) (task : Task) (a : Address) (socket : ℕ) → kept_socket a t.rows ≡ Some socket →
    AllByRecursion (λ (p : Progress). kept_socket a p.table.rows ≡ Some socket) (run_at t r task).passed
kept-on t r task a socket e =
    every-more (λ (p : Progress). strangers p.table.rows ≡ strangers t.rows) (λ (p : Progress). kept_socket a p.table.rows ≡ Some socket)
    (λ p same. sym (kept-by a p.table.rows) ∙ ap (kept_socket a) same ∙ kept-by a t.rows ∙ e) (run_at t r task).passed
    (all-those (strangers t.rows) (handover_for r task.target) (plan_tree r task.target task.turns) task.pattern (start_at t r.note) refl)

kept-all : (t : Table) (r : Record) (e : Deed) (a : Address) (socket : ℕ) → kept_socket a t.rows ≡ Some socket →
    AllByRecursion (λ (p : Progress). kept_socket a p.table.rows ≡ Some socket) (deed_run t r e).passed
kept-all t r (Carries task) a socket h = kept-on t r task a socket h
kept-all t r (Dies task place s g) a socket h = kept-on t r task a socket h

-- what a new master's service names is one of its addresses
named-is :
    (u : Table) (r : Record) (s : IsStanding u r) (l : List Address) → addresses_of r ≡ l → (a : Address) → is_some (service u a) ≡ true → has l a ≡ true
named-is u r s l is a named = ap (λ x. has x a) (sym is) ∙ (sym (first-keys u r s.start a) ∙ first-held u r s.start a named)

first-of :
    (stands : Table → Option Record → Type 0) (does : Table → Record → Deed → Type 0) (t : Table) (state : Option Record) (deeds : List Deed) →
    Throughout stands does t state deeds → stands t state
first-of stands does t None deeds h = h
first-of stands does t (Some r) [] h = h
first-of stands does t (Some r) (e ∷ deeds) h = h.0

-- the address after a deed
record After (t : Table) (a : Address) (socket : ℕ) : Type 0 where
  opened : is_open a socket t ≡ true
  kept : kept_socket a t.rows ≡ Some socket

then-kept :
    (t : Table) (r : Record) (e : Deed) (a : Address) (socket : ℕ) → IsStanding t r → CanBefall t r e → is_some (service t a) ≡ true →
    is_some (service (table_then t r e) a) ≡ true → After t a socket → After (table_then t r e) a socket
then-kept t r (Carries task) a socket s c named_first named_then h = record {
  opened =
      last-passed (λ (p : Progress). is_open a socket p.table ≡ true) (handover_for r task.target) (plan_tree r task.target task.turns) task.pattern (start_at t r.note)
      (all-open t r task s c a socket h.opened named_then named_first);
  kept =
      last-passed (λ (p : Progress). kept_socket a p.table.rows ≡ Some socket) (handover_for r task.target) (plan_tree r task.target task.turns) task.pattern (start_at t r.note)
      (kept-on t r task a socket h.kept);
}
then-kept t r (Dies task place x g) a socket s c named_first named_then h =
    let u = table_at_death t r task place in
    let k = takes-over-at t r task place x s c.0 c.1 in
    let mine = named-is (restarted x g u) (restarted_record x g u) (k.standing g) x.listeners (listed 3 x.listeners) a named_then in
    record {
      opened = k.opened g a socket mine h.kept;
      kept = restarted-kept x g u a ∙ k.kept a ∙ h.kept;
    }

stays-kept :
    (a : Address) (socket : ℕ) (deeds : List Deed) (t : Table) (state : Option Record) → IfSome state (IsStanding t) →
    Throughout (λ u x. ⊤) CanBefall t state deeds → Throughout (λ u x. is_some (service u a) ≡ true) (λ u x e. ⊤) t state deeds → After t a socket →
    Throughout (λ u x. is_open a socket u ≡ true) (λ u x e. AllByRecursion (λ (p : Progress). kept_socket a p.table.rows ≡ Some socket) (deed_run u x e).passed) t state deeds
stays-kept a socket deeds t None h c named on = on.opened
stays-kept a socket [] t (Some r) h c named on = on.opened
stays-kept a socket (e ∷ deeds) t (Some r) h c named on =
    let later = first-of (λ u x. is_some (service u a) ≡ true) (λ u x z. ⊤) (table_then t r e) (record_then t r e) deeds named.2 in (
      on.opened,
      kept-all t r e a socket on.kept,
      stays-kept a socket deeds (table_then t r e) (record_then t r e) (stands-then t r e h c.1) c.2 named.2 (then-kept t r e a socket h c.1 named.0 later on),
    )

pub lives-with-deaths : LivesWithDeaths
lives-with-deaths t r deeds s c = record {
  standing = at-standings IsStanding (λ u x h. h) deeds t (Some r) s c;
  healable = at-standings CanBeHealed heals deeds t (Some r) s c;
  stays_kept = λ a socket named on kept. stays-kept a socket deeds t (Some r) s c named (record { opened = on; kept = kept });
}
