-- What the calls of a run meet.
use Rattle.std.proofs.Common.{◌≡◌, ◌≢◌, ◌≤◌, ◌<◌, ℕ, Bool, List, [], Option, Some, None, refl, ap, ◌∙◌, arith}
use Rattle.std.specs.Prelude.{◌==◌, if◌then◌else◌}
use Rattle.std.proofs.lemmas.Bool.{le-ltb}
use Rattle.table_laws.proofs.Views.{eqb-off, eqb-refl}
use Rattle.definitions.specs.Table.{Table}
use Rattle.definitions.specs.Calls.{Call, Handed}
use Rattle.definitions.specs.Run.{Tree, Ends, Does, Pattern, Progress}
use Rattle.plan_walk.specs.Path.{IsOver}
use Rattle.definitions.specs.Master.{handover_for}
use Rattle.plan_walk.specs.Course.{trail_on}
use Rattle.plan_executor.specs.Naming.{listed}
use Rattle.explorer.specs.declared.events.Event.{Event}
use Rattle.explorer.specs.declared.position.Position.{Position}
use Rattle.explorer.specs.Events.{pattern_of, with_event, with_mishap, open_at, beside, mishaps_at, met}
use Rattle.explorer.specs.Positions.{IsSameUpTo, IsQuietFrom, left, rest_run}

---- Patterns of events

before : (n m : ℕ) → m < n → m ≢ n
before n m lt same = omega (arith, lt, same)

behind : (n m : ℕ) → n < m → m ≢ n
behind n m lt same = omega (arith, lt, same)

pub other : (e : Event) (q : Pattern) (m : ℕ) → m ≢ e.number → with_event e q m ≡ q m
other e q m not = ap (λ (b : Bool). if b then with_mishap e.mishap (q m) else q m) (eqb-off m e.number not)

pub at-event : (e : Event) (q : Pattern) (m : ℕ) → m ≡ e.number → with_event e q m ≡ with_mishap e.mishap (q m)
at-event e q m is = ap (λ (b : Bool). if b then with_mishap e.mishap (q m) else q m) (eqb-refl m e.number is)

-- A pattern with one event more is the same before it.
pub same-before : (e : Event) (q : Pattern) (n : ℕ) → n < e.number → IsSameUpTo n q (with_event e q)
same-before e q n lt m le = other e q m (before e.number m (omega (arith, lt, le)))

pub quiet-behind : (e : Event) (q : Pattern) (n : ℕ) → e.number ≤ n → IsQuietFrom n q → IsQuietFrom n (with_event e q)
quiet-behind e q n le is m lt = other e q m (behind e.number m (omega (arith, lt, le))) ∙ is m lt

---- What is met

none-left : (handed : Handed) (last : Option Event) (q : Pattern) (heirs : List ℕ) (n : ℕ) (t : Table)
    (rest : Option Tree) (p : Progress) → IsOver rest →
    met handed last q heirs n t (rest_run handed rest q p).entries ≡ []
none-left handed last q heirs n t None p over = refl
none-left handed last q heirs n t (Some (Ends end)) p over = refl
none-left handed last q heirs n t (Some (Does by order set branches)) p over = absurd over

pub left-over : (run : Position) (p : Progress) (last : Option Event) → IsOver (trail_on run.course).rest → left run p last ≡ []
left-over run p last over = none-left (handover_for run.state.now run.target.now) last (pattern_of run.tried) (listed run.heir) run.made run.kernel.table (trail_on run.course).rest p over

-- behind an event all is open
pub open-behind : (handed : Handed) (by : ℕ) (call : Call) (heirs : List ℕ) (e : Event) (n : ℕ) (t : Table) →
    e.number < n → open_at handed by call heirs (Some e) n t ≡ mishaps_at handed by call heirs 0 t
open-behind handed by call heirs e n t lt =
    ap (λ (b : Bool). if b then [] else if n == e.number then beside handed by call heirs e.mishap t else mishaps_at handed by call heirs 0 t) (le-ltb n e.number (omega (arith, lt)))
    ∙ ap (λ (b : Bool). if b then beside handed by call heirs e.mishap t else mishaps_at handed by call heirs 0 t) (eqb-off n e.number (behind e.number n lt))

-- at its own call what is open beside it
pub open-beside : (handed : Handed) (by : ℕ) (call : Call) (heirs : List ℕ) (e : Event) (n : ℕ) (t : Table) →
    n ≡ e.number → open_at handed by call heirs (Some e) n t ≡ beside handed by call heirs e.mishap t
open-beside handed by call heirs e n t is =
    ap (λ (b : Bool). if b then [] else if n == e.number then beside handed by call heirs e.mishap t else mishaps_at handed by call heirs 0 t) (le-ltb n e.number (omega (arith, is)))
    ∙ ap (λ (b : Bool). if b then beside handed by call heirs e.mishap t else mishaps_at handed by call heirs 0 t) (eqb-refl n e.number is)
