-- At most one refusal fits, and none where a target is carried out.
use Rattle.std.proofs.Common.{◌≡◌, ◌⊎◌, inl, inr, List, Result, Ok, Err, refl, sym, ◌∙◌, ap, subst}
use Rattle.std.specs.Prelude.{◌↔◌, true}
use Rattle.std.specs.Result.{IsErrOf}
use Rattle.std.proofs.lemmas.Option.{none-some, same_Some}
use Rattle.definitions.specs.Table.{Table}
use Rattle.definitions.specs.Master.{Record, Agrees}
use Rattle.vocabulary.specs.declared.targets.Target.{Target}
use Rattle.definitions.specs.Plans.{Turn}
use Rattle.call_laws.specs.Lengths.{plan_length}
use Rattle.service_state.specs.Targets.{lacks_generation}
use Rattle.std.proofs.lemmas.Bool.{false≢true}
use Rattle.definitions.specs.Run.{Pattern}
use Rattle.kernel_model.specs.Room.{LacksNumbers}
use Rattle.kernel_model.specs.State.{State}
use Rattle.reload_planner.specs.declared.refusal.PlanRefusal.{PlanRefusal}
use Rattle.reload_planner.specs.declared.refusal.PlanRefusal.TheVariants as planner
use Rattle.word_runner.specs.declared.enactor.Enacted.{Enacted}
use Rattle.plan_executor.specs.declared.enactment.EnactRefusal.{EnactRefusal}
use Rattle.plan_executor.specs.declared.enactment.EnactRefusal.TheVariants.{Memory, RecordDisagrees, Plan, MasterNamed, NoNumbers}
use Rattle.plan_executor.specs.Refusals.{HasPlan, HasNoPlan, IsRefused}
use Rattle.plan_executor.specs.Enacted.{IsEnacted}

-- the result of an enactment is a refusal exactly where that fits, want of memory aside
abbrev pub IsExact : Table → Record → Target → List Turn → Pattern → Result Enacted EnactRefusal → Type 0
IsExact t r target turns pattern result = (why : EnactRefusal) → IsErrOf result Memory ⊎ (IsErrOf result why ↔ IsRefused t r target turns pattern why)

---- One refusal alone

-- a planner that refuses a target makes no plan of it
pub no_plan : (r : Record) (target : Target) (p : PlanRefusal) → HasNoPlan r target p → HasPlan r target → ⊥
no_plan r target planner.Unplanned none plan = none
no_plan r target planner.TooLarge none plan = none
no_plan r target planner.NoGeneration none plan = false≢true (sym plan ∙ none)
no_plan r target planner.Memory none plan = none

one_planless : (r : Record) (target : Target) (p q : PlanRefusal) → HasNoPlan r target p → HasNoPlan r target q → p ≡ q
one_planless r target planner.Unplanned q none also = absurd none
one_planless r target planner.TooLarge q none also = absurd none
one_planless r target planner.NoGeneration planner.Unplanned none also = absurd also
one_planless r target planner.NoGeneration planner.TooLarge none also = absurd also
one_planless r target planner.NoGeneration planner.NoGeneration none also = refl
one_planless r target planner.NoGeneration planner.Memory none also = absurd also
one_planless r target planner.Memory q none also = absurd none

one : (t : Table) (r : Record) (target : Target) (turns : List Turn) (pattern : Pattern) (why other : EnactRefusal) →
    IsRefused t r target turns pattern why → IsRefused t r target turns pattern other → why ≡ other
one t r target turns pattern Memory other h h' = absurd h
one t r target turns pattern RecordDisagrees Memory h h' = absurd h'
one t r target turns pattern RecordDisagrees RecordDisagrees h h' = refl
one t r target turns pattern RecordDisagrees (Plan q) h h' = absurd (h h'.agrees)
one t r target turns pattern RecordDisagrees NoNumbers h h' = absurd (h h'.agrees)
one t r target turns pattern RecordDisagrees (MasterNamed k) h h' = absurd (h h'.agrees)
one t r target turns pattern (Plan p) Memory h h' = absurd h'
one t r target turns pattern (Plan p) RecordDisagrees h h' = absurd (h' h.agrees)
one t r target turns pattern (Plan p) (Plan q) h h' = ap Plan (one_planless r target p q h.no_plan h'.no_plan)
one t r target turns pattern (Plan p) NoNumbers h h' = absurd (no_plan r target p h.no_plan h'.has_plan)
one t r target turns pattern (Plan p) (MasterNamed k) h h' = absurd (no_plan r target p h.no_plan h'.has_plan)
one t r target turns pattern NoNumbers Memory h h' = absurd h'
one t r target turns pattern NoNumbers RecordDisagrees h h' = absurd (h' h.agrees)
one t r target turns pattern NoNumbers (Plan q) h h' = absurd (no_plan r target q h'.no_plan h.has_plan)
one t r target turns pattern NoNumbers NoNumbers h h' = refl
one t r target turns pattern NoNumbers (MasterNamed k) h h' = absurd (h'.numbers h.lacks)
one t r target turns pattern (MasterNamed j) Memory h h' = absurd h'
one t r target turns pattern (MasterNamed j) RecordDisagrees h h' = absurd (h' h.agrees)
one t r target turns pattern (MasterNamed j) (Plan q) h h' = absurd (no_plan r target q h'.no_plan h.has_plan)
one t r target turns pattern (MasterNamed j) NoNumbers h h' = absurd (h.numbers h'.lacks)
one t r target turns pattern (MasterNamed j) (MasterNamed k) h h' = ap MasterNamed (same_Some j k (sym h.first ∙ h'.first))

-- none where it is carried out
none_fits : (first last : State) (r : Record) (target : Target) (turns : List Turn) (pattern : Pattern) (e : Enacted) →
    IsEnacted first last r target turns pattern e → (why : EnactRefusal) →
    IsRefused first.table r target turns pattern why → ⊥
none_fits first last r target turns pattern e is Memory h = h
none_fits first last r target turns pattern e is RecordDisagrees h = h is.agrees
none_fits first last r target turns pattern e is (Plan p) h = no_plan r target p h.no_plan is.has_plan
none_fits first last r target turns pattern e is NoNumbers h = is.numbers h.lacks
none_fits first last r target turns pattern e is (MasterNamed k) h = none-some k (sym is.spared ∙ h.first)

---- What an enactment answers

-- It is a refusal exactly where that fits.
abbrev pub IsOnly : Table → Record → Target → List Turn → Pattern → Result Enacted EnactRefusal → Type 0
IsOnly t r target turns pattern result = (why : EnactRefusal) → IsErrOf result why ↔ IsRefused t r target turns pattern why

pub only-refused : (t : Table) (r : Record) (target : Target) (turns : List Turn) (pattern : Pattern)
    (because : EnactRefusal) → IsRefused t r target turns pattern because →
    IsOnly t r target turns pattern (Err because)
only-refused t r target turns pattern because is why =
    (λ h. let same : because ≡ why = cc in subst (IsRefused t r target turns pattern) same is, λ h. let same : because ≡ why = one t r target turns pattern because why is h in cc)

pub only-enacted : (first last : State) (r : Record) (target : Target) (turns : List Turn) (pattern : Pattern)
    (e : Enacted) → IsEnacted first last r target turns pattern e → IsOnly first.table r target turns pattern (Ok e)
only-enacted first last r target turns pattern e is why = (λ h. cc, λ h. absurd (none_fits first last r target turns pattern e is why h))

---- What refuses before a section is looked at

-- Memory is wanted, or it is refused so in whatever section.
abbrev pub IsUnprepared : Table → Record → Target → EnactRefusal → Type 0
IsUnprepared t r target because = (because ≡ Memory) ⊎ ((turns : List Turn) (pattern : Pattern) → IsRefused t r target turns pattern because)

pub planless : (t : Table) (r : Record) (target : Target) (because : EnactRefusal) → Agrees t r → (because ≡ Memory) ⊎
    ((refusal : PlanRefusal) × (because ≡ Plan refusal) × HasNoPlan r target refusal) → IsUnprepared t r target because
planless t r target because agrees (inl memory) = inl memory
planless t r target because agrees (inr h) = inr (λ turns pattern. subst (IsRefused t r target turns pattern) (sym h.1) (record { agrees = agrees; no_plan = h.2 }))

pub short : (t : Table) (r : Record) (target : Target) (because : EnactRefusal) → Agrees t r → HasPlan r target →
    (because ≡ Memory) ⊎ ((because ≡ NoNumbers) × LacksNumbers t (plan_length r target)) →
    IsUnprepared t r target because
short t r target because agrees plan (inl memory) = inl memory
short t r target because agrees plan (inr h) = inr (λ turns pattern. subst (IsRefused t r target turns pattern) (sym h.0) (record { agrees = agrees; has_plan = plan; lacks = h.1 }))

-- so it is in a section
pub unprepared-so : (t : Table) (r : Record) (target : Target) (turns : List Turn) (pattern : Pattern)
    (because : EnactRefusal) → IsUnprepared t r target because → (because ≡ Memory) ⊎
    IsRefused t r target turns pattern because
unprepared-so t r target turns pattern because (inl memory) = inl memory
unprepared-so t r target turns pattern because (inr is) = inr (is turns pattern)

pub refused-exact : (t : Table) (r : Record) (target : Target) (turns : List Turn) (pattern : Pattern)
    (because : EnactRefusal) → (because ≡ Memory) ⊎ IsRefused t r target turns pattern because →
    IsExact t r target turns pattern (Err because)
refused-exact t r target turns pattern because (inl memory) why = inl (ap Err memory)
refused-exact t r target turns pattern because (inr is) why = inr (only-refused t r target turns pattern because is why)

-- where a planner wants memory it refuses nothing
pub unspared : {T : Type 0} (r : Record) (target : Target) (result : Result T EnactRefusal) →
    (IsErrOf result (Plan planner.NoGeneration) ↔ (lacks_generation r target ≡ true)) → IsErrOf result Memory →
    (p : PlanRefusal) → HasNoPlan r target p → ⊥
unspared r target result numbered memory planner.Unplanned none = none
unspared r target result numbered memory planner.TooLarge none = none
unspared r target result numbered memory planner.NoGeneration none = let planless = numbered.1 none in cc
unspared r target result numbered memory planner.Memory none = none
