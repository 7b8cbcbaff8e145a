-- Why a target is not carried out.
use Rattle.std.specs.Prelude.{ℕ, ◌≡◌, List, Some}
use Rattle.definitions.specs.Table.{Table}
use Rattle.definitions.specs.Master.{Record, Agrees}
use Rattle.vocabulary.specs.declared.targets.Target.{Target}
use Rattle.definitions.specs.Plans.{Turn}
use Rattle.call_laws.specs.Lengths.{plan_length}
use Rattle.definitions.specs.Run.{Pattern}
use Rattle.definitions.specs.Claims.{refusal_of}
use Rattle.kernel_model.specs.Room.{LacksNumbers}
use Rattle.kernel_model.specs.declared.refusal.ReserveRefusal.{ReserveRefusal}
use Rattle.kernel_model.specs.declared.refusal.ReserveRefusal.TheVariants as reserve
use Rattle.reload_planner.specs.declared.refusal.PlanRefusal.{PlanRefusal}
pub use Rattle.upgrade_planner.specs.Planned.{HasPlan, HasNoPlan}
use Rattle.plan_executor.specs.declared.enactment.EnactRefusal.{EnactRefusal}
use Rattle.plan_executor.specs.declared.enactment.EnactRefusal.TheVariants.{Memory, RecordDisagrees, Plan, MasterNamed, NoNumbers}

-- The record agrees, and no planner refuses the target: what is refused then is found out only behind the plan's memory.
pub record IsPlannable (t : Table) (r : Record) (target : Target) : Type 0 where
  pub agrees : Agrees t r
  pub spared : (refusal : PlanRefusal) → HasNoPlan r target refusal → ⊥

-- The record agrees, and a planner refuses the target.
pub record IsUnplanned (t : Table) (r : Record) (target : Target) (refusal : PlanRefusal) : Type 0 where
  pub agrees : Agrees t r
  pub no_plan : HasNoPlan r target refusal

-- The record agrees and there is a plan, but fewer process or socket numbers are left than its longest path has steps.
pub record IsShortOfNumbers (t : Table) (r : Record) (target : Target) : Type 0 where
  pub agrees : Agrees t r
  pub has_plan : HasPlan r target
  pub lacks : LacksNumbers t (plan_length r target)

-- The record agrees and there is a plan, for which enough numbers are left, but the run by the turns under the pattern has moments in
-- which an executing master exits, and this is the first.
pub record NamesMaster (t : Table) (r : Record) (target : Target) (turns : List Turn) (pattern : Pattern) (moment : ℕ) : Type 0 where
  pub agrees : Agrees t r
  pub has_plan : HasPlan r target
  pub numbers : LacksNumbers t (plan_length r target) → ⊥
  pub first : refusal_of r target turns pattern t ≡ Some moment

-- When a target is refused so, want of memory aside. No two of these hold at once.
abbrev pub IsRefused : Table → Record → Target → List Turn → Pattern → EnactRefusal → Type 0
IsRefused t r target turns pattern Memory = ⊥
IsRefused t r target turns pattern RecordDisagrees = Agrees t r → ⊥
IsRefused t r target turns pattern (Plan refusal) = IsUnplanned t r target refusal
IsRefused t r target turns pattern NoNumbers = IsShortOfNumbers t r target
IsRefused t r target turns pattern (MasterNamed moment) = NamesMaster t r target turns pattern moment

-- what a kernel's refusal of room comes to
abbrev pub without_room : ReserveRefusal → EnactRefusal
without_room reserve.NoNumbers = NoNumbers
without_room reserve.Memory = Memory
