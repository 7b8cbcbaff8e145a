-- What is made ready before a target is carried out.
use Rattle.std.specs.Prelude.{◌≡◌, List, []}
use Rattle.vocabulary.specs.declared.targets.Target.{Target}
use Rattle.definitions.specs.Master.{Record, sides_of, handover_for}
use Rattle.handover_text.specs.Reading.{Hands}
use Rattle.definitions.specs.Plans.{plan_tree, Turn}
use Rattle.call_laws.specs.Lengths.{plan_length}
use Rattle.definitions.specs.Claims.{IsStart, HasDescriptors}
use Rattle.kernel_model.specs.Room.{LacksNumbers}
use Rattle.kernel_model.specs.State.{State}
use Rattle.plan_walk.specs.Log.{Told}
use Rattle.rollback_plan.specs.declared.plan.Plan.{Plan}
use Rattle.rollback_plan.specs.Plans.{tree_under, length_of, note_of, sides_told, text_of}
use Rattle.plan_executor.specs.Refusals.{HasPlan}

-- The target has a plan, and this is it, whatever turns the masters take.
pub record IsPlanFor (r : Record) (target : Target) (plan : Plan) : Type 0 where
  pub has_plan : HasPlan r target
  pub tree : (turns : List Turn) → tree_under plan turns ≡ plan_tree r target turns
  pub longest : length_of plan ≡ plan_length r target
  pub note : note_of plan ≡ r.note
  pub sides : sides_told plan ≡ sides_of r target
  pub hands : Hands (text_of plan) (handover_for r target)

-- The record is true of the kernel, the plan is the target's, and there are numbers and room for its longest path, in the kernel
-- and in a log that is empty.
pub record IsReady (first : State) (r : Record) (target : Target) (plan : Plan) (log : Told) : Type 0 where
  pub start : IsStart first.table r
  pub descriptors : HasDescriptors first.table r
  pub planned : IsPlanFor r target plan
  pub numbers : LacksNumbers first.table (plan_length r target) → ⊥
  pub room : first.room ≡ plan_length r target
  pub empty : log ≡ record { entries = []; room = plan_length r target }
