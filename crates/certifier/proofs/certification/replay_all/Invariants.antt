use Rattle.std.proofs.Common.{◌≡◌, ◌+◌, take}
use Rattle.handover_text.specs.Reading.{handed_by}
use Rattle.rollback_plan.specs.Plans.{length_of, sides_told, text_of}
use Rattle.plan_executor.specs.Naming.{listed}
use Rattle.certifier.specs.Places.{planned_start, HasTaken}
use Rattle.certifier.proofs.certification.replay_all.Given as goal

abbrev pub invariant-loop-place : goal.invariant-loop-place
invariant-loop-place l =
    HasTaken (handed_by (text_of l.plan)) (listed l.fn.heir) (sides_told l.plan) (planned_start l.plan l.fn.kernel.table l.image) (take l.place l.log.entries) l.replay
    × (l.replay.kernel.room + l.place ≡ length_of l.plan)
