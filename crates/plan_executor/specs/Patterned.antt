-- The modelled kernel, called under a pattern.
use Rattle.std.specs.Prelude.{◌≡◌, ◌+◌, List, [], length}
use Rattle.std.proofs.Common.{refl, arith}
use Rattle.vocabulary.specs.declared.reports.Entry.{Entry}
use Rattle.plan_executor.specs.Replays.{Replays}
use Rattle.kernel_model.specs.Pattern.{moment_at}
use Rattle.plan_executor.specs.declared.patterned.Patterned.{Patterned}
use Rattle.handover_text.specs.Reading.{handed_by}

-- These calls led from the one state to the other, on the same kernel: each had the one answer that it can give there under the
-- pattern, and each took one room.
pub record CallsLed (first : Patterned) (entries : List Entry) (last : Patterned) : Type 0 where
  pub same_kernel : last.kernel.ghost_name ≡ first.kernel.ghost_name
  pub pattern : last.pattern.now ≡ first.pattern.now
  pub text : last.text.now ≡ first.text.now
  pub number : last.number ≡ first.number + length entries
  pub room : last.kernel.now.room + length entries ≡ first.kernel.now.room
  pub replays : Replays (handed_by first.text.now) (moment_at first.pattern.now) first.number first.kernel.now.table entries last.kernel.now.table

-- where no call was made, nothing changed
pub CallsLed-none : (p : Patterned) → CallsLed p [] p
CallsLed-none p = record { same_kernel = refl; pattern = refl; text = refl; number = omega arith; room = omega arith; replays = refl }
