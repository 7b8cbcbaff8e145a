use Rattle.std.proofs.Common.{refl}
use Rattle.std.proofs.lemmas.List.{get_or-replicate}
use Rattle.listener_set.proofs.SlotWrites.{none_slot, none-slots}
use Rattle.listener_set.proofs.slots.Slots.none.Goals as goal

pub invariant_of-result : goal.invariant_of-result
invariant_of-result c = none-slots _ refl (λ k lt. get_or-replicate 64 k 0 0 lt)

pub returns : goal.returns
returns c = none_slot _
