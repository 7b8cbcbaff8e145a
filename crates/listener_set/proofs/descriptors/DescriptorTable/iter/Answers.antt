use Rattle.listener_set.proofs.DescriptorSlots.{are_descriptors}
use Rattle.listener_set.proofs.descriptors.DescriptorTable.iter.Goals as goal

pub returns-clause-descriptors : goal.returns-clause-descriptors
returns-clause-descriptors c = rw c.self.view_is at (are_descriptors c.self.inside.slots c.self.invariant)
