use Rattle.listener_set.proofs.DescriptorWords.{none_in_zero}
use Rattle.listener_set.proofs.descriptor_set.DescriptorSet.is_empty.Goals as goal

pub returns : goal.returns
returns c = rw c.self.view_is at (none_in_zero c.self.inside.word c.self.invariant)
