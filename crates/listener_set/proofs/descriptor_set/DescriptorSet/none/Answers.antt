use Rattle.listener_set.proofs.DescriptorWords.{descriptors_in-zero}
use Rattle.listener_set.proofs.descriptor_set.DescriptorSet.none.Goals as goal

pub returns : goal.returns
returns c = descriptors_in-zero
