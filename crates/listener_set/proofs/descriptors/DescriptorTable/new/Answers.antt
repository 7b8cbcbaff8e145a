use Rattle.std.proofs.Common.{ap, ◌∙◌}
use Rattle.listener_set.specs.Descriptors.{pairs_of}
use Rattle.listener_set.proofs.DescriptorSlots.{pairs_of-empty}
use Rattle.listener_set.proofs.descriptors.DescriptorTable.new.Goals as goal

pub returns : goal.returns
returns c = ap (pairs_of 3) c.none.ensures ∙ pairs_of-empty 3 64
