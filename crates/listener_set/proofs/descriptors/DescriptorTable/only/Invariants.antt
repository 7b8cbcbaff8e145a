use Rattle.std.proofs.Common.{◌≡◌, filter}
use Rattle.listener_set.proofs.DescriptorPairs.{is_left}
use Rattle.listener_set.proofs.descriptors.DescriptorTable.only.Given as goal

abbrev pub invariant-loop-descriptor : goal.invariant-loop-descriptor
invariant-loop-descriptor l = l.table ≡ filter (is_left l.set l.descriptor) l.self
