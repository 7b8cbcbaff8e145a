use Rattle.std.proofs.Common.{◌≡◌, ◌++◌}
use Rattle.listener_set.specs.DescriptorSetLemmas.{AreAllDescriptors}
use Rattle.listener_set.proofs.descriptor_set.DescriptorSet.of.Given as goal

abbrev pub invariant-loop-number : goal.invariant-loop-number
invariant-loop-number l = record {
  split : l.yielded ++ l.number-iterator ≡ l.numbers;
  set : l.set ≡ l.yielded;
  all : AreAllDescriptors l.yielded;
}
