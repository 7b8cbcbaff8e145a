use Rattle.std.proofs.Common.{◌≡◌, filter}
use Rattle.listener_set.specs.Numbers.{numbers_below, is_in}
use Rattle.listener_set.proofs.descriptor_set.DescriptorSet.numbers.Given as goal

abbrev pub invariant-loop-descriptor : goal.invariant-loop-descriptor
invariant-loop-descriptor l = l.numbers ≡ filter (is_in l.self) (numbers_below l.descriptor)
