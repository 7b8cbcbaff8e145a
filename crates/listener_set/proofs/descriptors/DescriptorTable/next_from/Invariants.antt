use Rattle.std.proofs.Common.{◌≡◌, ℕ, ◌<◌, ◌≤◌, None}
use Rattle.listener_set.specs.Descriptors.{socket_of}
use Rattle.listener_set.proofs.descriptors.DescriptorTable.next_from.Given as goal

abbrev pub invariant-loop-descriptor : goal.invariant-loop-descriptor
invariant-loop-descriptor l = (k : ℕ) → l.bound ≤ k → k < l.descriptor → socket_of l.self k ≡ None
