use Rattle.std.proofs.Common.{◌≡◌, ◌≤◌, ◌<◌, ℕ}
use Rattle.listener_set.specs.Descriptors.{AreDescriptors, socket_of}
use Rattle.kernel_agreement.proofs.agreement.same_holds.Given as goal

abbrev pub invariant-loop-descriptor : goal.invariant-loop-descriptor
invariant-loop-descriptor l = record {
  holds : AreDescriptors l.holds;
  others : AreDescriptors l.others;
  same : (d : ℕ) → 3 ≤ d → d < l.descriptor → socket_of l.holds d ≡ socket_of l.others d;
}
