use Rattle.std.proofs.Common.{◌≡◌, sym, ap, ◌∙◌, arith, filter}
use Rattle.listener_set.specs.Descriptors.{without_descriptor, AreDescriptors}
use Rattle.listener_set.proofs.DescriptorSlots.{are_descriptors}
use Rattle.listener_set.proofs.DescriptorPairs.{is_left, left-all, left-none, left-kept, left-taken}
use Rattle.listener_set.proofs.descriptors.DescriptorTable.only.Goals as goal
use Rattle.listener_set.proofs.descriptors.DescriptorTable.only.Goals.{then-not-has, else-not-has}

pub loop-descriptor-init : goal.loop-descriptor-init
loop-descriptor-init c =
    let are : AreDescriptors c.args.self.now = rw c.self.view_is at (are_descriptors c.self.inside.slots c.self.invariant) in
    c.self.view_is ∙ left-all c.args.set.now c.args.self.now 3 3 (omega arith) are.rising

pub loop-descriptor-preserved : goal.loop-descriptor-preserved
loop-descriptor-preserved c =
    let d = c.loop-descriptor.descriptor in
    let fds = c.args.set.now in
    elim c.if-not-has.branch [
      | then-not-has w ↦
          w.table-is ∙ w.take.ensures.after ∙ ap (λ ps. without_descriptor ps d) c.loop-descriptor.invariant
          ∙ left-taken fds c.args.self.now d (sym w.if-not-has.ensures)
      | else-not-has w ↦ w.table-is ∙ c.loop-descriptor.invariant ∙ left-kept fds c.args.self.now d (sym w.if-not-has.ensures)
    ]

pub returns : goal.returns
returns c =
    let are : AreDescriptors c.args.self.now = rw c.self.view_is at (are_descriptors c.self.inside.slots c.self.invariant) in
    let end : c.loop-descriptor.descriptor ≡ 67 = omega (arith, c.loop-descriptor.auto.descriptor-end, c.loop-descriptor-test.false) in
    c.loop-descriptor.invariant ∙ ap (λ n. filter (is_left c.args.set.now n) c.args.self.now) end ∙ left-none c.args.set.now c.args.self.now 67 are.below
