use Rattle.std.proofs.Common.{sym, ◌∙◌, arith}
use Rattle.listener_set.proofs.DescriptorSlots.{are_descriptors}
use Rattle.listener_set.proofs.DescriptorPairs.{pair_from-none, pair_from-some}
use Rattle.listener_set.proofs.descriptors.DescriptorTable.next_from.Goals as goal

pub returns-in-Some-clause-lowest : goal.returns-in-Some-clause-lowest
returns-in-Some-clause-lowest c =
    sym (pair_from-some c.args.self.now 3 c.args.bound c.loop-descriptor.descriptor c.in-Some.socket c.get.ensures.descriptors.rising c.loop-descriptor.auto.descriptor
    (sym c.get.ensures.socket ∙ c.in-Some.is) c.loop-descriptor.invariant)

pub returns-clause-lowest : goal.returns-clause-lowest
returns-clause-lowest c =
    let are = rw c.self.view_is at (are_descriptors c.self.inside.slots c.self.invariant) in
    sym (pair_from-none c.args.self.now c.args.bound 67 are.below (λ k from lt. c.loop-descriptor.invariant k from (omega arith)))

pub returns-clause-descriptors : goal.returns-clause-descriptors
returns-clause-descriptors c = rw c.self.view_is at (are_descriptors c.self.inside.slots c.self.invariant)
