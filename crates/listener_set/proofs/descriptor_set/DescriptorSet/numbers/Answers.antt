use Rattle.std.proofs.Common.{◌≡◌, true, false, sym, ap, ◌∙◌, arith, filter}
use Rattle.listener_set.specs.Numbers.{numbers_below, is_in, with_number}
use Rattle.listener_set.proofs.NumberSets.{filter_below-more}
use Rattle.listener_set.proofs.DescriptorWords.{none_low, all_again, are_descriptor_numbers}
use Rattle.listener_set.proofs.descriptor_set.DescriptorSet.numbers.Goals as goal
use Rattle.listener_set.proofs.descriptor_set.DescriptorSet.numbers.Goals.{then-has, else-has}

pub loop-descriptor-init : goal.loop-descriptor-init
loop-descriptor-init c = c.none-numbers.ensures ∙ sym (rw c.self.view_is at (none_low c.self.inside.word))

pub loop-descriptor-preserved : goal.loop-descriptor-preserved
loop-descriptor-preserved c =
    let d = c.loop-descriptor.descriptor in
    let fds = c.args.self.now in
    elim c.if-has.branch [
      | then-has w ↦
          w.numbers-is ∙ w.add.ensures ∙ ap (λ ns. with_number ns d) c.loop-descriptor.invariant
          ∙ sym (filter_below-more (is_in fds) d true (sym c.has.ensures ∙ w.if-has.true))
      | else-has w ↦ w.numbers-is ∙ c.loop-descriptor.invariant ∙ sym (filter_below-more (is_in fds) d false (sym c.has.ensures ∙ w.if-has.false))
    ]

pub returns-clause-numbers : goal.returns-clause-numbers
returns-clause-numbers c =
    let end : c.loop-descriptor.descriptor ≡ 67 = omega (arith, c.loop-descriptor.auto.descriptor-end, c.loop-descriptor-test.false) in
    c.loop-descriptor.invariant ∙ ap (λ n. filter (is_in c.args.self.now) (numbers_below n)) end ∙ rw c.self.view_is at (all_again c.self.inside.word)

pub returns-clause-descriptors : goal.returns-clause-descriptors
returns-clause-descriptors c = rw c.self.view_is at (are_descriptor_numbers c.self.inside.word)
