use Rattle.std.proofs.Common.{ap, ◌∙◌}
use Rattle.listener_set.specs.Numbers.{with_number}
use Rattle.listener_set.specs.DescriptorSetLemmas.{with_descriptor-fits}
use Rattle.listener_set.proofs.DescriptorWords.{descriptors_in-with_descriptor}
use Rattle.listener_set.proofs.descriptor_set.DescriptorSet.add.Goals as goal

pub invariant_of-self : goal.invariant_of-self
invariant_of-self c = with_descriptor-fits c.self.inside.word c.args.descriptor c.self.invariant

pub returns : goal.returns
returns c =
    descriptors_in-with_descriptor c.self.inside.word c.args.descriptor c.requires.0 c.requires.1
    ∙ ap (λ fds. with_number fds c.args.descriptor) c.self.view_is
