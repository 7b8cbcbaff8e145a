use Rattle.std.proofs.Common.{sym, ap, ◌∙◌, nat_eq, ◌-◌}
use Rattle.std.proofs.lemmas.Nat.Bits.{shr_and_one}
use Rattle.listener_set.specs.Numbers.{is_in}
use Rattle.listener_set.specs.DescriptorSetLemmas.{high_bit, is_in-descriptors_in}
use Rattle.listener_set.proofs.descriptor_set.DescriptorSet.has.Goals as goal

pub returns : goal.returns
returns c =
    ap (λ b. nat_eq b 1) (shr_and_one _ (c.args.descriptor - 3))
    ∙ sym (high_bit c.self.inside.word c.args.descriptor c.requires.0)
    ∙ sym (is_in-descriptors_in c.self.inside.word c.args.descriptor c.requires.1)
    ∙ ap (λ fds. is_in fds c.args.descriptor) c.self.view_is
