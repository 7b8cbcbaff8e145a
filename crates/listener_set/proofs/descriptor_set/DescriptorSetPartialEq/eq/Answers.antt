use Rattle.std.proofs.Common.{ap, ◌∙◌}
use Rattle.std.specs.Prelude.{bytes_eq}
use Rattle.listener_set.specs.DescriptorSets.{descriptors_in}
use Rattle.listener_set.proofs.DescriptorWords.{same_word}
use Rattle.listener_set.proofs.descriptor_set.DescriptorSetPartialEq.eq.Goals as goal

pub returns : goal.returns
returns c =
    same_word c.self.inside.word c.other.inside.word c.self.invariant c.other.invariant
    ∙ ap (λ fds. bytes_eq fds (descriptors_in c.other.inside.word)) c.self.view_is
    ∙ ap (bytes_eq c.args.self.now) c.other.view_is
