use Rattle.std.proofs.Common.{ap, ◌∙◌}
use Rattle.listener_set.specs.Numbers.{with_number}
use Rattle.listener_set.specs.NumberWordsLemmas.{AreWords-with_bit}
use Rattle.listener_set.proofs.NumberSets.{numbers_of-with_bit}
use Rattle.listener_set.proofs.numbers.Numbers.add.Goals as goal

pub invariant_of-self : goal.invariant_of-self
invariant_of-self c = AreWords-with_bit c.self.inside.words c.args.nr c.requires c.self.invariant

pub returns : goal.returns
returns c = numbers_of-with_bit c.self.inside.words c.args.nr c.requires c.self.invariant ∙ ap (λ ns. with_number ns c.args.nr) c.self.view_is
