use Rattle.std.proofs.Common.{ap, ◌∙◌}
use Rattle.listener_set.specs.Numbers.{without_number}
use Rattle.listener_set.proofs.NumberSets.{numbers_of-without_bit}
use Rattle.listener_set.proofs.numbers.Numbers.remove.Goals as goal

pub returns : goal.returns
returns c = numbers_of-without_bit c.self.inside.words c.args.nr c.requires c.self.invariant ∙ ap (λ ns. without_number ns c.args.nr) c.self.view_is
