use Rattle.std.proofs.Common.{◌∙◌}
use Rattle.listener_set.proofs.NumberSearch.{first_from-zero}
use Rattle.listener_set.proofs.numbers.Numbers.lowest.Goals as goal

pub returns-clause-lowest : goal.returns-clause-lowest
returns-clause-lowest c = c.next_from.ensures.lowest ∙ first_from-zero c.args.self.now
