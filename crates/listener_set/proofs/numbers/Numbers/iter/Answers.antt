use Rattle.listener_set.proofs.NumberSets.{are_numbers}
use Rattle.listener_set.proofs.numbers.Numbers.iter.Goals as goal

pub returns-clause-numbers : goal.returns-clause-numbers
returns-clause-numbers c = rw c.self.view_is at (are_numbers c.self.inside.words)
