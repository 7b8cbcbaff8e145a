use Rattle.listener_set.specs.NumberWordsLemmas.{has_bit-zeros}
use Rattle.listener_set.proofs.NumberSets.{numbers_of-none}
use Rattle.listener_set.proofs.numbers.Numbers.none.Goals as goal

pub returns : goal.returns
returns c = numbers_of-none _ (λ k _. has_bit-zeros k)
