use Rattle.std.proofs.Common.{◌≡◌, ◌*◌, ◌+◌, ◌≤◌, ◌∙◌, ap, sym, arith, length, refl, get_or, ◌<◌, ◌^◌}
use Rattle.std.specs.Prelude.{count_ones}
use Rattle.std.proofs.lemmas.Nat.{ones-le}
use Rattle.listener_set.specs.NumberWordsLemmas.{word_fits}
use Rattle.listener_set.proofs.NumberSets.{are_numbers, length-numbers}
use Rattle.listener_set.proofs.NumberSearch.{bits_below, bits_below-none, bits_below-more, bits_below-all}
use Rattle.listener_set.proofs.numbers.Numbers.len.Goals as goal

pub loop-word-init : goal.loop-word-init
loop-word-init c = (sym (bits_below-none c.self.inside.words), omega arith)

pub loop-word-preserved : goal.loop-word-preserved
loop-word-preserved c =
    let words = c.self.inside.words in
    let i = c.loop-word.word-index in
    let w = get_or words i 0 in
    let fits : w < 2 ^ 64 = word_fits words i c.self.invariant (omega (arith, c.self.invariant.count)) in
    let more : bits_below words (64 * (i + 1)) ≡ bits_below words (64 * i) + count_ones w = bits_below-more words i w fits refl in
    let few : count_ones w ≤ 64 = ones-le 64 w fits in
    (omega (arith, c.loop-word.invariant.0, more), omega (arith, few, c.loop-word.invariant.1))

pub overflow_add-count : goal.overflow_add-count
overflow_add-count c =
    let w = get_or c.self.inside.words c.loop-word.word-index 0 in
    let few : count_ones w ≤ 64 = ones-le 64 w (word_fits c.self.inside.words c.loop-word.word-index c.self.invariant (omega (arith, c.self.invariant.count))) in
    omega (arith, few, c.loop-word.invariant.1)

pub returns-clause-count : goal.returns-clause-count
returns-clause-count c = c.loop-word.invariant.0 ∙ bits_below-all c.self.inside.words c.loop-word.word-index (omega (arith, c.self.invariant.count)) ∙ ap length c.self.view_is

pub returns-clause-most : goal.returns-clause-most
returns-clause-most c = rw c.self.view_is at (length-numbers _ 1024 (are_numbers c.self.inside.words))

pub returns-clause-numbers : goal.returns-clause-numbers
returns-clause-numbers c = rw c.self.view_is at (are_numbers c.self.inside.words)
