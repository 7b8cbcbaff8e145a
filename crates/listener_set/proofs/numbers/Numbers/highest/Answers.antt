use Rattle.std.proofs.Common.{◌≡◌, ◌*◌, ◌+◌, ◌-◌, ◌<◌, ◌∙◌, Some, ap, sym, inl, inr, arith, get_or}
use Rattle.std.specs.Int.{bit_at}
use lib.Count.{count_leading_zeros}
use Rattle.std.proofs.lemmas.Bool.{cases_lt}
use Rattle.std.proofs.lemmas.Nat.Bits.{bit_at-zero}
use Rattle.listener_set.specs.Numbers.{last}
use Rattle.listener_set.specs.NumberWordsLemmas.{word_fits}
use Rattle.listener_set.proofs.NumberSets.{are_numbers, numbers_of-none}
use Rattle.listener_set.proofs.NumberSearch.{last-some, top_bit, bit_set, bit_clear}
use Rattle.listener_set.proofs.numbers.Numbers.highest.Goals as goal

pub loop-place-preserved : goal.loop-place-preserved
loop-place-preserved c k low lt = elim (cases_lt k (64 * c.loop-place.place)) [
  | inl here ↦
      let place = c.loop-place.place - 1 in
      bit_clear c.self.inside.words place k low (omega arith) (ap (λ w. bit_at w (k - 64 * place)) c.if-word-ne0.false ∙ bit_at-zero (k - 64 * place))
  | inr after ↦ c.loop-place.invariant k after lt
]

pub returns-then-word-ne0-clause-highest : goal.returns-then-word-ne0-clause-highest
returns-then-word-ne0-clause-highest c =
    let words = c.self.inside.words in
    let place = c.loop-place.place - 1 in
    let w = get_or words place 0 in
    let some : 0 < w = omega (arith, c.if-word-ne0.true) in
    let top = top_bit w some (word_fits words place c.self.invariant (omega arith)) in
    let j = top.0 in
    let count : count_leading_zeros 64 w + (j + 1) ≡ 64 = omega (arith, top.1) in
    let is : 64 * place + (63 - count_leading_zeros 64 w) ≡ 64 * place + j = omega (arith, count) in
    ap Some is
    ∙ sym (last-some words (64 * place + j) (omega arith) (bit_set words place j (omega arith) top.2)
    (λ k above lt. elim (cases_lt k (64 * c.loop-place.place)) [
      | inl here ↦ bit_clear words place k (omega arith) (omega arith) (top.3 (k - 64 * place) (omega arith))
      | inr after ↦ c.loop-place.invariant k after lt
    ]))
    ∙ ap last c.self.view_is

pub returns-then-word-ne0-clause-numbers : goal.returns-then-word-ne0-clause-numbers
returns-then-word-ne0-clause-numbers c = rw c.self.view_is at (are_numbers c.self.inside.words)

pub returns-clause-highest : goal.returns-clause-highest
returns-clause-highest c =
    ap last (sym (numbers_of-none c.self.inside.words (λ k lt. c.loop-place.invariant k (omega arith) lt)) ∙ c.self.view_is)

pub returns-clause-numbers : goal.returns-clause-numbers
returns-clause-numbers c = rw c.self.view_is at (are_numbers c.self.inside.words)
