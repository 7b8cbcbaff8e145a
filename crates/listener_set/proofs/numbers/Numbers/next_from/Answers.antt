use Rattle.std.proofs.Common.{◌≡◌, ◌*◌, ◌+◌, ◌-◌, ◌<◌, ◌≤◌, ◌∙◌, ap, sym, inl, inr, arith}
use Rattle.std.specs.Int.{bit_at, w64}
use lib.Count.{count_trailing_zeros}
use Rattle.std.proofs.lemmas.Bool.{cases_lt}
use Rattle.std.proofs.lemmas.Nat.Bits.{bit_at-zero, bit_at-trailing_zeros}
use Rattle.listener_set.specs.Numbers.{first_from}
use Rattle.listener_set.proofs.NumberSets.{are_numbers}
use Rattle.listener_set.proofs.NumberSearch.{first_from-some, first_from-none, bit_set, bit_clear}
use Rattle.listener_set.proofs.numbers.Numbers.next_from.Goals as goal

pub loop-place-preserved : goal.loop-place-preserved
loop-place-preserved c k from lt = elim (cases_lt k (64 * c.loop-place.place)) [
  | inl before ↦ c.loop-place.invariant k from before
  | inr here ↦
      bit_clear c.self.inside.words c.loop-place.place k here (omega arith)
      (sym (c.word_from-word.ensures.kept (k - 64 * c.loop-place.place) (omega arith) (omega arith)) ∙ ap (λ w. bit_at w (k - 64 * c.loop-place.place)) c.if-word-ne0.false ∙ bit_at-zero (k - 64 * c.loop-place.place))
]

pub returns-then-word-ne0-clause-lowest : goal.returns-then-word-ne0-clause-lowest
returns-then-word-ne0-clause-lowest c =
    let words = c.self.inside.words in
    let place = c.loop-place.place in
    let lowest = bit_at-trailing_zeros w64 c.word_from-word.result (omega arith) (omega arith) in
    let i = count_trailing_zeros 64 c.word_from-word.result in
    let small : i < 64 = lowest.0 in
    let from : c.args.bound ≤ 64 * place + i = elim (cases_lt (64 * place + i) c.args.bound) [
      | inl before ↦ absurd (let off : bit_at c.word_from-word.result i ≡ 0 = c.word_from-word.ensures.cut i before in let on : bit_at c.word_from-word.result i ≡ 1 = lowest.1 in omega arith)
      | inr from ↦ from
    ] in
    sym (first_from-some words c.args.bound (64 * place + i) (omega arith) from
    (bit_set words place i small (sym (c.word_from-word.ensures.kept i small from) ∙ lowest.1))
    (λ k low less. elim (cases_lt k (64 * place)) [
      | inl before ↦ c.loop-place.invariant k low before
      | inr here ↦
          bit_clear words place k here (omega arith)
          (sym (c.word_from-word.ensures.kept (k - 64 * place) (omega arith) (omega arith)) ∙ lowest.2 (k - 64 * place) (omega arith))
    ]))
    ∙ ap (first_from c.args.bound) c.self.view_is

pub returns-then-word-ne0-clause-numbers : goal.returns-then-word-ne0-clause-numbers
returns-then-word-ne0-clause-numbers c = rw c.self.view_is at (are_numbers c.self.inside.words)

pub returns-clause-lowest : goal.returns-clause-lowest
returns-clause-lowest c =
    sym (first_from-none c.self.inside.words c.args.bound (λ k from lt. c.loop-place.invariant k from (omega arith)))
    ∙ ap (first_from c.args.bound) c.self.view_is

pub returns-clause-numbers : goal.returns-clause-numbers
returns-clause-numbers c = rw c.self.view_is at (are_numbers c.self.inside.words)
