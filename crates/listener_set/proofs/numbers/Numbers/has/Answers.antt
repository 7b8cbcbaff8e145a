use Rattle.std.proofs.Common.{sym, ap, ◌∙◌, nat_eq, ◌%◌}
use Rattle.std.proofs.lemmas.Nat.Bits.{shr_and_one}
use Rattle.listener_set.specs.Numbers.{is_in}
use Rattle.listener_set.specs.NumberWordsLemmas.{is_in-numbers_of}
use Rattle.listener_set.proofs.numbers.Numbers.has.Goals as goal

pub returns : goal.returns
returns c =
    ap (λ b. nat_eq b 1) (shr_and_one _ (c.args.nr % 64))
    ∙ sym (is_in-numbers_of c.self.inside.words c.args.nr c.requires)
    ∙ ap (λ ns. is_in ns c.args.nr) c.self.view_is
