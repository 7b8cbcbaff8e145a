-- the first pair is taken out of what is to come
use Rattle.std.proofs.Common.{◌≡◌, ◌∷◌, [], ◌<◌, List, ℕ, length, Option, Some, None, sym, ap, ◌∙◌, arith}
use Rattle.std.specs.Iterator.{YieldsFirst}
use Rattle.listener_set.proofs.DescriptorPairs.{first_pair_out, no_pair}
use Rattle.listener_set.proofs.descriptors.PairsIterator.next.Goals as goal

ended : (ps : List (ℕ × ℕ)) (r : Option (ℕ × ℕ)) → r ≡ None → ps ≡ [] → YieldsFirst {S = List (ℕ × ℕ)} (λ s. s) ps r ps
ended ps None e none = (none, none)
ended ps (Some p) e none = cc

pub returns-in_err-pair-clause-steps : goal.returns-in_err-pair-clause-steps
returns-in_err-pair-clause-steps c =
    ended c.args.self.now _ c.from_residual.ensures
    (sym c.self.view_is ∙ no_pair c.self.inside.rest 3 c.next_from.ensures.descriptors.rising (sym c.next_from.ensures.lowest ∙ c.in_err-pair.was))

taken : (c : goal.After-take) → c.args.self.now ≡ c.in_ok-pair.pair ∷ c.take.new.self
taken c =
    sym c.self.view_is
    ∙ first_pair_out c.self.inside.rest 3 c.in_ok-pair.pair c.next_from.ensures.descriptors.rising (sym c.next_from.ensures.lowest ∙ c.in_ok-pair.was)
    ∙ ap (λ ps. c.in_ok-pair.pair ∷ ps) (sym c.take.ensures.after)

pub returns-clause-steps : goal.returns-clause-steps
returns-clause-steps c = taken c

pub returns-clause-goes : goal.returns-clause-goes
returns-clause-goes c =
    let less : length c.take.new.self < length c.args.self.now = omega (arith, ap length (taken c)) in
    record { on = λ _. (tt, tt, less); keeps = tt; rests = λ _. tt }
