-- the highest number is taken out of what is to come
use Rattle.std.proofs.Common.{◌≡◌, ◌∷◌, [], ◌++◌, ◌<◌, List, ℕ, length, Option, Some, None, sym, ap, ◌∙◌, arith}
use Rattle.std.specs.Iterator.{YieldsLast}
use Rattle.std.proofs.lemmas.List.{length-append}
use Rattle.listener_set.proofs.Rising.{last_out, last_none}
use Rattle.listener_set.proofs.numbers.MembersDoubleEndedIterator.next_back.Goals as goal

ended : (ns : List ℕ) (r : Option ℕ) → r ≡ None → ns ≡ [] → YieldsLast {S = List ℕ} (λ s. s) ns r ns
ended ns None e none = (none, none)
ended ns (Some n) e none = cc

pub returns-in_err-nr-clause-steps : goal.returns-in_err-nr-clause-steps
returns-in_err-nr-clause-steps c = ended c.args.self.now _ c.from_residual.ensures (sym c.self.view_is ∙ last_none c.self.inside.rest (sym c.highest.ensures.highest ∙ c.in_err-nr.was))

taken : (c : goal.After-remove) → c.args.self.now ≡ c.remove.new.self ++ c.in_ok-nr.nr ∷ []
taken c =
    sym c.self.view_is
    ∙ last_out c.self.inside.rest c.in_ok-nr.nr 0 c.highest.ensures.numbers.rising (sym c.highest.ensures.highest ∙ c.in_ok-nr.was)
    ∙ ap (λ ns. ns ++ c.in_ok-nr.nr ∷ []) (sym c.remove.ensures)

pub returns-clause-steps : goal.returns-clause-steps
returns-clause-steps c = taken c

pub returns-clause-goes : goal.returns-clause-goes
returns-clause-goes c =
    let less : length c.remove.new.self < length c.args.self.now = omega (arith, ap length (taken c), length-append c.remove.new.self (c.in_ok-nr.nr ∷ [])) in
    record { on = λ _. (tt, tt, less); keeps = tt; rests = λ _. tt }
