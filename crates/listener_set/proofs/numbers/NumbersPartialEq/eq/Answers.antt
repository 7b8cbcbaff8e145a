use Rattle.std.proofs.Common.{ap, ◌∙◌}
use Rattle.std.specs.Prelude.{bytes_eq}
use Rattle.listener_set.specs.NumberWords.{numbers_of}
use Rattle.listener_set.proofs.NumberSets.{same_words}
use Rattle.listener_set.proofs.numbers.NumbersPartialEq.eq.Goals as goal

pub returns : goal.returns
returns c =
    c.eq.ensures
    ∙ same_words c.self.inside.words c.other.inside.words c.self.invariant c.other.invariant
    ∙ ap (λ ns. bytes_eq ns (numbers_of c.other.inside.words)) c.self.view_is
    ∙ ap (bytes_eq c.args.self.now) c.other.view_is
