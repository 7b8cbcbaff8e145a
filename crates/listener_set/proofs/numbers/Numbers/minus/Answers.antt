use Rattle.std.proofs.Common.{◌<◌, ◌∙◌, ap, arith, refl}
use Rattle.listener_set.specs.Numbers.{lacks}
use Rattle.listener_set.specs.NumberWords.{numbers_of}
use Rattle.listener_set.proofs.NumberBits.{AreCleared-more}
use Rattle.listener_set.proofs.NumberSets.{numbers_of-cleared}
use Rattle.listener_set.proofs.numbers.Numbers.minus.Goals as goal

pub loop-place-init : goal.loop-place-init
loop-place-init c = record { are = c.self.invariant; done = λ k lt. absurd (let less : k < 0 = lt in omega arith); ahead = λ k _. refl }

pub loop-place-preserved : goal.loop-place-preserved
loop-place-preserved c = AreCleared-more _ _ _ c.loop-place.place c.loop-place-test.true c.loop-place.invariant

pub invariant_of-result : goal.invariant_of-result
invariant_of-result c = c.loop-place.invariant.are

pub returns : goal.returns
returns c =
    numbers_of-cleared c.self.inside.words c.other.inside.words c.loop-place.words c.loop-place.place (omega arith) c.other.invariant c.loop-place.invariant
    ∙ ap (λ ns. lacks ns (numbers_of c.other.inside.words)) c.self.view_is ∙ ap (lacks c.args.self.now) c.other.view_is
