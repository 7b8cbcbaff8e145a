use Rattle.std.proofs.Common.{[], ◌∷◌, refl}
use Rattle.certifier.proofs.Starting.{nothing-taken}
use Rattle.certifier.proofs.replay.Replay.new.Goals as goal

pub returns-clause-start : goal.returns-clause-start
returns-clause-start c = λ i. record { trail = λ turns. c.new.ensures.trail turns i; table = c.args.kernel.table; executing = c.args.image ∷ [] }

pub returns-clause-taken : goal.returns-clause-taken
returns-clause-taken c = nothing-taken c.args.plan.now _ (record {
  trail = c.new.ensures.trail;
  longest = c.new.ensures.longest;
  counted = c.new.ensures.counted;
  room = c.requires;
  number = refl;
  pattern = c.new-2.ensures;
  told = c.none.ensures.told;
  late = c.none.ensures.late;
})
