use Rattle.std.proofs.Common.{arith, rules}
use Rattle.std.proofs.lemmas.List.Edits.{map_over_more}
use Rattle.life_account.specs.Shorts.{healed_by}
use Rattle.life_account.proofs.shorts.heal_all.Goals as goal

pub loop-at-preserved : goal.loop-at-preserved
loop-at-preserved c = (
  rw (c.healed_by-healed.ensures) (map_over_more (healed_by c.args.word) c.args.shorts.now.items c.loop-at.shorts.items c.loop-at.at _ (omega arith) c.loop-at.invariant.0 c.index.ensures),
  search rules,
)
