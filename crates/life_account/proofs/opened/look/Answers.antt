use Rattle.std.proofs.Common.{arith, rules}
use Rattle.std.proofs.lemmas.List.Edits.{map_over_more}
use Rattle.life_account.specs.Tables.{looked}
use Rattle.life_account.proofs.opened.look.Goals as goal

pub loop-at-preserved : goal.loop-at-preserved
loop-at-preserved c = (
  rw (c.looked-seen.ensures) (map_over_more (looked c.args.place c.args.kernel.now.table) c.args.kept.now.items c.loop-at.kept.items c.loop-at.at _ (omega arith) c.loop-at.invariant.0 c.index.ensures),
  search rules,
)
