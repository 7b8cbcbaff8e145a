use Rattle.std.proofs.Common.{◌≡◌, take}
use Rattle.certifier.specs.Blocks.{goals_after}
use Rattle.certifier.proofs.blocks.goals_after.Given as goal

abbrev pub invariant-loop-block : goal.invariant-loop-block
invariant-loop-block l = l.left ≡ goals_after (take l.block-index l.blocks) l.goals
