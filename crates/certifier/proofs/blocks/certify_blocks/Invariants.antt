use Rattle.std.proofs.Common.{◌≡◌, take}
use Rattle.certifier.specs.Blocks.{AreTaken, goals_after}
use Rattle.certifier.proofs.blocks.certify_blocks.Given as goal

abbrev pub invariant-loop-place : goal.invariant-loop-place
invariant-loop-place l =
    AreTaken l.goals (take l.place l.blocks) l.fn.standing l.sections.items l.standing × (l.left ≡ goals_after (take l.place l.blocks) l.goals)
