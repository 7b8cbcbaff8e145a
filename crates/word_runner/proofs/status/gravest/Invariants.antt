use Rattle.std.proofs.Common.{◌≡◌, drop}
use Rattle.word_runner.specs.Status.{gravest, status_after}
use Rattle.word_runner.proofs.status.gravest.Given as goal

abbrev pub invariant-loop-block : goal.invariant-loop-block
invariant-loop-block l = status_after l.status (drop l.block-index l.blocks) ≡ gravest l.blocks
