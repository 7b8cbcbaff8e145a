use Rattle.std.proofs.Common.{◌≡◌, ◌++◌, drop}
use Rattle.master_on_kernel.specs.Output.{blocks_text}
use Rattle.master_on_kernel.proofs.enacting.write_blocks.Given as goal

abbrev pub invariant-loop-block : goal.invariant-loop-block
invariant-loop-block l = l.text.items ++ blocks_text (drop l.block-index l.blocks) ≡ l.fn.text.items ++ blocks_text l.blocks
