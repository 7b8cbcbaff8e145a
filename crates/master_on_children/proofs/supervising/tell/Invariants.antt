use Rattle.std.proofs.Common.{◌≡◌, ℕ, List, Option, drop}
use Rattle.std.specs.Io.KnownBytes.{Appends}
use Rattle.transcript.specs.Block.{transcript_text}
use Rattle.word_runner.specs.Status.{status_after}
use Rattle.master_on_children.proofs.supervising.tell.Given as goal

-- whatever is written behind the blocks that are left, is written behind all of them
abbrev pub invariant-loop-block : goal.invariant-loop-block
invariant-loop-block g l =
    ((out : Option (List ℕ)) → Appends (g.O.Write.contents l.output) out (transcript_text (drop l.block-index l.said.blocks.items)) → Appends (g.O.Write.contents l.fn.output) out (transcript_text l.said.blocks.items))
    × (status_after l.status (drop l.block-index l.said.blocks.items) ≡ status_after l.before l.said.blocks.items)
