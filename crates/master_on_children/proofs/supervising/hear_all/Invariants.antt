use Rattle.std.proofs.Common.{◌≡◌, List}
use Rattle.std.specs.Io.KnownBytes.{Appends}
use Rattle.transcript.specs.Block.{transcript_text}
use Rattle.word_runner.specs.Status.{status_after}
use Rattle.word_runner.specs.declared.block.Block.{Block}
use Rattle.master_on_children.specs.Typed.{Typed}
use Rattle.master_on_children.specs.Lines.{AreHeard}
use Rattle.master_on_children.proofs.supervising.hear_all.Given as goal

-- the lines so far, with their blocks
abbrev pub invariant-loop : goal.invariant-loop
invariant-loop g l =
    (lines : List Typed) × (blocks : List Block)
    × AreHeard g.I.Read.remaining g.N.NextSettings.reads lines l.fn.next l.fn.master.standing blocks l.next l.master.standing
    × Appends (g.O.Write.contents l.fn.output) (g.O.Write.contents l.output) (transcript_text blocks)
    × (l.status ≡ status_after l.before blocks)
