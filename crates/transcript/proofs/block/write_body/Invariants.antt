use Rattle.std.proofs.Common.{◌≡◌, ◌+◌, ◌++◌, drop}
use Rattle.call_text.specs.ReportText.{entries_text}
use Rattle.transcript.proofs.block.write_body.Given as goal

abbrev pub invariant-loop-place : goal.invariant-loop-place
invariant-loop-place l =
    l.out.items ++ entries_text (l.place + 1) (drop l.place l.log.entries) ≡ l.fn.out.items ++ entries_text 1 l.log.entries
