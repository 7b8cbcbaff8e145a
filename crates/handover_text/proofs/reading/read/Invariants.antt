use Rattle.std.proofs.Common.{◌≡◌, ◌≤◌, length}
use Rattle.std.specs.List.{slice_split}
use Rattle.handover_text.specs.Reading.{read_pieces, reading}
use Rattle.handover_text.specs.Ranges.{IsReadTo}
use Rattle.handover_text.proofs.SoFar.{is_newline}
use Rattle.handover_text.proofs.reading.read.Given as goal

abbrev pub invariant-loop-line : goal.invariant-loop-line
invariant-loop-line l =
    (read_pieces l.number l.reader.0 l.reader.1 (slice_split is_newline l.rest) ≡ reading l.fn.text)
    × IsReadTo l.number l.reader.0 l.reader.1
    × (length l.rest ≤ length l.fn.text)

abbrev pub decreases-loop-line : goal.decreases-loop-line
decreases-loop-line l = length l.rest
