use Rattle.std.proofs.Common.{◌≡◌, ◌+◌, ◌≤◌, length}
use Rattle.plain_text.specs.Lines.{lines_of}
use Rattle.lines_text.specs.Reading.{reading_of}
use Rattle.lines_text.proofs.reading.read_lines.Given as goal

-- what is left says what the whole text says
abbrev pub invariant-loop-rest : goal.invariant-loop-rest
invariant-loop-rest g l =
    let takes = g.R.TakesLines in
    record {
      reading : reading_of takes.taken takes.finished l.number (takes.seen l.reader) (lines_of l.rest) ≡ reading_of takes.taken takes.finished 1 (takes.seen l.fn.reader) (lines_of l.text);
      counted : l.number + length l.rest ≤ length l.text + 1;
    }

abbrev pub decreases-loop-rest : goal.decreases-loop-rest
decreases-loop-rest g l = length l.rest
