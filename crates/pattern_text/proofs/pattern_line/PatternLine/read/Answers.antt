use Rattle.std.proofs.Common.{subst, sym}
use Rattle.call_text.specs.Reads.{Reads}
use Rattle.pattern_text.specs.LineText.{line_text, IsLine}
use Rattle.pattern_text.proofs.PatternLines.{Reads-line}
use Rattle.pattern_text.proofs.pattern_line.PatternLine.read.Goals as goal

pub returns-clause-reads : goal.returns-clause-reads
returns-clause-reads c = subst (Reads IsLine line_text c.args.line.now) (sym c.read_any.ensures) (Reads-line c.args.line.now)
