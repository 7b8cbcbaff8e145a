use Rattle.std.specs.Io.KnownBytes.{Keeps}
use Rattle.child_processes.specs.NextLine.{unheard}
use Rattle.child_processes.proofs.reader.LineReader.hear_within.Given as goal

-- no line was told yet, and no byte was lost
abbrev pub invariant-loop : goal.invariant-loop
invariant-loop g l = Keeps (unheard g.R.Read.remaining l.fn.self) (unheard g.R.Read.remaining l.self)
