use Rattle.std.proofs.Common.{List}
use Rattle.std.specs.Prelude.{ℕ}
use Rattle.child_processes.specs.NextLine.{unheard}
use Rattle.child_programs.specs.Served.{AreNextLines, AreObeyed}
use Rattle.child_programs.proofs.serving.serve.Given as goal

-- the lines so far
abbrev pub invariant-loop : goal.invariant-loop
invariant-loop g l =
    (lines : List (List ℕ))
    × AreNextLines (unheard g.I.Read.remaining l.fn.lines) lines (unheard g.I.Read.remaining l.lines)
    × AreObeyed g.H.Hears.hears l.fn.program (g.O.Write.contents l.fn.output) lines l.program (g.O.Write.contents l.output)
