use Rattle.std.proofs.Common.{◌≡◌, List, []}
use Rattle.std.specs.Prelude.{ℕ}
use Rattle.child_processes.specs.NextLine.{unheard}
use Rattle.child_programs.specs.Served.{AreNextLines}
use Rattle.child_programs.specs.Adopting.{AreMore, with_lines}
use Rattle.child_programs.proofs.serving.receive.Given as goal

-- the lines so far
abbrev pub invariant-loop : goal.invariant-loop
invariant-loop g l =
    (heard : List (List ℕ))
    × AreNextLines (unheard g.I.Read.remaining l.fn.lines) heard (unheard g.I.Read.remaining l.lines)
    × AreMore heard
    × (l.handover ≡ with_lines [] heard)
