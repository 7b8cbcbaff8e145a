use Rattle.std.proofs.Common.{◌≡◌, ◌++◌, drop}
use Rattle.plan_text.specs.Graph.{quoted}
use Rattle.plan_text.proofs.graph.write_quoted.Given as goal

abbrev pub invariant-loop-byte : goal.invariant-loop-byte
invariant-loop-byte l =
    l.out.items ++ quoted (drop l.byte-index l.text) ≡ l.fn.out.items ++ quoted l.text
