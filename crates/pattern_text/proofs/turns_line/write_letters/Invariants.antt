use Rattle.std.proofs.Common.{◌≡◌, ◌++◌, drop}
use Rattle.pattern_text.specs.TurnsText.{letters}
use Rattle.pattern_text.proofs.turns_line.write_letters.Given as goal

abbrev pub invariant-loop-place : goal.invariant-loop-place
invariant-loop-place l = l.out.items ++ letters (drop l.place l.turns) ≡ l.fn.out.items ++ letters l.turns
