use Rattle.std.proofs.Common.{◌≡◌, ◌++◌, drop}
use Rattle.life_text.specs.LifeText.{open_lines}
use Rattle.life_text.proofs.write_each_open.Given as goal

abbrev pub invariant-loop-one : goal.invariant-loop-one
invariant-loop-one l = l.out.items ++ open_lines (drop l.one-index l.addresses) ≡ l.fn.out.items ++ open_lines l.addresses
