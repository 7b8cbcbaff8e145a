use Rattle.std.proofs.Common.{◌≡◌, ◌++◌, drop}
use Rattle.life_text.specs.LifeText.{short_lines}
use Rattle.life_text.proofs.write_each_short.Given as goal

abbrev pub invariant-loop-short : goal.invariant-loop-short
invariant-loop-short l = l.out.items ++ short_lines (drop l.short-index l.shorts) ≡ l.fn.out.items ++ short_lines l.shorts
