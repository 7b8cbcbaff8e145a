use Rattle.std.proofs.Common.{◌≡◌, ◌++◌, drop}
use Rattle.std.specs.List.{AllByRecursion}
use Rattle.pattern_text.specs.PatternsWriting.{moments_text}
use Rattle.pattern_text.specs.Written.{IsNoted}
use Rattle.pattern_text.proofs.writing.write_moments.Given as goal

abbrev pub invariant-loop-place : goal.invariant-loop-place
invariant-loop-place l = record {
  written : l.out.items ++ moments_text (drop l.place l.pattern) ≡ l.fn.out.items ++ moments_text l.pattern;
  noted : AllByRecursion IsNoted (drop l.place l.pattern) → AllByRecursion IsNoted l.pattern;
}
