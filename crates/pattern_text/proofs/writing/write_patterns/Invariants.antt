use Rattle.std.proofs.Common.{◌≡◌, ◌++◌, drop}
use Rattle.pattern_text.specs.PatternsWriting.{patterns_text, sections_from}
use Rattle.pattern_text.specs.Written.{AreSections}
use Rattle.pattern_text.proofs.writing.write_patterns.Given as goal

abbrev pub invariant-loop-place : goal.invariant-loop-place
invariant-loop-place l = record {
  written : l.out.items ++ sections_from l.place (drop l.place l.sections) ≡ patterns_text l.sections;
  sections : AreSections (drop l.place l.sections) → AreSections l.sections;
}
