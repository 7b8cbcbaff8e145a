-- How far a reader has come.
use Rattle.std.specs.Prelude.{map}
use Rattle.kernel_pattern.specs.Pattern.{moment_at}
use Rattle.pattern_text.specs.declared.patterns.PatternsReader.{PatternsReader}
use Rattle.pattern_text.specs.PatternsText.{Reading}
use Rattle.pattern_text.specs.Courses.{course_of}

abbrev pub seen : PatternsReader → Reading
seen r =
    record {
      done = map course_of r.done.items;
      pattern = moment_at r.section.pattern;
      turns = r.section.turns;
      last = r.last;
      failed = r.has_failed;
      fresh = r.is_fresh;
    }
