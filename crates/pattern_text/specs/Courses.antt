-- Sections by what they decide.
use Rattle.std.specs.Prelude.{List}
use Rattle.definitions.specs.Run.{Pattern}
use Rattle.definitions.specs.Plans.{Turn}
use Rattle.kernel_pattern.specs.Pattern.{moment_at}
use Rattle.kernel_pattern.specs.declared.section.Section.{Section}

-- what happens at each call of a run, and whose turn it is where two masters carry out its plan side by side
pub record Course : Type 0 where
  pub pattern : Pattern
  pub turns : List Turn

abbrev pub course_of : Section → Course
course_of s = record { pattern = moment_at s.pattern; turns = s.turns }
