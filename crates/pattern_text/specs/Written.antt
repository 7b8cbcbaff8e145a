-- The sections that have a text which is read.
use Rattle.std.specs.Prelude.{ℕ, List}
use Rattle.std.specs.List.{AllByRecursion}
use Rattle.definitions.specs.Run.{Moment}
use Rattle.kernel_pattern.specs.Pattern.{IsPattern}
use Rattle.kernel_pattern.specs.declared.section.Section.{Section}
use Rattle.call_text.specs.Ranges.{IsCount, IsName}

-- Numbers of calls have 32 bits, and so have those of images and configurations; a worker's is below 1024.
abbrev pub IsNoted : ℕ × Moment → Type 0
IsNoted e = IsCount e.0 × AllByRecursion IsName e.1.exits

abbrev pub AreMoments : List (ℕ × Moment) → Type 0
AreMoments p = IsPattern p × AllByRecursion IsNoted p

abbrev pub IsSection : Section → Type 0
IsSection s = AreMoments s.pattern

abbrev pub AreSections : List Section → Type 0
AreSections ss = AllByRecursion IsSection ss
