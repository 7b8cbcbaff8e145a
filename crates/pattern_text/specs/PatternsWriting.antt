-- How sections are written: their lines, and `next` between two.
use Rattle.std.specs.Prelude.{ℕ, zero, suc, List, [], ◌∷◌, ◌++◌, Option, Some, None}
use Rattle.vocabulary.specs.declared.names.Name.{Name}
use Rattle.vocabulary.specs.declared.calls.Fate.{Fate}
use Rattle.definitions.specs.Run.{Moment}
use Rattle.pattern_text.specs.declared.pattern_line.PatternLine.{PatternLine}
use Rattle.pattern_text.specs.declared.pattern_line.PatternLine.TheVariants.{Exit, Fail, Next}
use Rattle.kernel_pattern.specs.declared.section.Section.{Section}
use Rattle.pattern_text.specs.LineText.{line_text}
use Rattle.pattern_text.specs.TurnsText.{turns_text}

-- a line with its newline
abbrev pub ended_line : PatternLine → List ℕ
ended_line line = line_text line ++ 10 ∷ []

abbrev pub exits_text : ℕ → List Name → List ℕ
exits_text n [] = []
exits_text n (x ∷ xs) = ended_line (Exit n x) ++ exits_text n xs

abbrev pub fail_text : ℕ → Option Fate → List ℕ
fail_text n None = []
fail_text n (Some f) = ended_line (Fail n f)

-- who exits before a call, in order, and then how it fails
abbrev pub moment_text : ℕ → Moment → List ℕ
moment_text n m = exits_text n m.exits ++ fail_text n m.fate

abbrev pub event_text : Option (ℕ × Moment) → List ℕ
event_text None = []
event_text (Some e) = moment_text e.0 e.1

abbrev pub moments_text : List (ℕ × Moment) → List ℕ
moments_text [] = []
moments_text (e ∷ es) = moment_text e.0 e.1 ++ moments_text es

-- its turns, and then its moments
abbrev pub section_text : Section → List ℕ
section_text s = turns_text s.turns ++ moments_text s.pattern

-- sections after others, each after a line `next`
abbrev pub sections_behind : List Section → List ℕ
sections_behind [] = []
sections_behind (s ∷ ss) = ended_line Next ++ (section_text s ++ sections_behind ss)

abbrev pub patterns_text : List Section → List ℕ
patterns_text [] = []
patterns_text (s ∷ ss) = section_text s ++ sections_behind ss

-- the sections from a place on
abbrev pub sections_from : ℕ → List Section → List ℕ
sections_from zero ss = patterns_text ss
sections_from (suc n) ss = sections_behind ss
