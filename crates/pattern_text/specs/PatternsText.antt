-- Texts of several sections.
use Rattle.std.specs.Prelude.{ℕ, ◌==◌, nat_lt, Bool, true, false, ◌&&◌, ◌||◌, not, List, [], ◌∷◌, ◌++◌, Option, Some, None, Result, Ok, Err, if◌then◌else◌}
use Rattle.vocabulary.specs.declared.names.Name.{Name}
use Rattle.vocabulary.specs.declared.calls.Fate.{Fate}
use Rattle.call_laws.specs.Pieces.{quiet}
use Rattle.definitions.specs.Run.{Pattern}
use Rattle.definitions.specs.Plans.{Turn}
use Rattle.kernel_pattern.specs.Pattern.{with_exit, with_fate}
use Rattle.pattern_text.specs.declared.pattern_line.PatternLine.{PatternLine}
use Rattle.pattern_text.specs.declared.pattern_line.PatternLine.TheVariants.{Exit, Fail, Next}
use Rattle.plain_text.specs.Lines.{lines_of}
use Rattle.pattern_text.specs.LineReading.{line_of}
use Rattle.pattern_text.specs.TurnsText.{turns_of}
use Rattle.pattern_text.specs.Courses.{Course}
use Rattle.lines_text.specs.Reading.{reading_of}
use Rattle.lines_text.specs.declared.refusal.TextRefusal.{TextRefusal}
use Rattle.lines_text.specs.declared.refusal.TextRefusal.TheVariants.{Line, Order}

---- One line

-- How far reading has come: the sections that are read, what is known of this one, the last number in it, whether its call was
-- made to fail, and whether no line of this section was read.
pub record Reading : Type 0 where
  pub done : List Course
  pub pattern : Pattern
  pub turns : List Turn
  pub last : ℕ
  pub failed : Bool
  pub fresh : Bool

abbrev pub all_quiet : Pattern
all_quiet n = quiet

abbrev pub begun : List Course → Reading
begun done = record { done = done; pattern = all_quiet; turns = []; last = 0; failed = false; fresh = true }

-- this section, as far as it is known
abbrev pub section_in : Reading → Course
section_in r = record { pattern = r.pattern; turns = r.turns }

-- numbers in a section do not fall, and nothing follows a fate within its number
abbrev pub may_follow : ℕ → Bool → ℕ → Bool
may_follow last failed n = nat_lt last n || ((n == last) && not failed)

abbrev pub with_exit_at : ℕ → Name → Pattern → Pattern
with_exit_at n name p m = if m == n then with_exit name (p n) else p m

abbrev pub with_fate_at : ℕ → Fate → Pattern → Pattern
with_fate_at n f p m = if m == n then with_fate f (p n) else p m

abbrev pub with_exit_in : ℕ → Name → Reading → Reading
with_exit_in n name r = record { done = r.done; pattern = with_exit_at n name r.pattern; turns = r.turns; last = n; failed = false; fresh = false }

abbrev pub with_fate_in : ℕ → Fate → Reading → Reading
with_fate_in n f r = record { done = r.done; pattern = with_fate_at n f r.pattern; turns = r.turns; last = n; failed = true; fresh = false }

abbrev pub with_turns : List Turn → Reading → Reading
with_turns turns r = record { done = r.done; pattern = r.pattern; turns = turns; last = r.last; failed = r.failed; fresh = false }

-- whether a line may stand there
abbrev pub may_stand : PatternLine → Reading → Bool
may_stand (Exit n name) r = may_follow r.last r.failed n
may_stand (Fail n f) r = may_follow r.last r.failed n
may_stand Next r = true

abbrev pub with_line : PatternLine → Reading → Reading
with_line (Exit n name) r = with_exit_in n name r
with_line (Fail n f) r = with_fate_in n f r
with_line Next r = begun (r.done ++ section_in r ∷ [])

-- whether a line may stand there, or why not
abbrev pub line_here : ℕ → Reading → PatternLine → Result (Unit {0}) TextRefusal
line_here number r line = if may_stand line r then Ok tt else Err (Order number)

-- the same of the turns of a line, if it says some
abbrev pub turns_here : ℕ → Reading → Option (List Turn) → Result (Unit {0}) TextRefusal
turns_here number r None = Err (Line number)
turns_here number r (Some turns) = if r.fresh then Ok tt else Err (Order number)

abbrev pub taken_line : ℕ → Reading → PatternLine → Result Reading TextRefusal
taken_line number r line = if may_stand line r then Ok (with_line line r) else Err (Order number)

-- turns stand before all other lines of their section
abbrev pub taken_turns : ℕ → Reading → Option (List Turn) → Result Reading TextRefusal
taken_turns number r None = Err (Line number)
taken_turns number r (Some turns) = if r.fresh then Ok (with_turns turns r) else Err (Order number)

abbrev pub taken_as : ℕ → Reading → List ℕ → Option PatternLine → Result Reading TextRefusal
taken_as number r text None = taken_turns number r (turns_of text)
taken_as number r text (Some line) = taken_line number r line

-- what is known after a line, or why the line is refused: by its form before its place
abbrev pub taken : ℕ → Reading → List ℕ → Result Reading TextRefusal
taken number r text = taken_as number r text (line_of text)

---- All lines

-- a text may end anywhere
abbrev pub finished : ℕ → Reading → Result (List Course) TextRefusal
finished number r = Ok (r.done ++ section_in r ∷ [])

-- what a text gives: the sections, or its first faulty line; the empty one is one quiet section without turns
abbrev pub patterns_of : List ℕ → Result (List Course) TextRefusal
patterns_of text = reading_of taken finished 1 (begun []) (lines_of text)
