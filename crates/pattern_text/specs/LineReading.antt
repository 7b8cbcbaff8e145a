-- What reading a line of patterns gives, part by part.
use Rattle.std.specs.Prelude.{ℕ, List, Option, Some, None, option_map, bytes_eq, codes, if◌then◌else◌}
use Rattle.plain_text.specs.NumberText.{count_of}
use Rattle.plain_text.specs.Cuts.{cut}
use Rattle.call_text.specs.Reading.{◌>>=◌}
use Rattle.call_text.specs.NameReading.{name_of, fate_of}
use Rattle.pattern_text.specs.declared.pattern_line.PatternLine.{PatternLine}
use Rattle.pattern_text.specs.declared.pattern_line.PatternLine.TheVariants.{Exit, Fail, Next}

abbrev pub event_of : ℕ → List ℕ → List ℕ → Option PatternLine
event_of n verb what =
    if bytes_eq verb (codes "exit") then option_map (λ x. Exit n x) (name_of what)
    else if bytes_eq verb (codes "fail") then option_map (λ f. Fail n f) (fate_of what)
    else None

abbrev pub numbered_of : List ℕ → Option PatternLine
numbered_of line = do
  parts ← cut 32 line
  n ← count_of parts.0
  rest ← cut 32 parts.1
  event_of n rest.0 rest.1

-- `next`, `N exit NAME` or `N fail FATE`
abbrev pub line_of : List ℕ → Option PatternLine
line_of line = if bytes_eq line (codes "next") then Some Next else numbered_of line
