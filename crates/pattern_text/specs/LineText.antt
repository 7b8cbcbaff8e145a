-- Lines of patterns.
use Rattle.std.specs.Prelude.{⊤, ℕ, List, ◌∷◌, ◌++◌, codes}
use Rattle.std.specs.Fmt.{decimal}
use Rattle.call_text.specs.Words.{fate_text}
use Rattle.call_text.specs.NameText.{name_text}
use Rattle.call_text.specs.Ranges.{IsName, IsCount}
use Rattle.pattern_text.specs.declared.pattern_line.PatternLine.{PatternLine}
use Rattle.pattern_text.specs.declared.pattern_line.PatternLine.TheVariants.{Exit, Fail, Next}

-- a line without its newline
abbrev pub line_text : PatternLine → List ℕ
line_text (Exit n x) = decimal n ++ 32 ∷ (codes "exit " ++ name_text x)
line_text (Fail n f) = decimal n ++ 32 ∷ (codes "fail " ++ fate_text f)
line_text Next = codes "next"

-- Calls are counted from 1.
abbrev pub IsLine : PatternLine → Type 0
IsLine (Exit n x) = IsCount n × IsName x
IsLine (Fail n f) = IsCount n
IsLine Next = ⊤
