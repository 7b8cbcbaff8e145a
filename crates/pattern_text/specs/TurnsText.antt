-- The line of turns: one letter for each.
use Rattle.std.specs.Prelude.{ℕ, ◌==◌, List, [], ◌∷◌, ◌++◌, Option, Some, None, option_map, option_and_then, codes, if◌then◌else◌}
use Rattle.plain_text.specs.Cuts.{after_prefix}
use Rattle.definitions.specs.Plans.{Turn, New, Old}

---- Written

abbrev pub letter : Turn → ℕ
letter New = 110
letter Old = 111

abbrev pub letter_text : Option Turn → List ℕ
letter_text None = []
letter_text (Some turn) = letter turn ∷ []

abbrev pub letters : List Turn → List ℕ
letters [] = []
letters (turn ∷ turns) = letter turn ∷ letters turns

-- the line with its newline; none where there are no turns
abbrev pub turns_text : List Turn → List ℕ
turns_text [] = []
turns_text (turn ∷ turns) = codes "turns " ++ (letters (turn ∷ turns) ++ 10 ∷ [])

---- Read

-- `n` or `o`
abbrev pub turn_for : ℕ → Option Turn
turn_for c = if c == 110 then Some New else if c == 111 then Some Old else None

abbrev pub turns_for : List ℕ → Option (List Turn)
turns_for [] = Some []
turns_for (c ∷ cs) = option_and_then (λ turn. option_map (λ turns. turn ∷ turns) (turns_for cs)) (turn_for c)

-- one letter at least
abbrev pub some_turns : List ℕ → Option (List Turn)
some_turns [] = None
some_turns (c ∷ cs) = turns_for (c ∷ cs)

-- what a line `turns TEXT` says
abbrev pub turns_of : List ℕ → Option (List Turn)
turns_of line = option_and_then some_turns (after_prefix (codes "turns ") line)
