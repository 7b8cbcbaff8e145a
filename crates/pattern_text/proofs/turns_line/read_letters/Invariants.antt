use Rattle.std.proofs.Common.{◌≡◌, ◌++◌, List, drop, Some}
use Rattle.std.specs.Prelude.{option_map}
use Rattle.definitions.specs.Plans.{Turn}
use Rattle.pattern_text.specs.TurnsText.{turns_for}
use Rattle.pattern_text.proofs.turns_line.read_letters.Given as goal

-- where all letters say turns, those that are read and those that are left are told
abbrev pub invariant-loop-letter : goal.invariant-loop-letter
invariant-loop-letter l = (told : List Turn) → turns_for l.letters ≡ Some told → option_map (λ rest. l.turns ++ rest) (turns_for (drop l.letter-index l.letters)) ≡ Some told
