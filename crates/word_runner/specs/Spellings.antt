-- The bytes of a code, wherever they stand.
use Rattle.std.specs.Prelude.{ℕ, List}
use Rattle.std.specs.String.{string_bytes}
use Rattle.word_runner.specs.declared.block.Spelling.{Spelling}
use Rattle.word_runner.specs.declared.block.Spelling.TheVariants.{Short, Long}

abbrev pub spelled : Spelling → List ℕ
spelled (Short text) = text.bytes
spelled (Long text) = string_bytes text
