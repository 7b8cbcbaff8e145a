-- What is written of words that were carried out.
use Rattle.std.specs.Prelude.{◌≡◌, ℕ, Bool, false, true, List, [], ◌∷◌, ◌++◌}
use Rattle.definitions.specs.Table.{Table}
use Rattle.table_text.specs.TableText.{IsTextOf}
use Rattle.transcript.specs.Block.{block_text}
use Rattle.word_runner.specs.declared.block.Block.{Block}

abbrev pub blocks_text : List Block → List ℕ
blocks_text [] = []
blocks_text (block ∷ blocks) = block_text block ++ blocks_text blocks

-- the table where it is asked for
abbrev pub IsState : Bool → Table → List ℕ → Type 0
IsState false t text = text ≡ []
IsState true t text = IsTextOf t text
