-- Blocks: a word and what it came to, or a line that is no word.
use Rattle.std.specs.Prelude.{⊤, ℕ, ◌≡◌, ◌<◌, ◌^◌, ◌⊎◌, true, List, [], ◌∷◌, ◌++◌, length, codes}
use Rattle.std.specs.List.{AllByRecursion}
use Rattle.control_words.specs.Words.{word_text, refusal_code, IsWord}
use Rattle.call_text.specs.ReportText.{report_text, entries_text}
use Rattle.call_text.specs.Ranges.{IsReport}
use Rattle.word_runner.specs.declared.block.Block.{Block}
use Rattle.word_runner.specs.declared.block.Block.TheVariants.{Heard, Unread}
use Rattle.word_runner.specs.declared.block.Body.{Body}
use Rattle.word_runner.specs.declared.block.Body.TheVariants.{Nothing, Refused, Ran}
use Rattle.transcript.specs.Codes.{is_code}
use Rattle.transcript.specs.EntryReading.{IsEntry}
use Rattle.transcript.specs.BlockLine.{IsUnread}
use Rattle.transcript.specs.Reading.{last_count}

-- what stands behind the word: `nothing`, a refusal's code, or the calls that were made and the report
abbrev pub body_text : Body → List ℕ
body_text Nothing = codes "nothing\n"
body_text (Refused code) = codes "refused " ++ code ++ codes "\n"
body_text (Ran log report) = entries_text 1 log.entries ++ report_text report ++ codes "\n"

abbrev pub block_text : Block → List ℕ
block_text (Heard word body) = codes "word " ++ word_text word ++ codes "\n" ++ body_text body
block_text (Unread refusal) = codes "unread " ++ refusal_code refusal ++ codes "\n"

-- blocks one after another
abbrev pub transcript_text : List Block → List ℕ
transcript_text [] = []
transcript_text (b ∷ bs) = block_text b ++ transcript_text bs

---- The blocks that have a text which is read

-- A refusal has the text of a code. Calls are those that there are, with an answer that each can have, and their
-- numbers have 32 bits. A report says who was ready at the last count.
abbrev pub IsBody : Body → Type 0
IsBody Nothing = ⊤
IsBody (Refused code) = is_code code ≡ true
IsBody (Ran log report) = AllByRecursion IsEntry log.entries × (length log.entries < 2 ^ 32) × IsReport (last_count log.entries) report

abbrev pub IsBlock : Block → Type 0
IsBlock (Heard word body) = IsWord word × IsBody body
IsBlock (Unread refusal) = IsUnread refusal

abbrev pub AreBlocks : List Block → Type 0
AreBlocks blocks = AllByRecursion IsBlock blocks

-- a text says nothing of the room that a log has left
abbrev pub body_read : Body → Body
body_read (Ran log report) = Ran (record { entries = log.entries; room = 0 }) report
body_read body = body

abbrev pub block_read : Block → Block
block_read (Heard word body) = Heard word (body_read body)
block_read (Unread refusal) = Unread refusal

-- a text of blocks, the very last newline aside
abbrev pub IsTextOf : List Block → List ℕ → Type 0
IsTextOf blocks text = (text ≡ transcript_text blocks) ⊎ (text ++ 10 ∷ [] ≡ transcript_text blocks)
