-- A block in one line, as it is logged.
use Rattle.std.specs.Prelude.{ℕ, List, ◌++◌, codes}
use Rattle.std.specs.Fmt.{decimal}
use Rattle.std.specs.List.{flat_map}
use Rattle.control_words.specs.Words.{word_text, refusal_code}
use Rattle.call_text.specs.ReportText.{outcome_text}
use Rattle.word_runner.specs.declared.block.Block.{Block}
use Rattle.word_runner.specs.declared.block.Block.TheVariants.{Heard, Unread}
use Rattle.word_runner.specs.declared.block.Body.{Body}
use Rattle.word_runner.specs.declared.block.Body.TheVariants.{Nothing, Refused, Ran}

-- numbers, each behind a comma
abbrev pub later_count : ℕ → List ℕ
later_count n = codes "," ++ decimal n

abbrev pub later_counts : List ℕ → List ℕ
later_counts ns = flat_map later_count ns

-- what a word came to: of a run its outcome alone
abbrev pub body_summary : Body → List ℕ
body_summary Nothing = codes "nothing"
body_summary (Refused code) = codes "refused " ++ code
body_summary (Ran log report) = outcome_text report.outcome

abbrev pub block_summary : Block → List ℕ
block_summary (Heard word body) = word_text word ++ codes ": " ++ body_summary body
block_summary (Unread refusal) = codes "unread " ++ refusal_code refusal
