-- What reading a line of a block gives, part by part.
use Rattle.std.specs.Prelude.{ℕ, List, [], Option, Some, None, Result, Ok, Err, option_map, bytes_eq, codes, if◌then◌else◌}
use Rattle.plain_text.specs.NumberText.{number_in}
use Rattle.plain_text.specs.Cuts.{cut}
use Rattle.control_words.specs.declared.words.Word.{Word}
use Rattle.control_words.specs.declared.refusal.WordRefusal.{WordRefusal}
use Rattle.control_words.specs.declared.refusal.WordRefusal.TheVariants.{Unknown, BadNumber}
use Rattle.control_words.specs.Words.{reading}
use Rattle.call_text.specs.Reading.{some_if, both_of}
use Rattle.call_text.specs.ReportReading.{report_in}
use Rattle.transcript.specs.Codes.{is_code}
use Rattle.transcript.specs.EntryReading.{entry_of}
use Rattle.transcript.specs.BlockLine.{Line, Heard, Unread, Nothing, Refused, Made, Ended}

abbrev pub accepted : Result Word WordRefusal → Option Word
accepted (Ok word) = Some word
accepted (Err refusal) = None

abbrev pub word_of : List ℕ → Option Word
word_of text = accepted (reading text)

abbrev pub unread_of : List ℕ → Option WordRefusal
unread_of code = if bytes_eq code (codes "W1") then Some Unknown else if bytes_eq code (codes "W2") then Some BadNumber else None

---- A line other than a call

-- by its first word and what follows it
abbrev pub plain_about : List ℕ → List ℕ → List ℕ → Option Line
plain_about text first rest =
    if bytes_eq first (codes "word") then option_map Heard (word_of rest)
    else if bytes_eq first (codes "unread") then option_map Unread (unread_of rest)
    else if bytes_eq first (codes "refused") then some_if (is_code rest) (Refused rest)
    else option_map Ended (report_in [] text)

abbrev pub plain_from : List ℕ → Option (List ℕ × List ℕ) → Option Line
plain_from text None = some_if (bytes_eq text (codes "nothing")) Nothing
plain_from text (Some parts) = plain_about text parts.0 parts.1

abbrev pub plain_of : List ℕ → Option Line
plain_of text = plain_from text (cut 32 text)

---- Any line

-- the number of a call, and what follows it
abbrev pub numbered : List ℕ → Option (ℕ × List ℕ)
numbered text = both_of 32 number_in (λ rest. Some rest) text

abbrev pub made_line : ℕ → List ℕ → Option Line
made_line n rest = option_map (Made n) (entry_of rest)

abbrev pub line_from : List ℕ → Option (ℕ × List ℕ) → Option Line
line_from text (Some p) = made_line p.0 p.1
line_from text None = plain_of text

abbrev pub line_of : List ℕ → Option Line
line_of text = line_from text (numbered text)
