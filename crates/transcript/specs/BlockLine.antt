-- Lines of blocks.
use Rattle.std.specs.Prelude.{⊤, ℕ, ◌≡◌, true, List, [], ◌++◌, codes}
use Rattle.control_words.specs.declared.words.Word.{Word}
use Rattle.control_words.specs.declared.refusal.WordRefusal.{WordRefusal}
use Rattle.control_words.specs.declared.refusal.WordRefusal.TheVariants.{Unknown, BadNumber, AtMost, NoConfig, PidChanged}
use Rattle.control_words.specs.Words.{word_text, refusal_code, IsWord}
use Rattle.vocabulary.specs.declared.reports.Entry.{Entry}
use Rattle.vocabulary.specs.declared.reports.Report.{Report}
use Rattle.call_text.specs.Ranges.{IsNumber, IsReport}
use Rattle.call_text.specs.ReportText.{report_text, entry_line}
use Rattle.transcript.specs.Codes.{is_code}
use Rattle.transcript.specs.EntryReading.{IsEntry}
use Rattle.transcript.specs.declared.block_line.BlockLine.{BlockLine}
use Rattle.transcript.specs.declared.block_line.BlockLine.TheVariants as read

-- A report's line does not say who was ready: none is, here.
pub data Line : Type 0 where
  Heard : Word → Line
  Unread : WordRefusal → Line
  Nothing : Line
  Refused : List ℕ → Line
  Made : ℕ → Entry → Line
  Ended : Report → Line

-- what the reader has of a line other than a call
abbrev pub seen : BlockLine → Line
seen (read.Heard word) = Heard word
seen (read.Unread refusal) = Unread refusal
seen read.Nothing = Nothing
seen (read.Refused code) = Refused code.now
seen (read.Ended report) = Ended report

-- a line without its newline
abbrev pub line_text : Line → List ℕ
line_text (Heard word) = codes "word " ++ word_text word
line_text (Unread refusal) = codes "unread " ++ refusal_code refusal
line_text Nothing = codes "nothing"
line_text (Refused code) = codes "refused " ++ code
line_text (Made n e) = entry_line n e
line_text (Ended report) = report_text report

-- why a line is no word: `W1` or `W2`
abbrev pub IsUnread : WordRefusal → Type 0
IsUnread Unknown = ⊤
IsUnread BadNumber = ⊤
IsUnread AtMost = ⊥
IsUnread NoConfig = ⊥
IsUnread PidChanged = ⊥

abbrev pub IsLine : Line → Type 0
IsLine (Heard word) = IsWord word
IsLine (Unread refusal) = IsUnread refusal
IsLine Nothing = ⊤
IsLine (Refused code) = is_code code ≡ true
IsLine (Made n e) = IsNumber n × IsEntry e
IsLine (Ended report) = IsReport [] report
