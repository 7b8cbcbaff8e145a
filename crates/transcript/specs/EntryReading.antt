-- What reading a call with its answer gives.
use Rattle.std.specs.Prelude.{ℕ, zero, suc, ◌+◌, ◌==◌, Bool, false, ◌&&◌, List, ◌∷◌, ◌++◌, length, take, drop, Option}
use Rattle.std.specs.Prelude.{Some, None, option_map, codes, if◌then◌else◌}
use Rattle.vocabulary.specs.declared.calls.Call.{Call}
use Rattle.vocabulary.specs.declared.calls.Answer.{Answer}
use Rattle.vocabulary.specs.declared.reports.Entry.{Entry}
use Rattle.call_text.specs.CallText.{call_line, answer_text}
use Rattle.call_text.specs.Ranges.{IsCallLine, IsAnswerTo}
use Rattle.call_text.specs.Reading.{◌>>=◌}
use Rattle.call_text.specs.CallReading.{line_of}
use Rattle.call_text.specs.AnswerReading.{answer_to}

-- a call, and one of its answers
abbrev pub IsEntry : Entry → Type 0
IsEntry e = IsCallLine (e.by, e.call) × IsAnswerTo e.call e.answer

abbrev pub answered_text : Entry → List ℕ
answered_text e = call_line e.by e.call ++ (codes " : " ++ answer_text e.answer)

abbrev pub begins_answer : List ℕ → Bool
begins_answer (a ∷ b ∷ c ∷ cs) = (a == 32) && (b == 58) && (c == 32)
begins_answer _ = false

-- what stands before the last ` : ` that begins below a place, and what stands behind it
abbrev pub parted_below : ℕ → List ℕ → Option (List ℕ × List ℕ)
parted_below zero text = None
parted_below (suc n) text = if begins_answer (drop n text) then Some (take n text, drop (n + 3) text) else parted_below n text

abbrev pub parted : List ℕ → Option (List ℕ × List ℕ)
parted text = parted_below (length text) text

abbrev pub entry_from : ℕ × Call → Answer → Entry
entry_from line a = record { by = line.0; call = line.1; answer = a }

abbrev pub entry_of : List ℕ → Option Entry
entry_of text = do
  parts ← parted text
  line ← line_of parts.0
  option_map (entry_from line) (answer_to line.1 parts.1)
