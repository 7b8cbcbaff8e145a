-- Texts of reports and of the calls that were made.
use Rattle.std.specs.Prelude.{ℕ, ◌+◌, List, [], ◌∷◌, ◌++◌, Option, Some, None, map, codes}
use Rattle.std.specs.List.{join_with_byte}
use Rattle.std.specs.Fmt.{decimal}
use Rattle.vocabulary.specs.declared.plans.PidNote.{PidNote}
use Rattle.vocabulary.specs.declared.reports.Entry.{Entry}
use Rattle.vocabulary.specs.declared.reports.Report.{Report}
use Rattle.vocabulary.specs.declared.reports.Outcome.{Outcome}
use Rattle.vocabulary.specs.declared.reports.Outcome.TheVariants as outcome
use Rattle.call_text.specs.CallText.{call_line, answer_text}
use Rattle.call_text.specs.Words.{note_text, side_text}

---- Reports

-- a number for each group, joined by commas
abbrev pub shortfalls_text : List ℕ → List ℕ
shortfalls_text shortfalls = join_with_byte 44 (map decimal shortfalls)

abbrev pub outcome_text : Outcome → List ℕ
outcome_text outcome.Done = codes "done"
outcome_text outcome.RolledBack = codes "rolled-back"
outcome_text (outcome.Degraded s shortfalls) = codes "degraded " ++ (side_text s ++ 32 ∷ shortfalls_text shortfalls)
outcome_text outcome.Lost = codes "lost"

abbrev pub cause_text : Option ℕ → List ℕ
cause_text None = codes "none"
cause_text (Some n) = decimal n

-- the cause and the note
abbrev pub ending_text : Option ℕ → PidNote → List ℕ
ending_text cause note = codes "cause " ++ (cause_text cause ++ 32 ∷ (codes "pid " ++ note_text note))

abbrev pub report_text : Report → List ℕ
report_text r = outcome_text r.outcome ++ 32 ∷ ending_text r.cause r.note

---- Calls that were made

-- the line of the n-th call of a block
abbrev pub entry_line : ℕ → Entry → List ℕ
entry_line n e = decimal n ++ 32 ∷ (call_line e.by e.call ++ (codes " : " ++ answer_text e.answer))

abbrev pub entry_text : ℕ → Entry → List ℕ
entry_text n e = entry_line n e ++ codes "\n"

-- calls in order, the first of them the n-th
abbrev pub entries_text : ℕ → List Entry → List ℕ
entries_text n [] = []
entries_text n (e ∷ es) = entry_text n e ++ entries_text (n + 1) es
