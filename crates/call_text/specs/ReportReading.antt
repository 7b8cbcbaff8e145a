-- What reading a report gives, part by part.
use Rattle.std.specs.Prelude.{ℕ, nat_lt, Bool, List, [], ◌∷◌, ◌++◌, length, Option, Some, None, option_map, find, bytes_eq, codes, if◌then◌else◌}
use Rattle.std.specs.List.{slice_split, sum}
use Rattle.plain_text.specs.NumberText.{number_in}
use Rattle.vocabulary.specs.declared.plans.PidNote.{PidNote}
use Rattle.vocabulary.specs.declared.plans.PidNote.TheVariants.{InPlace, AtOldbin, OldbinLeft, Left, NoFile}
use Rattle.vocabulary.specs.declared.plans.Side.{Side}
use Rattle.vocabulary.specs.declared.plans.Side.TheVariants as side
use Rattle.vocabulary.specs.declared.reports.Report.{Report}
use Rattle.vocabulary.specs.declared.reports.Outcome.{Outcome}
use Rattle.vocabulary.specs.declared.reports.Outcome.TheVariants as outcome
use Rattle.call_text.specs.Words.{note_text, side_text}
use Rattle.plain_text.specs.Cuts.{cut}
use Rattle.call_text.specs.Reading.{◌>>=◌, some_if, both_of, behind}
use Rattle.call_text.specs.SetReading.{is_comma}

abbrev pub is_note : List ℕ → PidNote → Bool
is_note text n = bytes_eq (note_text n) text

abbrev pub all_notes : List PidNote
all_notes = InPlace ∷ AtOldbin ∷ OldbinLeft ∷ Left ∷ NoFile ∷ []

abbrev pub note_of : List ℕ → Option PidNote
note_of text = find (is_note text) all_notes

abbrev pub is_side : List ℕ → Side → Bool
is_side text s = bytes_eq (side_text s) text

abbrev pub both_sides : List Side
both_sides = side.Old ∷ side.Target ∷ []

abbrev pub side_of : List ℕ → Option Side
side_of text = find (is_side text) both_sides

-- an outcome of one word
abbrev pub plain_outcome : List ℕ → Option Outcome
plain_outcome word =
    if bytes_eq word (codes "done") then Some outcome.Done
    else if bytes_eq word (codes "rolled-back") then Some outcome.RolledBack
    else if bytes_eq word (codes "lost") then Some outcome.Lost
    else None

abbrev pub cause_of : List ℕ → Option (Option ℕ)
cause_of text = if bytes_eq text (codes "none") then Some None else option_map (λ n. Some n) (number_in text)

abbrev pub noted_of : List ℕ → Option PidNote
noted_of text = behind (codes "pid") text >>= note_of

-- the cause and the note
abbrev pub Closing : Type 0
Closing = Option ℕ × PidNote

abbrev pub closing_of : List ℕ → Option Closing
closing_of text = behind (codes "cause") text >>= (λ rest. both_of 32 cause_of noted_of rest)

---- Shortfalls

-- a number behind others, which are less than 16
abbrev pub with_count : List ℕ → List ℕ → Option (List ℕ)
with_count ns text = number_in text >>= (λ n. some_if (nat_lt (length ns) 16) (ns ++ n ∷ []))

abbrev pub with_counts : List ℕ → List (List ℕ) → Option (List ℕ)
with_counts ns [] = Some ns
with_counts ns (text ∷ texts) = with_count ns text >>= (λ ms. with_counts ms texts)

-- from 1 to 16 numbers
abbrev pub counts_of : List ℕ → Option (List ℕ)
counts_of text = with_counts [] (slice_split is_comma text)

-- from 1 to 16 numbers that are not all 0
abbrev pub shortfalls_of : List ℕ → Option (List ℕ)
shortfalls_of text = counts_of text >>= (λ ns. some_if (nat_lt 0 (sum ns)) ns)

---- Reports

abbrev pub degraded_from : Side × (List ℕ × Closing) → Outcome × Closing
degraded_from p = (outcome.Degraded p.0 p.1.0, p.1.1)

abbrev pub degraded_of : List ℕ → Option (Outcome × Closing)
degraded_of text = option_map degraded_from (both_of 32 side_of (both_of 32 shortfalls_of closing_of) text)

abbrev pub plain_report : List ℕ → List ℕ → Option (Outcome × Closing)
plain_report word rest = do
  o ← plain_outcome word
  e ← closing_of rest
  Some (o, e)

abbrev pub parts_of : List ℕ → Option (Outcome × Closing)
parts_of text = cut 32 text >>= (λ p. if bytes_eq p.0 (codes "degraded") then degraded_of p.1 else plain_report p.0 p.1)

abbrev pub report_from : List ℕ → Outcome × Closing → Report
report_from ready p = record { outcome = p.0; cause = p.1.0; note = p.1.1; ready = ready }

abbrev pub report_in : List ℕ → List ℕ → Option Report
report_in ready text = option_map (report_from ready) (parts_of text)
