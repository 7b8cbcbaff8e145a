-- What stands before a faulty line, and what it ends.
use Rattle.std.specs.Prelude.{ℕ, ◌≡◌, ◌-◌, ◌==◌, true, ◌⊎◌, List, ◌++◌, length, take, None, codes}
use Rattle.std.specs.List.{flat_map, slice_split}
use Rattle.definitions.specs.Calls.{Handover}
use Rattle.handover_text.specs.Spelling.{HandoverVersion, Two, line_of, group_line, spelled}
use Rattle.handover_text.specs.Reading.{can_begin}
use Rattle.handover_text.specs.Ranges.{IsHandover, IsTold}

-- the lines up to the nth one, which count from 1
abbrev pub lines_to : ℕ → List ℕ → List ℕ
lines_to n text = flat_map line_of (take n (slice_split (λ c. c == 10) text))

-- the lines before the nth one
abbrev pub lines_before : ℕ → List ℕ → List ℕ
lines_before n text = lines_to (n - 1) text

-- Some handover's text begins so.
pub record Begins (start : List ℕ) : Type 0 where
  pub version : HandoverVersion
  pub told : Handover
  pub is : IsHandover told
  pub tells : IsTold version told
  pub more : List ℕ
  pub goes_on : start ++ more ≡ spelled version told

-- No handover's text begins so.
abbrev pub BeginsNone : List ℕ → Type 0
BeginsNone start = Begins start → ⊥

-- A handover with the most addresses, up to its end, and the line of another group. That line passes no limit, but no address
-- can follow it.
pub record IsFull (start : List ℕ) : Type 0 where
  pub told : Handover
  pub is : IsHandover told
  pub full : length told.want ≡ 64
  pub no_path : told.pid_file ≡ None
  pub before : List ℕ
  pub ends : before ++ line_of (codes "end") ≡ spelled Two told
  pub workers : ℕ
  pub begins : can_begin told.groups workers ≡ true
  pub goes_on : before ++ group_line workers ≡ start

-- No line of a text is faulty: a handover's text begins so, or would if it could have more addresses.
abbrev pub IsFaultless : List ℕ → Type 0
IsFaultless start = Begins start ⊎ IsFull start
