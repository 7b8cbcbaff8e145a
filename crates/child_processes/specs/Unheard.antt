-- What was read of a child or of an input, and is told by no line yet.
use Rattle.std.specs.Prelude.{ℕ, ◌+◌, ◌==◌, ◌++◌, Bool, true, false, List, [], Option, Some, None, length, take, drop, position, if◌then◌else◌}
use Rattle.child_family.specs.Told.{Hearing, line, too_long, ended}

-- the bytes, and whether those up to the next newline belong to a line that is dropped
pub record Unheard : Type 0 where
  pub bytes : List ℕ
  pub drops : Bool

abbrev pub nothing : Unheard
nothing = record { bytes = []; drops = false }

-- where the first newline is
abbrev pub newline_in : List ℕ → Option ℕ
newline_in bytes = position (λ c. c == 10) bytes

-- what is left of a line that is dropped goes, up to that place
abbrev pub behind_drop : List ℕ → Option ℕ → Unheard
behind_drop bytes None = record { bytes = []; drops = true }
behind_drop bytes (Some at) = record { bytes = drop (at + 1) bytes; drops = false }

abbrev pub dropped : Unheard → Unheard
dropped u = if u.drops then behind_drop u.bytes (newline_in u.bytes) else u

-- What is told by the first newline: the line before it; without one that the line is too long, once it has 4,097 bytes.
abbrev pub told_by : List ℕ → Option ℕ → Option Hearing
told_by bytes None = if length bytes == 4097 then Some too_long else None
told_by bytes (Some at) = Some (line (take at bytes))

abbrev pub left_by : Unheard → Option ℕ → Unheard
left_by u None = if length u.bytes == 4097 then record { bytes = []; drops = true } else u
left_by u (Some at) = record u { bytes = drop (at + 1) u.bytes }

-- what can be told without reading on, and what is left then
abbrev pub told_first : Unheard → Option Hearing
told_first u = told_by u.bytes (newline_in u.bytes)

abbrev pub left_first : Unheard → Unheard
left_first u = left_by u (newline_in u.bytes)

-- what is told at the end, where no newline is left
abbrev pub told_last : List ℕ → Hearing
told_last bytes = if length bytes == 0 then ended else line bytes

-- what is left for lines to tell, where these bytes come behind those that were read
abbrev pub due : Unheard → List ℕ → List ℕ
due u more = (dropped (record { bytes = u.bytes ++ more; drops = u.drops })).bytes
