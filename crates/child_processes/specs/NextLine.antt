-- The lines of bytes.
use Rattle.std.specs.Prelude.{ℕ, ◌+◌, ◌≡◌, ◌≤◌, ◌==◌, nat_le, List, [], Option, Some, None, IfSome, option_map, length, take, drop, if◌then◌else◌}
use Rattle.std.specs.Io.KnownBytes.{IsAtEnd}
use Rattle.child_family.specs.Told.{Hearing, line, too_long, ended}
use Rattle.child_processes.specs.Unheard.{newline_in, due}
use Rattle.child_processes.specs.declared.reader.LineReader.{LineReader}

-- A line has at most 4,096 bytes. Of a longer one it is told that it is too long.
abbrev pub told : List ℕ → Hearing
told text = if nat_le (length text) 4096 then line text else too_long

-- What stands behind the last newline of a child is no line of it, unless it is too long for one; it stays.
abbrev pub unended : List ℕ → Hearing
unended bytes = if nat_le (length bytes) 4096 then ended else too_long

abbrev pub left_unended : List ℕ → List ℕ
left_unended bytes = if nat_le (length bytes) 4096 then bytes else []

-- by where the first newline is
abbrev pub heard_at : List ℕ → Option ℕ → Hearing
heard_at bytes None = unended bytes
heard_at bytes (Some at) = told (take at bytes)

abbrev pub left_at : List ℕ → Option ℕ → List ℕ
left_at bytes None = left_unended bytes
left_at bytes (Some at) = drop (at + 1) bytes

-- the next line of a child that says these bytes, and what is left then
abbrev pub heard_in : List ℕ → Hearing
heard_in bytes = heard_at bytes (newline_in bytes)

abbrev pub left_in : List ℕ → List ℕ
left_in bytes = left_at bytes (newline_in bytes)

-- What stands behind the last newline of an input is its last line, unless it is nothing.
abbrev pub last_line : List ℕ → Hearing
last_line bytes = if length bytes == 0 then ended else told bytes

abbrev pub line_at : List ℕ → Option ℕ → Hearing
line_at bytes None = last_line bytes
line_at bytes (Some at) = told (take at bytes)

abbrev pub rest_at : List ℕ → Option ℕ → List ℕ
rest_at bytes None = []
rest_at bytes (Some at) = drop (at + 1) bytes

-- the next line of an input of these bytes, and what is left then
abbrev pub line_in : List ℕ → Hearing
line_in bytes = line_at bytes (newline_in bytes)

abbrev pub rest_in : List ℕ → List ℕ
rest_in bytes = rest_at bytes (newline_in bytes)

-- the bytes of a reader that are left for lines to tell, where they are known
abbrev pub unheard : {R : Type 0} → (R → Option (List ℕ)) → LineReader R → Option (List ℕ)
unheard remaining r = option_map (λ more. due r.buffer more) (remaining r.reader)

-- Where the bytes are known, this is the next line of them, and the others are left.
abbrev pub IsNext : (List ℕ → Hearing) → (List ℕ → List ℕ) → Option (List ℕ) → Option (List ℕ) → Hearing → Type 0
IsNext next left old new h = IfSome old (λ bytes. (h ≡ next bytes) × (new ≡ Some (left bytes)))

-- A reader at its end: what was read is all that is left.
pub record IsLast {R : Type 0} (remaining : R → Option (List ℕ)) (r : LineReader R) : Type 0 where
  pub fits : length r.buffer.bytes ≤ 4096
  pub at_end : IsAtEnd (remaining r.reader)
  pub whole : due r.buffer [] ≡ r.buffer.bytes
