-- What reading a set of numbers gives, part by part.
use Rattle.std.specs.Prelude.{ℕ, zero, suc, ◌+◌, ◌-◌, ◌==◌, nat_lt, nat_le, Bool, List, [], ◌∷◌, Option, Some, None, option_map, bytes_eq, codes, if◌then◌else◌}
use Rattle.std.specs.List.{slice_split}
use Rattle.listener_set.specs.Numbers.{with_number}
use Rattle.call_text.specs.declared.sets.SetReader.{SetReader}
use Rattle.plain_text.specs.Cuts.{cut}
use Rattle.call_text.specs.Reading.{◌>>=◌, some_if, worker_number}

abbrev pub is_comma : ℕ → Bool
is_comma c = c == 44

-- a set with so many numbers from n on put in
abbrev pub with_run : List ℕ → ℕ → ℕ → List ℕ
with_run ns n zero = ns
with_run ns n (suc k) = with_run (with_number ns n) (n + 1) k

-- a first and a higher last number
abbrev pub several_of : List ℕ → List ℕ → Option (ℕ × ℕ)
several_of first last = do
  f ← worker_number first
  l ← worker_number last
  some_if (nat_lt f l) (f, l)

abbrev pub run_from : List ℕ → Option (List ℕ × List ℕ) → Option (ℕ × ℕ)
run_from text None = option_map (λ n. (n, n)) (worker_number text)
run_from text (Some parts) = several_of parts.0 parts.1

-- the first and the last number of a run
abbrev pub run_in : List ℕ → Option (ℕ × ℕ)
run_in text = run_from text (cut 45 text)

abbrev pub begun : SetReader
begun = record { numbers = []; least = 0 }

abbrev pub numbers_in : SetReader → List ℕ
numbers_in s = s.numbers

abbrev pub with_numbers : SetReader → ℕ × ℕ → SetReader
with_numbers s r = record { numbers = with_run s.numbers r.0 (r.1 + 1 - r.0); least = r.1 + 2 }

-- a run that begins where it can
abbrev pub with_part : SetReader → List ℕ → Option SetReader
with_part s part = run_in part >>= (λ r. some_if (nat_le s.least r.0) (with_numbers s r))

abbrev pub with_parts : SetReader → List (List ℕ) → Option SetReader
with_parts s [] = Some s
with_parts s (part ∷ parts) = with_part s part >>= (λ t. with_parts t parts)

abbrev pub set_of : List ℕ → Option (List ℕ)
set_of text = if bytes_eq text (codes "none") then Some [] else option_map numbers_in (with_parts begun (slice_split is_comma text))
