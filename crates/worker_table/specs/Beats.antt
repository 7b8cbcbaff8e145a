-- Workers with their last beats, in ascending numbers.
use Rattle.std.specs.Prelude.{◌≡◌, ℕ, ◌-◌, ◌<◌, nat_eq, nat_lt, Bool, true, false, ◌&&◌, not, List, [], ◌∷◌, filter, map, Option, Some, None, is_some, if◌then◌else◌}
use Rattle.std.specs.Map.{lookup}
use Rattle.std.specs.Option.{option_flatten}
use Rattle.listener_set.specs.Numbers.{is_in}

-- each worker's number, and the moment of its last beat if it has beaten
abbrev pub Workers : Type 0
Workers = List (ℕ × Option ℕ)

abbrev pub numbers_in : Workers → List ℕ
numbers_in workers = map (λ w. w.0) workers

-- the last beat of a worker, if it is there
abbrev pub beat_of : Workers → ℕ → Option (Option ℕ)
beat_of workers nr = lookup (nat_eq nr) workers

abbrev pub has_worker : Workers → ℕ → Bool
has_worker workers nr = is_some (beat_of workers nr)

-- the last beat of a worker that is there and has beaten
abbrev pub last_beat : Workers → ℕ → Option ℕ
last_beat workers nr = option_flatten (beat_of workers nr)

-- the workers with one put in its place, in place of the one of its number
abbrev pub with_worker : Workers → ℕ → Option ℕ → Workers
with_worker [] nr beat = (nr, beat) ∷ []
with_worker (w ∷ ws) nr beat = if nat_lt nr w.0 then (nr, beat) ∷ w ∷ ws else (if nat_eq nr w.0 then (nr, beat) ∷ ws else w ∷ with_worker ws nr beat)

-- the workers without one
abbrev pub without_worker : Workers → ℕ → Workers
without_worker workers nr = filter (λ w. not (nat_eq nr w.0)) workers

-- the workers with one put in, or taken out
abbrev pub with_beat : Workers → ℕ → Option (Option ℕ) → Workers
with_beat workers nr None = without_worker workers nr
with_beat workers nr (Some beat) = with_worker workers nr beat

-- whether a worker has beaten, and the moment is more than the timeout after its last beat
abbrev pub is_overdue : ℕ → ℕ → Option ℕ → Bool
is_overdue now timeout None = false
is_overdue now timeout (Some last) = nat_lt last now && nat_lt timeout (now - last)

-- the numbers of the late workers
abbrev pub overdue_numbers : Workers → ℕ → ℕ → List ℕ
overdue_numbers workers now timeout = numbers_in (filter (λ w. is_overdue now timeout w.1) workers)

-- the last beat of a number whose worker may have been started anew
abbrev pub kept_beat : Workers → List ℕ → ℕ → Option ℕ
kept_beat workers started nr = if is_in started nr then None else last_beat workers nr

-- the workers after a plan that left the ready ones, and started some of them anew
abbrev pub followed : Workers → List ℕ → List ℕ → Workers
followed workers ready started = map (λ nr. (nr, kept_beat workers started nr)) ready

-- the number is below n and not there, and each lower one is there
pub record IsLowestMissing (workers : Workers) (n nr : ℕ) : Type 0 where
  pub below : nr < n
  pub missing : has_worker workers nr ≡ false
  pub lower : (k : ℕ) → k < nr → has_worker workers k ≡ true
