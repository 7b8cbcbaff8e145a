-- The descriptors of a process with their sockets, in ascending descriptors.
use Rattle.std.specs.Prelude.{ℕ, suc, zero, ◌+◌, ◌<◌, ◌≤◌, nat_eq, nat_lt, nat_le, not, List, [], ◌∷◌, filter, find, map, length, Option, Some, None, if◌then◌else◌}
use Rattle.std.specs.List.{range_with_len}
use Rattle.listener_set.specs.Numbers.{is_in, RisesFrom, AreBelow}

-- the descriptors that a process can have
abbrev pub IsDescriptor : ℕ → Type 0
IsDescriptor fd = (3 ≤ fd) × (fd < 67)

-- the descriptors of the pairs
abbrev pub descriptors_of : List (ℕ × ℕ) → List ℕ
descriptors_of pairs = map (λ p. p.0) pairs

-- the lowest number from fd on that is not used, looked for up to n times
abbrev pub unused_from : ℕ → ℕ → List ℕ → ℕ
unused_from zero fd used = fd
unused_from (suc n) fd used = if is_in used fd then unused_from n (fd + 1) used else fd

-- the lowest descriptor from 3 on that is not used
abbrev pub lowest_unused : List ℕ → ℕ
lowest_unused used = unused_from (length used) 3 used

-- the pairs with a socket put under a descriptor, in its place
abbrev pub put_pair : List (ℕ × ℕ) → ℕ → ℕ → List (ℕ × ℕ)
put_pair [] fd socket = (fd, socket) ∷ []
put_pair (p ∷ ps) fd socket = if nat_lt fd p.0 then (fd, socket) ∷ p ∷ ps else p ∷ put_pair ps fd socket

-- the socket under a descriptor
abbrev pub socket_of : List (ℕ × ℕ) → ℕ → Option ℕ
socket_of [] fd = None
socket_of (p ∷ ps) fd = if nat_eq p.0 fd then Some p.1 else socket_of ps fd

-- the pairs without a descriptor
abbrev pub without_descriptor : List (ℕ × ℕ) → ℕ → List (ℕ × ℕ)
without_descriptor pairs fd = filter (λ p. not (nat_eq p.0 fd)) pairs

-- the pairs whose descriptors are in a set
abbrev pub only_of : List ℕ → List (ℕ × ℕ) → List (ℕ × ℕ)
only_of fds pairs = filter (λ p. is_in fds p.0) pairs

-- the first pair whose descriptor is at least a bound
abbrev pub pair_from : ℕ → List (ℕ × ℕ) → Option (ℕ × ℕ)
pair_from bound pairs = find (λ p. nat_le bound p.0) pairs

-- the descriptors rise from 3, and are below 67
pub record AreDescriptors (pairs : List (ℕ × ℕ)) : Type 0 where
  pub rising : RisesFrom 3 (descriptors_of pairs)
  pub below : AreBelow 67 (descriptors_of pairs)

-- the slots from descriptor fd on, as pairs
unfoldable pub pairs_of : ℕ → List (Option ℕ) → List (ℕ × ℕ)
pairs_of fd [] = []
pairs_of fd (None ∷ slots) = pairs_of (fd + 1) slots
pairs_of fd (Some socket ∷ slots) = (fd, socket) ∷ pairs_of (fd + 1) slots

-- the slots of a table
unfoldable pub slots_of : List (ℕ × ℕ) → List (Option ℕ)
slots_of pairs = map (λ i. socket_of pairs (3 + i)) (range_with_len 0 64)
