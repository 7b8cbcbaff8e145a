-- When a kernel starts, and its first sockets.
use Rattle.std.specs.Prelude.{ℕ, zero, suc, ◌+◌, ◌<◌, ◌⊎◌, List, [], ◌∷◌, ◌++◌}
use Rattle.vocabulary.specs.declared.table.Limits.{Limits}

-- The limits do not allow a start with that many listeners and workers.
abbrev pub AreBadLimits : ℕ → ℕ → Limits → Type 0
AreBadLimits listeners workers limits =
    (1024 < workers) ⊎ (limits.processes < 1 + workers) ⊎ (65535 < limits.processes) ⊎ (limits.descriptors < listeners) ⊎ (64 < limits.descriptors)

-- sockets 1 to n under the descriptors from 3 on
unfoldable pub first_pairs : ℕ → List (ℕ × ℕ)
first_pairs zero = []
first_pairs (suc n) = first_pairs n ++ (3 + n, n + 1) ∷ []
