-- The counts of the service that a target wants.
use Rattle.std.specs.Prelude.{ℕ, zero, suc, Bool, Option, Some, None}
use Rattle.worker_groups.specs.Groups.{group_of}
use Rattle.definitions.specs.Table.{Address, Generation}
use Rattle.definitions.specs.Master.{Layout}

-- The count that a service keeps of so many workers: none where there is nobody.
abbrev pub kept_count : Generation → ℕ → Option (Generation × ℕ)
kept_count g zero = None
kept_count g (suc n) = Some (g, suc n)

-- whether the group of a worker's number listens at an address
abbrev pub is_counted : Layout → Address → ℕ → Bool
is_counted layout a number = layout.listens (group_of layout.groups number) a
