-- Groups of workers: each takes the next so many addresses of a service, and the next so many of its worker numbers.
use Rattle.std.specs.Prelude.{ℕ, ◌+◌, ◌-◌, ◌≤◌, ◌==◌, nat_lt, List, [], ◌∷◌, Option, Some, None, map, length, take, if◌then◌else◌}
use Rattle.std.specs.List.{sum_by, AllByRecursion}
use Rattle.listener_set.specs.Padded.{IsPadded}
pub use Rattle.worker_groups.specs.declared.groups.Group.{Group}
use Rattle.worker_groups.specs.declared.groups.Share.{Share}
use Rattle.worker_groups.specs.declared.groups.Share.TheVariants.{Addresses, Workers}
use Rattle.worker_groups.specs.declared.groups.GroupRefusal.{GroupRefusal}
use Rattle.worker_groups.specs.declared.groups.GroupRefusal.TheVariants.{TooMany, NoAddress, TooManyAddresses, TooManyWorkers}

abbrev pub size_in : Share → Group → ℕ
size_in Addresses g = g.addresses
size_in Workers g = g.workers

-- the addresses and the workers of all groups
abbrev pub addresses_in : List Group → ℕ
addresses_in gs = sum_by (λ (g : Group). g.addresses) gs

abbrev pub workers_in : List Group → ℕ
workers_in gs = sum_by (λ (g : Group). g.workers) gs

-- The part that a number falls into, where parts of these sizes take the next so many numbers each. From their sum on it is the
-- last one.
abbrev pub part_of : List ℕ → ℕ → ℕ
part_of [] n = 0
part_of (size ∷ []) n = 0
part_of (size ∷ next ∷ sizes) n = if nat_lt n size then 0 else part_of (next ∷ sizes) (n - size) + 1

-- a worker number's group
abbrev pub group_of : List Group → ℕ → ℕ
group_of gs number = part_of (map (λ (g : Group). g.workers) gs) number

-- an address's group, by the address's place in the list
abbrev pub group_at : List Group → ℕ → ℕ
group_at gs place = part_of (map (λ (g : Group). g.addresses) gs) place

-- 1 to 16 groups, each with an address, and at most 64 addresses and 1024 workers in all
pub record AreGroups (gs : List Group) : Type 0 where
  pub some : 1 ≤ length gs
  pub most : length gs ≤ 16
  pub listening : AllByRecursion (λ (g : Group). 1 ≤ g.addresses) gs
  pub addresses : addresses_in gs ≤ 64
  pub workers : workers_in gs ≤ 1024

-- the first rule that a group would break behind the others
abbrev pub group_refused : List Group → Group → Option GroupRefusal
group_refused gs g =
    if length gs == 16 then Some TooMany
    else if g.addresses == 0 then Some NoAddress
    else if nat_lt 64 (addresses_in gs + g.addresses) then Some TooManyAddresses
    else if nat_lt 1024 (workers_in gs + g.workers) then Some TooManyWorkers
    else None

---- How they are kept

-- what stands in an unused place
abbrev pub no_group : Group
no_group = record { addresses = 0; workers = 0 }

-- the groups stand in front, and blanks behind them
pub record AreKept (items : List Group) (len : ℕ) : Type 0 where
  pub padded : IsPadded 16 no_group items len
  pub groups : AreGroups (take len items)
