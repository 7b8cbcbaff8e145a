-- Where the workers of each group listen, as places in a list of addresses.
use Rattle.std.specs.Prelude.{ℕ, ◌==◌, List, [], filter, length, map, get_or, if◌then◌else◌}
use Rattle.std.specs.List.{count_by}
use Rattle.listener_set.specs.Numbers.{numbers_below, is_in}
use Rattle.listener_set.specs.AddressList.{has}
use Rattle.worker_groups.specs.declared.groups.Group.{Group}
use Rattle.worker_groups.specs.Groups.{group_of}
use Rattle.definitions.specs.Table.{Address}
use Rattle.definitions.specs.Master.{Layout}

-- the places of those of the addresses that another list has
abbrev pub places_of : List Address → List Address → List ℕ
places_of own addresses = filter (λ i. has own (get_or addresses i [])) (numbers_below (length addresses))

-- the places of the addresses at which a group listens
abbrev pub spots_of : Layout → List Address → ℕ → List ℕ
spots_of layout addresses place =
    filter (λ i. layout.listens place (get_or addresses i [])) (numbers_below (length addresses))

-- those of each group
abbrev pub all_spots : Layout → List Address → List (List ℕ)
all_spots layout addresses = map (spots_of layout addresses) (numbers_below (length layout.groups))

-- the worker numbers of a group
abbrev pub members_of : List Group → ℕ → List ℕ
members_of groups place = filter (λ k. group_of groups k == place) (numbers_below 1024)

-- those of each group
abbrev pub all_members : List Group → List (List ℕ)
all_members groups = map (members_of groups) (numbers_below (length groups))

-- one, where a set has a place
abbrev pub one_at : List ℕ → ℕ → ℕ
one_at spots i = if is_in spots i then 1 else 0

-- how many of these workers serve at a place, where each group has places
abbrev pub serving_at : List Group → List (List ℕ) → List ℕ → ℕ → ℕ
serving_at groups spots numbers i = count_by (λ k. is_in (get_or spots (group_of groups k) []) i) numbers
