-- What a death leaves.
use Rattle.std.specs.Prelude.{ℕ, ◌-◌, ◌^◌, min, nat_lt, Bool, false, ◌&&◌, List, [], ◌∷◌, Option, Some, None, count_by, if◌then◌else◌}
use Rattle.std.specs.List.{list_all}
use Rattle.vocabulary.specs.Settings.{Settings}
use Rattle.vocabulary.specs.declared.names.Name.TheVariants as name
use Rattle.definitions.specs.Table.{Address, Process, Master, Worker, Foreign, Table, Ready, has_address}
use Rattle.definitions.specs.Calls.{Name}
use Rattle.definitions.specs.After.{listens_on}
use Rattle.definitions.specs.Master.{Record}
use Rattle.call_laws.specs.Pieces.{is_ready}

-- the master exits, and whoever is left of it goes with it
abbrev pub exits_of : ℕ → List Name
exits_of image = name.Master image ∷ []

-- a Ready worker that holds the address
abbrev pub is_ready_at : Address → Process → Bool
is_ready_at a (Worker n q g k s hs) = is_ready s && has_address a hs
is_ready_at a (Master n q i live hs) = false
is_ready_at a (Foreign n hs) = false

-- how many there are, counted up to 2^32 - 1
abbrev pub ready_at : Table → Address → ℕ
ready_at t a = min (count_by (is_ready_at a) t.rows) (2 ^ 32 - 1)

-- the one that has fewer, and else the first
abbrev pub fewer : Option (Address × ℕ) → Address → ℕ → Address × ℕ
fewer None a n = (a, n)
fewer (Some least) a n = if nat_lt n least.1 then (a, n) else least

-- The first of the addresses that has the fewest, with their number, where another one was the first before them.
abbrev pub fewest_after : Table → Option (Address × ℕ) → List Address → Option (Address × ℕ)
fewest_after t least [] = least
fewest_after t least (a ∷ addresses) = fewest_after t (Some (fewer least a (ready_at t a))) addresses

abbrev pub fewest_left : List Address → Table → Option (Address × ℕ)
fewest_left addresses t = fewest_after t None addresses

-- the process limit leaves room for a master with all workers, and nobody else
abbrev pub has_room : Settings → Table → Bool
has_room s t = nat_lt s.workers t.limits.processes

-- each of these addresses is one of the record's: so who was lent the sockets of its master has it
abbrev pub are_held : List Address → Record → Bool
are_held addresses r = list_all (λ a. listens_on r.listeners a) addresses
