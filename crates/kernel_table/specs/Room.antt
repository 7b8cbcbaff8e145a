-- Room for calls: memory and numbers.
use Rattle.std.specs.Prelude.{ℕ, ◌≡◌, ◌+◌, ◌≤◌, ◌<◌, ◌^◌, ◌⊎◌, count_by, length, vec_len, vec_capacity}
use Rattle.std.specs.List.{AllByRecursion}
use Rattle.definitions.specs.Table.{Hold, Process, Table, holds_of, IsFormed}
use Rattle.definitions.specs.Calls.{is_image}
use Rattle.kernel_table.specs.declared.store.Store.{Store}
use Rattle.kernel_table.specs.Seen.{seen}
use Rattle.kernel_table.specs.Names.{KnowsNames}

-- only rows change, where one was found last, and which names are known to be lone; the number of rows does not grow, and what is
-- known of names stays true
pub record EditsRows (old new : Store) : Type 0 where
  pub others : new ≡ record old { holders = new.holders; last = new.last; lone = new.lone }
  pub len : length new.holders.items ≤ length old.holders.items
  pub capacity : new.holders.capacity ≡ old.holders.capacity
  pub names : KnowsNames old → KnowsNames new

-- at most one row, one socket, one file and one number more, and no less memory
pub record GrowsInSize (old new : Store) : Type 0 where
  pub holders : length new.holders.items ≤ length old.holders.items + 1
  pub holder_room : old.holders.capacity ≤ new.holders.capacity
  pub addresses : vec_len new.addresses ≤ vec_len old.addresses + 1
  pub address_room : vec_capacity old.addresses ≤ vec_capacity new.addresses
  pub process_numbers : new.next_process ≤ old.next_process + 1
  pub socket_numbers : length new.addresses.items ≤ length old.addresses.items + 1
  pub files : vec_len new.files ≤ vec_len old.files + 1
  pub file_room : vec_capacity old.files ≤ vec_capacity new.files

-- that, and what is known of names stays true
pub record GrowsByOne (old new : Store) : Type 0 where
  pub sizes : GrowsInSize old new
  pub names : KnowsNames old → KnowsNames new

-- Memory for that many rows, sockets and files more.
pub record HasMemoryFor (calls : ℕ) (s : Store) : Type 0 where
  pub holders : length s.holders.items + calls ≤ s.holders.capacity
  pub addresses : vec_len s.addresses + calls ≤ vec_capacity s.addresses
  pub files : vec_len s.files + calls ≤ vec_capacity s.files

-- Fewer process or socket numbers are left than that many.
abbrev pub LacksNumbers : Table → ℕ → Type 0
LacksNumbers t calls = (2 ^ 32 < t.next_process + calls) ⊎ (2 ^ 32 < t.next_socket + calls)

-- Memory and numbers for that many calls.
pub record HasRoomFor (calls : ℕ) (s : Store) : Type 0 where
  pub memory : HasMemoryFor calls s
  pub process_numbers : s.next_process + calls ≤ 2 ^ 32
  pub socket_numbers : length s.addresses.items + 1 + calls ≤ 2 ^ 32

-- the sockets of a process are below the next one
abbrev pub HasSockets : ℕ → Process → Type 0
HasSockets next p = AllByRecursion (λ (h : Hold). (1 ≤ h.socket) × (h.socket < next)) (holds_of p)

-- What every table of a kernel keeps: it is formed, an image has one master at most, its sockets have addresses, and no process may
-- have more than 64 descriptors.
pub record IsKept (t : Table) : Type 0 where
  pub formed : IsFormed t
  pub masters : (image : ℕ) → count_by (is_image image) t.rows ≤ 1
  pub sockets : AllByRecursion (HasSockets t.next_socket) t.rows
  pub first : 1 ≤ t.next_socket
  pub descriptors : t.limits.descriptors ≤ 64

-- A store with room for that many calls, whose table keeps what every table does.
pub record IsSound (calls : ℕ) (s : Store) : Type 0 where
  pub room : HasRoomFor calls s
  pub kept : IsKept (seen s)
  pub names : KnowsNames s
