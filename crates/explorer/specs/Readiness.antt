-- How few workers serve on the way.
use Rattle.std.specs.Prelude.{ℕ, ◌≡◌, ◌≤◌, ◌-◌, ◌^◌, min, nat_lt, Bool, false, ◌&&◌, List, [], ◌∷◌, Option, Some, None, unwrap_or, is_some}
use Rattle.std.specs.Prelude.{count_by, if◌then◌else◌}
use Rattle.std.specs.List.{list_any, sum_by, AllByRecursion}
use Rattle.std.specs.FinMap.{find}
use Rattle.listener_set.specs.AddressList.{has}
use Rattle.vocabulary.specs.declared.targets.Target.{Target}
use Rattle.definitions.specs.Table.{Address, Process, Master, Worker, Foreign, Table, has_address, service}
use Rattle.definitions.specs.Master.{Record, want}
use Rattle.call_laws.specs.Pieces.{is_ready, is_live_with}
use Rattle.definitions.specs.Calls.{Call, Fork, AwaitReady, Census, AwaitGone}
use Rattle.kernel_service.specs.Services.{Services, address_cmp}

-- a Ready worker that holds the address
abbrev pub is_ready_at : Address → Process → Bool
is_ready_at a (Worker n q g k s hs) = is_ready s && has_address a hs
is_ready_at a (Master n q i live hs) = false
is_ready_at a (Foreign n hs) = false

-- How many Ready workers an address has in a table, and none where no live master holds it. They are counted up to 2^32 - 1.
abbrev pub ready_at : Table → Address → ℕ
ready_at t a = if list_any (is_live_with (has_address a)) t.rows then min (count_by (is_ready_at a) t.rows) (2 ^ 32 - 1) else 0

-- The same of a service that is listed.
abbrev pub listed_at : Services → Address → ℕ
listed_at s a = min (sum_by (λ c. c.1) (unwrap_or (find address_cmp a s) [])) (2 ^ 32 - 1)

-- the one that has fewer, and else the first
abbrev pub fewer : Option (Address × ℕ) → Address → ℕ → Address × ℕ
fewer None a n = (a, n)
fewer (Some least) a n = if nat_lt n least.1 then (a, n) else least

-- The first of the addresses that has fewest, with their number, where another one was the first before them.
abbrev pub fewest_from : Services → Option (Address × ℕ) → List Address → Option (Address × ℕ)
fewest_from s least [] = least
fewest_from s least (a ∷ addresses) = fewest_from s (Some (fewer least a (listed_at s a))) addresses

-- Each of the addresses has at least so many.
abbrev pub HaveAtLeast : List Address → Table → ℕ → Type 0
HaveAtLeast addresses t low = AllByRecursion (λ a. low ≤ ready_at t a) addresses

-- As many as that each address has at least after a call in which nothing goes wrong, if it had so many before.
abbrev pub low_after : Call → ℕ → ℕ
low_after (Fork g k fds) low = low
low_after (AwaitReady g k) low = low
low_after (Census g) low = low
low_after (AwaitGone g k) low = low
low_after _ low = 0

---- Which addresses are looked at

-- These are the addresses that both lists have.
abbrev pub AreShared : Services → Services → List Address → Type 0
AreShared s wanted addresses = (a : Address) → has addresses a ≡ (is_some (find address_cmp a s) && is_some (find address_cmp a wanted))

-- an address of both services: the table's, and the one that the target wants
abbrev pub is_common : Table → Record → Target → Address → Bool
is_common t r target a = is_some (service t a) && is_some (want r target a)

-- These are the addresses of both services, and no other.
abbrev pub AreCommon : Table → Record → Target → List Address → Type 0
AreCommon t r target addresses = (a : Address) → has addresses a ≡ is_common t r target a
