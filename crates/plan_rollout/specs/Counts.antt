-- How many workers serve at each address of a record during a rollout, and how many have to.
use Rattle.std.specs.Prelude.{◌≡◌, ℕ, ◌+◌, ◌<◌, List, [], ◌++◌, length, min, get_or}
use Rattle.listener_set.specs.Numbers.{numbers_below}
use Rattle.vocabulary.specs.Settings.{Settings}
use Rattle.definitions.specs.Table.{Address}
use Rattle.definitions.specs.Master.{Record, addresses_of, layout_of, layout_in, served}
use Rattle.definitions.specs.Plans.{Step, Rollout}

-- the address of a record at a place
abbrev pub address_at : Record → ℕ → Address
address_at r i = get_or (addresses_of r) i []

-- these new workers were started, and these old ones are left: so many serve at each address
pub record AreServed (r : Record) (s : Settings) (started left counts : List ℕ) : Type 0 where
  pub count : length counts ≡ length (addresses_of r)
  pub each : (i : ℕ) → i < length (addresses_of r) → get_or counts i 0
      ≡ served (layout_of r) left (address_at r i) + served (layout_in s.groups s.listeners) started (address_at r i)

-- at each address as many as were ready there or are wanted there, whichever is fewer
pub record AreLeast (r : Record) (s : Settings) (least : List ℕ) : Type 0 where
  pub count : length least ≡ length (addresses_of r)
  pub each : (i : ℕ) → i < length (addresses_of r) → get_or least i 0
      ≡ min (served (layout_of r) r.ready (address_at r i))
      (served (layout_in s.groups s.listeners) (numbers_below s.workers) (address_at r i))

-- steps before others
abbrev pub before : List Step → Rollout → Rollout
before steps rest = record { steps = steps ++ rest.steps; last = rest.last; left = rest.left }
