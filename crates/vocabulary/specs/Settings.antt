-- What a configuration says.
use Rattle.std.specs.Prelude.{◌≡◌, ℕ, ◌+◌, ◌≤◌, List, [], ◌∷◌, Option, Some, None, length, codes}
use Rattle.worker_groups.specs.declared.groups.Group.{Group}
use Rattle.worker_groups.specs.Groups.{addresses_in, workers_in, AreGroups}
use Rattle.vocabulary.specs.declared.table.Listener.{Listener}

pub record Settings : Type 0 where
  pub listeners : List (List ℕ)
  pub workers : ℕ
  pub groups : List Group
  pub timeout : ℕ
  pub retries : ℕ
  -- how many new workers a step of a reload starts; 0 is all at once
  pub surge : ℕ
  pub pid : Option (List ℕ)

-- a pid file's path leaves room for the suffix .oldbin
abbrev pub HasSuffixRoom : Option (List ℕ) → Type 0
HasSuffixRoom None = Unit {0}
HasSuffixRoom (Some path) = length path ≤ 100

-- at least one listener, at most 1024 workers, groups that take all of both, a timeout of a second to a day, at most 8 retries, steps of at most 1024
pub record IsInRange (s : Settings) : Type 0 where
  pub listens : 1 ≤ length s.listeners
  pub workers : s.workers ≤ 1024
  pub groups : AreGroups s.groups
  pub addresses_add_up : addresses_in s.groups ≡ length s.listeners
  pub workers_add_up : workers_in s.groups ≡ s.workers
  pub timeout_least : 1 ≤ s.timeout
  pub timeout_most : s.timeout ≤ 86400
  pub retries : s.retries ≤ 8
  pub surge : s.surge ≤ 1024
  pub pid : HasSuffixRoom s.pid

-- the settings of an empty configuration
abbrev pub plain_settings : Settings
plain_settings = record { listeners = codes "0.0.0.0:8080" ∷ []; workers = 1; groups = record { addresses = 1; workers = 1 } ∷ []; timeout = 60; retries = 3; surge = 0; pid = None }

-- addresses in order, from a descriptor on
abbrev pub listeners_from : ℕ → List (List ℕ) → List Listener
listeners_from fd [] = []
listeners_from fd (a ∷ rest) = (record { descriptor = fd; address = a }) ∷ listeners_from (fd + 1) rest
