-- What a service stands on: the part of a record that a target may change.
use Rattle.std.specs.Prelude.{ℕ, ◌≤◌, List}
use Rattle.worker_groups.specs.Crews.{Posts}
use Rattle.definitions.specs.Table.{Generation, Listener}
use Rattle.definitions.specs.Master.{Record}

pub record Basis : Type 0 where
  pub listeners : List Listener
  pub posts : Posts
  pub generation : Generation
  pub wanted : ℕ
  pub retries : ℕ
  pub timeout : ℕ

abbrev pub basis_of : Record → Basis
basis_of r = record { listeners = r.listeners; posts = r.posts; generation = r.generation; wanted = r.wanted; retries = r.retries; timeout = r.timeout }

-- a record that stands on something else
abbrev pub on_basis : Record → Basis → Record
on_basis r b = record r { listeners = b.listeners; posts = b.posts; generation = b.generation; wanted = b.wanted; retries = b.retries; timeout = b.timeout }

-- at most 8 retries, and a timeout of a second to a day
pub record IsSetup (b : Basis) : Type 0 where
  pub retries : b.retries ≤ 8
  pub timeout_least : 1 ≤ b.timeout
  pub timeout_most : b.timeout ≤ 86400
