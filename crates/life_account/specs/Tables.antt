-- The tables of a life: which addresses each has open, and how many ready workers they have.
use Rattle.std.specs.Prelude.{ℕ, ◌==◌, nat_lt, Bool, List, [], ◌∷◌, ◌++◌, map, filter, Option, Some, None, if◌then◌else◌}
use Rattle.definitions.specs.Table.{Table}
use Rattle.kernel_model.specs.declared.readers.HoldRow.{HoldRow}
use Rattle.kernel_model.specs.Readers.{hold_rows}
use Rattle.death_explorer.specs.Leftovers.{ready_at}
use Rattle.lives.specs.Lives.{is_open}
use Rattle.life_account.specs.declared.opened.TablePlace.{TablePlace}
use Rattle.life_account.specs.declared.opened.LeastReady.{LeastReady}
use Rattle.life_account.specs.declared.opened.OpenAddress.{OpenAddress}

-- The fewer workers; of as many, those of the first table.
abbrev pub lower : Option LeastReady → ℕ → TablePlace → Option LeastReady
lower None ready place = Some (record { ready = ready; place = place })
lower (Some least) ready place = if nat_lt ready least.ready then Some (record { ready = ready; place = place }) else Some least

-- An address once this table was counted.
abbrev pub looked : TablePlace → Table → OpenAddress → OpenAddress
looked place t one = record one { least = lower one.least (ready_at t one.address) place }

-- Those that this table has open, each on its socket.
abbrev pub still_open : Table → List OpenAddress → List OpenAddress
still_open t addresses = filter (λ one. is_open one.address one.socket t) addresses

-- What is left of them after a table, which counts or does not.
abbrev pub after_table : Bool → TablePlace → Table → List OpenAddress → List OpenAddress
after_table counts place t addresses =
    if counts then map (looked place t) (still_open t addresses) else still_open t addresses

-- The sockets that a process holds.
abbrev pub open_hold : HoldRow → OpenAddress
open_hold h = record { address = h.address; socket = h.socket; least = None }

-- one more, where the process holds it
abbrev pub with_own : ℕ → HoldRow → List OpenAddress → List OpenAddress
with_own process h addresses = if h.process == process then addresses ++ open_hold h ∷ [] else addresses

abbrev pub first_open : ℕ → Table → List OpenAddress
first_open process t = map open_hold (filter (λ h. h.process == process) (hold_rows t.rows))

---- A run's tables

-- A table that a run passes, after so many of its calls.
pub record Passed : Type 0 where
  pub table : Table
  pub calls : ℕ

-- What is left of them after the tables that a word's run passes, one after another.
abbrev pub after_tables : Bool → ℕ → List Passed → List OpenAddress → List OpenAddress
after_tables counts word [] addresses = addresses
after_tables counts word (p ∷ passed) addresses =
    after_tables counts word passed (after_table counts (record { word = word; call = p.calls }) p.table addresses)
