-- A short life and a death, worked out on a small table.

use Rattle.std.specs.Prelude.{◌≡◌, ◌∷◌, List, [], Some, option_map}
use Rattle.vocabulary.specs.Settings.{Settings}
use Rattle.vocabulary.specs.declared.names.Name.TheVariants as name
use Rattle.vocabulary.specs.declared.plans.Side.TheVariants as side
use Rattle.vocabulary.specs.declared.reports.Outcome.TheVariants.{Done, Degraded}
use Rattle.definitions.specs.Table.{Foreign, Generation, Table, service}
use Rattle.definitions.specs.Master.{Record, Mend, Reopen}
use Rattle.definitions.specs.Run.{Progress}
use Rattle.theorems.specs.Examples.{count_if, exits, first, holds, no_fault, port, settings_of, two_ready, two_workers}
use Rattle.lives.specs.Lives.{Task, record_left_by, missing_workers, owed_after, quiet_tick, reported_at, run_at, table_after}
use Rattle.lives.specs.Deaths.{AreAllKept, lent, restarted, restarted_record}

-- a worker exits before the count of a tick, and there are no retries
abbrev pub loses : Task
loses = record { target = Mend []; turns = []; pattern = exits 1 (name.Worker first 0) no_fault }

abbrev pub one_worker_left : Record
one_worker_left = record (two_ready 0) { ready = 1 ∷ [] }

abbrev pub one_table : Table
one_table = table_after two_workers (two_ready 0) loses

abbrev pub reopens : Task
reopens = record { target = Reopen; turns = []; pattern = no_fault }

-- the master exits at the first call
abbrev pub dies : Task
dies = record { target = Reopen; turns = []; pattern = exits 1 (name.Master 1) no_fault }

-- the table in the middle of the first moment
abbrev pub middle_of : List Progress → Table → Table
middle_of (p ∷ middle ∷ rest) t = middle.table
middle_of passed t = t

abbrev pub dead : Table
dead = middle_of (run_at (lent (two_ready 0) two_workers) (two_ready 0) dies).passed two_workers

abbrev pub site : Settings
site = settings_of (port ∷ []) 2

abbrev pub again : Generation
again = record { image = 7; config = 3 }

pub record WorkedLives : Type 0 where
  -- One of two is missing, and one loss accounts for it.
  pub degraded : (reported_at two_workers (two_ready 0) loses).outcome ≡ Degraded side.Target (1 ∷ [])
  pub left : record_left_by two_workers (two_ready 0) loses ≡ Some one_worker_left
  pub lacks_one : missing_workers one_worker_left ≡ 1
  pub owes_one : owed_after 0 (two_ready 0) (Mend []) (reported_at two_workers (two_ready 0) loses).outcome (run_at two_workers (two_ready 0) loses).last ≡ 1
  -- A reopening is done, and one is missing still: it clears no account. No fault and no loss was in it.
  pub reopened : (reported_at one_table one_worker_left reopens).outcome ≡ Done
  pub still : option_map missing_workers (record_left_by one_table one_worker_left reopens) ≡ Some 1
  -- One quiet tick heals.
  pub healed : (reported_at one_table one_worker_left (quiet_tick [])).outcome ≡ Done
  pub full : option_map missing_workers (record_left_by one_table one_worker_left (quiet_tick [])) ≡ Some 0
  -- Of the master that exits nothing is left but the process that was lent its sockets.
  pub dead_rows : dead.rows ≡ Foreign 103 holds ∷ []
  -- A master that is started then serves with two workers after one quiet tick.
  pub served :
      count_if (service (table_after (restarted site again dead) (restarted_record site again dead) (quiet_tick [])) port) again ≡ Some 2
  -- Where nobody keeps the sockets there is no such start.
  pub unkept : AreAllKept (port ∷ []) two_workers → ⊥
