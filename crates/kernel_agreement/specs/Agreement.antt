-- What a record says of the table.
use Rattle.std.specs.Prelude.{ℕ, ◌≡◌, List, map, count_by}
use Rattle.std.specs.List.{list_any, AllByRecursion}
use Rattle.listener_set.specs.Numbers.{is_in}
use Rattle.definitions.specs.Table.{Generation, Hold, Process, Caller, is_master, is_worker}
use Rattle.call_laws.specs.Pieces.{is_ready, listener_of}
use Rattle.definitions.specs.Master.{Crew, Record, IsRunning}
use Rattle.kernel_agreement.specs.declared.agreement.Running.{Running}

-- A record of these parts. What it wants does not matter to the table.
abbrev pub running : Running → ℕ → ℕ → ℕ → Record
running c wanted retries timeout = record {
  listeners = c.listeners.now;
  posts = c.crew.posts;
  generation = c.crew.generation;
  ready = c.ready;
  wanted = wanted;
  retries = retries;
  timeout = timeout;
  pid_path = c.pid_path;
  note = c.note;
  pid = c.pid;
}

abbrev pub AreRunning : ℕ → Crew → List Hold → List Process → Type 0
AreRunning pid crew holds rows = AllByRecursion (IsRunning pid crew holds) rows

-- The numbers of the master's Ready workers in the generation are these.
abbrev pub AreReady : ℕ → Generation → List Process → List ℕ → Type 0
AreReady pid g rows ready = (k : ℕ) → list_any (is_worker is_ready pid g k) rows ≡ is_in ready k

-- The master is the record's, the only one, and listens where the record says.
pub record MasterAgrees (rows : List Process) (master : Caller) (c : Running) : Type 0 where
  pub number : master.number ≡ c.pid
  pub alone : count_by is_master rows ≡ 1
  pub listeners : map listener_of master.holds ≡ c.listeners.now

-- The master's workers are the record's.
pub record WorkersAgree (rows : List Process) (master : Caller) (c : Running) : Type 0 where
  pub running : AreRunning master.number c.crew master.holds rows
  pub ready : AreReady master.number c.crew.generation rows c.ready
