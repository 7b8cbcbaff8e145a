-- How a kernel starts with a master.
--
-- Our own choice of first numbers: master 100 with parent 1, its workers from 101 on, descriptors from 3 on, as POSIX
-- gives them after the standard three.

use Rattle.std.specs.Prelude.{◌≡◌, refl, ℕ, ◌+◌, true, List, [], ◌∷◌, length, map, Option, Some, None}
use Rattle.listener_set.specs.Numbers.{numbers_below}
use Rattle.vocabulary.specs.Settings.{Settings, listeners_from}
use Rattle.vocabulary.specs.declared.plans.PidNote.{PidNote}
use Rattle.vocabulary.specs.declared.plans.PidNote.TheVariants.{InPlace, NoFile}
use Rattle.definitions.specs.Table.{Address, FilePath, Generation, Hold, Ready, Limits, Process, Master, Worker, File}
use Rattle.definitions.specs.Table.{Table}
use Rattle.worker_groups.specs.Crews.{first_posts}
use Rattle.definitions.specs.Master.{Posts, Group, Record, Agrees}
use Rattle.call_laws.specs.Pieces.{share}

abbrev pub first_note : Option FilePath → PidNote
first_note None = NoFile
first_note (Some path) = InPlace

abbrev pub first_generation : Generation
first_generation = record { image = 1; config = 1 }

-- The record of a master that starts with these settings: generation 1.1, descriptors from 3 on, of which each group
-- takes the next so many.
abbrev pub started : Settings → ℕ → List ℕ → ℕ → Record
started s wanted ready pid = record {
  listeners = listeners_from 3 s.listeners;
  posts = first_posts s.groups;
  generation = first_generation;
  ready = ready;
  wanted = wanted;
  retries = s.retries;
  timeout = s.timeout;
  pid_path = s.pid;
  note = first_note s.pid;
  pid = pid;
}

-- a socket for each address in order, from a descriptor and a socket number on
abbrev pub holds_from : ℕ → ℕ → List Address → List Hold
holds_from fd socket [] = []
holds_from fd socket (a ∷ rest) =
    (record { fd = fd; socket = socket; address = a }) ∷ holds_from (fd + 1) (socket + 1) rest

abbrev pub first_worker : Posts → List Hold → ℕ → Process
first_worker posts holds k = Worker (101 + k) 100 first_generation k Ready (share posts k holds)

abbrev pub first_rows : Posts → List Hold → ℕ → List Process
first_rows posts holds workers = Master 100 1 1 true holds ∷ map (first_worker posts holds) (numbers_below workers)

abbrev pub first_files : Option FilePath → List File
first_files None = []
first_files (Some path) = (record { path = path; owner = 100 }) ∷ []

-- The master of image 1 with the listeners from descriptor 3 on, its Ready workers from number 0 on, each with its
-- group's share, and the pid file.
abbrev pub booted : List Address → List Group → ℕ → Option FilePath → Limits → Table
booted listeners groups workers pid_file limits = record {
  rows = first_rows (first_posts groups) (holds_from 3 1 listeners) workers;
  files = first_files pid_file;
  next_process = 101 + workers;
  next_socket = length listeners + 1;
  limits = limits;
}

-- What the master of process 100 that starts with some settings knows of itself is so, however many workers run and
-- are wanted.
abbrev pub StartsAgree : Type 0
StartsAgree =
    (s : Settings) (wanted workers : ℕ) (limits : Limits) →
    Agrees (booted s.listeners s.groups workers s.pid limits) (started s wanted (numbers_below workers) 100)

---- An example: after a master and two workers the next process is 103

example : (path : Option FilePath) (limits : Limits) → (booted [] [] 2 path limits).next_process ≡ 103
example path limits = refl
