-- A master with two workers on one address, and what is asked of it in the worked examples.
use Rattle.std.specs.Prelude.{ℕ, true, ◌≡◌, ◌==◌, ◌++◌, List, [], ◌∷◌, Option, Some, None, if◌then◌else◌, codes, length}
use Rattle.listener_set.specs.declared.generation.Generation.{Generation}
use Rattle.vocabulary.specs.declared.table.Stance.TheVariants.{Ready}
use Rattle.vocabulary.specs.declared.names.Name.{Name}
use Rattle.vocabulary.specs.declared.calls.Call.{Call}
use Rattle.vocabulary.specs.declared.calls.Answer.{Answer}
use Rattle.vocabulary.specs.declared.calls.Fate.{Fate}
use Rattle.vocabulary.specs.declared.plans.PidNote.{PidNote}
use Rattle.vocabulary.specs.declared.plans.PidNote.TheVariants.{InPlace, AtOldbin, NoFile}
use Rattle.vocabulary.specs.declared.reports.Entry.{Entry}
use Rattle.vocabulary.specs.declared.reports.Report.{Report}
use Rattle.vocabulary.specs.declared.reports.Outcome.{Outcome}
use Rattle.definitions.specs.Table.{Address, FilePath, Hold, Process, Master, Worker, Foreign, File, Table, IsFormed}
use Rattle.definitions.specs.Table.{service}
use Rattle.vocabulary.specs.Settings.{Settings}
use Rattle.theorems.specs.Settling.{HasSide}
use Rattle.definitions.specs.Master.{Posts, Record, oldbin, crew_of, Target, Sides, sides_of}
use Rattle.definitions.specs.Claims.{IsStart, HasDescriptors, run_of}
use Rattle.call_laws.specs.Pieces.{quiet}
use Rattle.definitions.specs.Run.{Pattern, Ran, report_of}

---- A master with two workers

abbrev pub first : Generation
first = record { image = 1; config = 1 }

abbrev pub second : Generation
second = record { image = 1; config = 2 }

abbrev pub second_image : Generation
second_image = record { image = 2; config = 2 }

abbrev pub port : Address
port = codes "0.0.0.0:8080"

abbrev pub other_port : Address
other_port = codes "0.0.0.0:9090"

abbrev pub pid_file : FilePath
pid_file = codes "/run/a.pid"

abbrev pub holds : List Hold
holds = record { fd = 3; socket = 1; address = port } ∷ []

abbrev pub own_rows : List Process
own_rows = Master 100 1 1 true holds ∷ Worker 101 100 first 0 Ready holds ∷ Worker 102 100 first 1 Ready holds ∷ []

abbrev pub table_with : List Process → List File → ℕ → Table
table_with rows files processes = record {
  rows = rows;
  files = files;
  next_process = 103;
  next_socket = 2;
  limits = record { processes = processes; descriptors = 64 };
}

abbrev pub pid_files : List File
pid_files = record { path = pid_file; owner = 100 } ∷ []

abbrev pub two_workers : Table
two_workers = table_with own_rows pid_files 65535

-- The file stands at the path with the suffix, and a new master that is gone has left its number at the path.
abbrev pub two_with_stale_file : Table
two_with_stale_file = table_with own_rows (record { path = pid_file; owner = 99 } ∷ record { path = oldbin pid_file; owner = 100 } ∷ []) 65535

abbrev pub two_without_file : Table
two_without_file = table_with own_rows [] 65535

-- as many processes as there may be
abbrev pub full_table : Table
full_table = table_with own_rows [] 3

-- somebody else holds the other address
abbrev pub other_held : Table
other_held = record {
  rows = own_rows ++ Foreign 103 (record { fd = 3; socket = 2; address = other_port } ∷ []) ∷ [];
  files = pid_files;
  next_process = 104;
  next_socket = 3;
  limits = record { processes = 65535; descriptors = 64 };
}

-- one group, of so many workers at the one address
abbrev pub one_group : ℕ → Posts
one_group workers = record { groups = (record { addresses = 1; workers = workers }) ∷ []; descriptors = (3 ∷ []) ∷ [] }

abbrev pub record_with : List ℕ → ℕ → ℕ → Option FilePath → PidNote → Record
record_with ready wanted retries path note = record {
  listeners = record { descriptor = 3; address = port } ∷ [];
  posts = one_group 2;
  generation = first;
  ready = ready;
  wanted = wanted;
  retries = retries;
  timeout = 60;
  pid_path = path;
  note = note;
  pid = 100;
}

-- both are ready
abbrev pub two_ready : ℕ → Record
two_ready retries = record_with (0 ∷ 1 ∷ []) 2 retries (Some pid_file) InPlace

abbrev pub two_ready_without_file : Record
two_ready_without_file = record_with (0 ∷ 1 ∷ []) 2 3 None NoFile

abbrev pub settings_of : List Address → ℕ → Settings
settings_of listeners workers = record {
  listeners = listeners;
  workers = workers;
  groups = (record { addresses = length listeners; workers = workers }) ∷ [];
  timeout = 60;
  retries = 3;
  surge = 0;
  pid = Some pid_file;
}

-- a new master beside the old one
abbrev pub two_masters : Table
two_masters = record {
  rows = own_rows ++ Master 103 100 2 true holds ∷ [];
  files = pid_files;
  next_process = 104;
  next_socket = 2;
  limits = record { processes = 65535; descriptors = 64 };
}

---- Patterns

-- one moment and the rest
abbrev pub with_moment : ℕ → List Name → Option Fate → Pattern → Pattern
with_moment n exits f rest k = if k == n then record { exits = exits; fate = f } else rest k

abbrev pub no_fault : Pattern
no_fault n = quiet

abbrev pub fails : ℕ → Fate → Pattern → Pattern
fails n f rest = with_moment n [] (Some f) rest

abbrev pub exits : ℕ → Name → Pattern → Pattern
exits n e rest = with_moment n (e ∷ []) None rest

---- What a run gives

abbrev pub m1 : Call → Answer → Entry
m1 call a = record { by = 1; call = call; answer = a }

abbrev pub m2 : Call → Answer → Entry
m2 call a = record { by = 2; call = call; answer = a }

abbrev pub report : Outcome → Option ℕ → PidNote → List ℕ → Report
report outcome cause note ready = record { outcome = outcome; cause = cause; note = note; ready = ready }

-- the run makes these calls and ends with this report
abbrev pub GivesIn : Sides → Ran → List Entry → Report → Type 0
GivesIn sides ran entries said = (ran.entries ≡ entries) × (report_of sides ran ≡ said)

-- and so does that of a target's plan
abbrev pub Gives : Record → Target → Pattern → Table → List Entry → Report → Type 0
Gives r target pattern t entries said = GivesIn (sides_of r target) (run_of r target [] pattern t) entries said

abbrev pub count_if : Option (Generation → ℕ) → Generation → Option ℕ
count_if None g = None
count_if (Some counts) g = Some (counts g)

-- so many workers of the generation serve the address, where it is a key
abbrev pub count_at : Ran → Address → Generation → Option ℕ
count_at ran a g = count_if (service ran.last.table a) g

---- The premises can be met

abbrev pub HasStart : Type 0
HasStart =
    IsStart two_workers (two_ready 3) × HasDescriptors two_workers (two_ready 3)
    × IsFormed two_masters × HasSide two_masters 1 100 holds (crew_of (two_ready 3)) (0 ∷ 1 ∷ [])
    × IsStart two_with_stale_file (record_with (0 ∷ 1 ∷ []) 2 3 (Some pid_file) AtOldbin)
