-- The lines that are said to a worker.
use Rattle.std.specs.Prelude.{⊤, ℕ, ◌<◌, ◌^◌, List, Option, Some, None, option_map, bytes_eq, codes, if◌then◌else◌}
use Rattle.definitions.specs.Table.{Generation}
use Rattle.listener_set.specs.AddressText.{IsAddress}
use Rattle.plain_text.specs.NumberText.{number_in, number64_of}
use Rattle.plain_text.specs.Cuts.{cut}
use Rattle.call_text.specs.Reading.{both_of, generation_of, worker_number, address_of}
use Rattle.call_text.specs.Ranges.{IsNumber, IsWorker}
use Rattle.child_family.specs.Lines.{worker_line, listener_line, close_line, tick_line}
pub use Rattle.child_programs.specs.declared.worker_lines.WorkerLine.{WorkerLine}
pub use Rattle.child_programs.specs.declared.worker_lines.WorkerLine.TheVariants.{Named, Listener, Go, Ping, Tick, Usr1, Close, Quit}

---- What an edge says

abbrev pub worker_line_text : WorkerLine → List ℕ
worker_line_text (Named g nr start) = worker_line g nr start
worker_line_text (Listener a) = listener_line a
worker_line_text Go = codes "go"
worker_line_text Ping = codes "ping"
worker_line_text (Tick now) = tick_line now
worker_line_text Usr1 = codes "usr1"
worker_line_text (Close a) = close_line a
worker_line_text Quit = codes "quit"

-- numbers of images, configurations and starts are at most 4,294,967,295, a worker's is below 1024, a moment has 64 bits
abbrev pub IsWorkerLine : WorkerLine → Type 0
IsWorkerLine (Named g nr start) = IsWorker g nr × IsNumber start
IsWorkerLine (Listener a) = IsAddress a
IsWorkerLine Go = ⊤
IsWorkerLine Ping = ⊤
IsWorkerLine (Tick now) = now < 2 ^ 64
IsWorkerLine Usr1 = ⊤
IsWorkerLine (Close a) = IsAddress a
IsWorkerLine Quit = ⊤

---- What reading a line gives, part by part

abbrev pub named_from : Generation × (ℕ × ℕ) → WorkerLine
named_from p = Named p.0 p.1.0 p.1.1

abbrev pub named_of : List ℕ → Option WorkerLine
named_of text = option_map named_from (both_of 32 generation_of (both_of 32 worker_number number_in) text)

-- a line of one word
abbrev pub bare_of : List ℕ → Option WorkerLine
bare_of text =
    if bytes_eq text (codes "go") then Some Go
    else if bytes_eq text (codes "ping") then Some Ping
    else if bytes_eq text (codes "usr1") then Some Usr1
    else if bytes_eq text (codes "quit") then Some Quit
    else None

-- a line of a word and what it is about
abbrev pub about : List ℕ → List ℕ → Option WorkerLine
about word rest =
    if bytes_eq word (codes "worker") then named_of rest
    else if bytes_eq word (codes "listener") then option_map (λ a. Listener a) (address_of rest)
    else if bytes_eq word (codes "tick") then option_map (λ now. Tick now) (number64_of rest)
    else if bytes_eq word (codes "close") then option_map (λ a. Close a) (address_of rest)
    else None

abbrev pub line_from : List ℕ → Option (List ℕ × List ℕ) → Option WorkerLine
line_from text None = bare_of text
line_from text (Some parts) = about parts.0 parts.1

abbrev pub line_of : List ℕ → Option WorkerLine
line_of text = line_from text (cut 32 text)
