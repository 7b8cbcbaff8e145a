-- What a worker does at each line.
use Rattle.std.specs.Prelude.{ℕ, ◌≡◌, List, ◌∷◌, ◌++◌, Option, Some, None, codes}
use Rattle.std.specs.Fmt.{decimal}
use Rattle.child_programs.specs.WorkerLines.{WorkerLine, Named, Listener, Go, Ping, Tick, Usr1, Close, Quit, line_of}
use Rattle.child_programs.specs.Response.{Response, quiet, says, leaves, fails}

-- the answer to a moment names the start
abbrev pub beat_line : ℕ → ℕ → List ℕ
beat_line now start = codes "beat " ++ decimal now ++ 32 ∷ decimal start

-- A worker that was not told its start has none to name.
abbrev pub beating : ℕ → Option ℕ → Response
beating now None = fails
beating now (Some start) = says (beat_line now start)

-- by the start that the worker was told, and what the line is
abbrev pub obeyed : Option ℕ → Option WorkerLine → Response
obeyed start (Some (Named g nr new)) = quiet
obeyed start (Some (Listener a)) = quiet
obeyed start (Some Go) = says (codes "ready")
obeyed start (Some Ping) = says (codes "pong")
obeyed start (Some (Tick now)) = beating now start
obeyed start (Some Usr1) = quiet
obeyed start (Some (Close a)) = quiet
obeyed start (Some Quit) = leaves (codes "gone")
obeyed start None = fails

-- the start that it knows then
abbrev pub start_after : Option ℕ → Option WorkerLine → Option ℕ
start_after start (Some (Named g nr new)) = Some new
start_after start _ = start

-- A line led from one start to another, and to this response.
abbrev pub Obeys : Option ℕ → List ℕ → Option ℕ → Response → Type 0
Obeys old line new r = (r ≡ obeyed old (line_of line)) × (new ≡ start_after old (line_of line))
