-- What an edge does at a call: the conversation that it holds, and the answer.
use Rattle.std.specs.Prelude.{ℕ, ◌+◌, ◌==◌, nat_lt, Bool, true, not, List, [], ◌∷◌, Option, Some, None, option_and_then}
use Rattle.std.specs.Prelude.{Result, Ok, Err, filter, find, map, length, bytes_eq, codes, if◌then◌else◌}
use Rattle.std.specs.List.{list_any}
use Rattle.master_listeners.specs.Listeners.{only_under}
use Rattle.definitions.specs.Table.{Address, Generation}
use Rattle.definitions.specs.After.{listens_on, opened_from}
use Rattle.definitions.specs.Calls.{Call, OpenAt, CloseAt, Fork, AwaitReady, Quit, Kill, Census, AwaitGone, SpawnMaster}
use Rattle.definitions.specs.Calls.{Adopt, WritePid, MovePid, RemovePid, Alive, Leave, Usr1, TermMaster, Ask, Answer}
use Rattle.vocabulary.specs.declared.calls.Answer.TheVariants as answer
use Rattle.call_text.specs.CallText.{call_line}
use Rattle.call_text.specs.AnswerReading.{answer_to}
use Rattle.call_text.specs.SetReading.{set_of}
use Rattle.plain_text.specs.Cuts.{after_prefix}
use Rattle.plain_text.specs.Lines.{lines_of}
use Rattle.child_family.specs.Told.{Hearing, line, too_long, ended}
use Rattle.child_family.specs.declared.role.Role.TheVariants as role
use Rattle.child_family.specs.declared.role.StartFault.{StartFault}
use Rattle.child_family.specs.declared.role.StartFault.TheVariants as fault
use Rattle.child_family.specs.Talk.{Talk, ends, starts_child, says, hears, stops_child}
use Rattle.child_family.specs.Talk.{writes_file, renames_file, removes_file}
use Rattle.child_workers.specs.declared.worker.Worker.{Worker}
use Rattle.child_workers.specs.declared.who.Who.TheVariants.{Any, Serving, ReadyOf, Named, ServingNamed, StartingNamed, ReadyNamed, IsReady}
use Rattle.child_workers.specs.declared.worker.Stage.TheVariants.{Starting, Ready, Draining}
use Rattle.child_workers.specs.Workers.{means, in_place, without, without_id, moved, moved_first, without_first, numbers_of}
use Rattle.child_edge.specs.State.{State, Listener, ChildMaster}
use Rattle.child_family.specs.Lines.{worker_line, listener_line, close_line, tick_line, is_line, pid_text}
use Rattle.child_edge.specs.Each.{says_each, says_lines, says_unless, stops_each, counts_each, awaits_each, beats_each}

-- what an edge does: it ends with what the edge knows then, and the answer
abbrev pub Turn : Type 0
Turn = Talk (State × Answer)

-- nothing is asked, and nothing changes
abbrev pub answers : State → Answer → Turn
answers s a = ends (s, a)

abbrev pub with_workers : State → List Worker → State
with_workers s ws = record s { workers = ws }

abbrev pub fine_or_fault : Bool → Answer
fine_or_fault ok = if ok then answer.Fine else answer.IoFault

---- Listening: its own descriptors

abbrev pub descriptor_of : Address → List Listener → ℕ
descriptor_of a [] = 0
descriptor_of a (l ∷ ls) = if bytes_eq l.address a then l.descriptor else descriptor_of a ls

abbrev pub closed : Address → List Listener → List Listener
closed a ls = filter (λ (l : Listener). not (bytes_eq l.address a)) ls

-- at the lowest free descriptor of 3 to 66
abbrev pub opening : State → Address → Turn
opening s a =
    if listens_on s.listeners a then answers s answer.InUse
    else if nat_lt (length s.listeners) 64
    then answers (record s { listeners = opened_from 3 a s.listeners }) (answer.Opened (descriptor_of a (opened_from 3 a s.listeners)))
    else answers s answer.TooMany

abbrev pub closing : State → Address → Turn
closing s a = says_each Serving (close_line a) s.workers (answers (record s { listeners = closed a s.listeners }) answer.Fine)

---- Workers

abbrev pub new_worker : ℕ → Generation → ℕ → ℕ → Worker
new_worker id g nr start = record { id = id; generation = g; nr = nr; start = start; stage = Starting; beat = None }

-- the listeners that a worker is told: those under the descriptors that it is forked with, or all
abbrev pub given : Option (List ℕ) → List Listener → List Listener
given None ls = ls
given (Some fds) ls = only_under fds ls

-- what a worker is told once it is started: what it is, where it listens, and to go
abbrev pub greeted : Worker → List Listener → Turn → Turn
greeted w listeners rest =
    says w.id (worker_line w.generation w.nr w.start) (λ told.
    says_lines w.id (map (λ (l : Listener). listener_line l.address) listeners) (
    says w.id (codes "go") (λ goes. rest)))

-- A number that an old worker had is the new one's alone: the old one was waited for.
abbrev pub forked : State → Generation → ℕ → Option (List ℕ) → Result ℕ StartFault → Turn
forked s g nr fds (Ok id) =
    greeted (new_worker id g nr s.starts) (given fds s.listeners) (
    answers (with_workers s (in_place (new_worker id g nr s.starts) (without_id id s.workers))) answer.Forked)
forked s g nr fds (Err fault.NoMemory) = answers s answer.NoMemory
forked s g nr fds (Err fault.Again) = answers s answer.Again
forked s g nr fds (Err fault.NoImage) = answers s answer.Again

-- starts are counted, failed ones too; there are 4,294,967,295 of them
abbrev pub forking : State → Generation → ℕ → Option (List ℕ) → Turn
forking s g nr fds =
    if nat_lt s.starts 4294967295
    then starts_child (role.Worker g nr (s.starts + 1)) (forked (record s { starts = s.starts + 1 }) g nr fds)
    else answers s answer.Again

-- what was heard of a worker that starts
abbrev pub readied : State → Generation → ℕ → Worker → Hearing → Turn
readied s g nr w (line said) =
    if bytes_eq said (codes "ready")
    then answers (with_workers s (moved_first (StartingNamed g nr) Ready s.workers)) answer.IsReady
    else answers s answer.Late
readied s g nr w too_long = answers s answer.Late
readied s g nr w ended = stops_child w.id (answers (with_workers s (without_first (StartingNamed g nr) s.workers)) answer.Gone)

abbrev pub ready_or_gone : Bool → Answer
ready_or_gone ready = if ready then answer.IsReady else answer.Gone

-- The first of the name that starts is heard. Without one, a ready one of the name is ready.
abbrev pub readying : State → Generation → ℕ → Option Worker → Turn
readying s g nr (Some w) = hears w.id (readied s g nr w)
readying s g nr None = answers s (ready_or_gone (list_any (means (ReadyNamed g nr)) s.workers))

abbrev pub quitting : State → Generation → ℕ → Turn
quitting s g nr = says_each (ServingNamed g nr) (codes "quit") s.workers (answers (with_workers s (moved (ServingNamed g nr) Draining s.workers)) answer.Fine)

abbrev pub killing : State → Generation → ℕ → Turn
killing s g nr = stops_each (Named g nr) s.workers (answers (with_workers s (without (Named g nr) s.workers)) answer.Fine)

-- first each is asked, and then each is heard
abbrev pub counting : State → Generation → Turn
counting s g =
    says_each (ReadyOf g) (codes "ping") s.workers (
    counts_each (ReadyOf g) [] s.workers (λ left.
    answers (with_workers s left) (answer.Counted (numbers_of (ReadyOf g) left))))

abbrev pub gone_or_late : Bool → Answer
gone_or_late late = if late then answer.Late else answer.Gone

abbrev pub awaiting : State → Generation → ℕ → Turn
awaiting s g nr = awaits_each (Named g nr) [] s.workers (λ left late. answers (with_workers s left) (gone_or_late late))

---- Masters

-- without a child master
abbrev pub alone : State → State
alone s = record s { child = None }

-- a child master that is told the lines of the handover
abbrev pub spawned : State → ℕ → Result ℕ StartFault → Turn
spawned s image (Ok id) =
    says_lines id (lines_of s.text) (
    answers (record s { child = Some (record { image = image; id = id }); workers = without_id id s.workers }) answer.Spawned)
spawned s image (Err fault.NoMemory) = answers s answer.NoMemory
spawned s image (Err fault.Again) = answers s answer.Again
spawned s image (Err fault.NoImage) = answers s answer.NoImage

-- there is one child master at most
abbrev pub spawning : State → ℕ → Option ChildMaster → Turn
spawning s image (Some master) = answers s answer.Again
spawning s image None = starts_child (role.Master image) (spawned s image)

-- a child master that does not answer is stopped
abbrev pub ended_master : State → ℕ → Turn
ended_master s id = stops_child id (answers (alone s) answer.Gone)

abbrev pub living : State → ℕ → Option ChildMaster → Turn
living s image None = answers s answer.Gone
living s image (Some master) =
    if master.image == image
    then says master.id (codes "alive") (λ ok.
    if ok then hears master.id (λ h. if is_line (codes "alive") h then answers s answer.IsAlive else ended_master s master.id)
    else ended_master s master.id)
    else answers s answer.Gone

abbrev pub terminating : State → ℕ → Option ChildMaster → Turn
terminating s image None = answers s answer.Fine
terminating s image (Some master) = if master.image == image then stops_child master.id (answers (alone s) answer.Fine) else answers s answer.Fine

abbrev pub leaving : State → Turn
leaving s = stops_each Any s.workers (answers (record s { workers = []; left = true }) answer.Fine)

abbrev pub adopted_or_refused : Bool → Answer
adopted_or_refused adopted = if adopted then answer.Adopted else answer.Refused

---- The calls of its own image

abbrev pub own_turn : State → Call → Turn
own_turn s (OpenAt a) = opening s a
own_turn s (CloseAt a) = closing s a
own_turn s (Fork g nr fds) = forking s g nr fds
own_turn s (AwaitReady g nr) = readying s g nr (find (means (StartingNamed g nr)) s.workers)
own_turn s (Quit g nr) = quitting s g nr
own_turn s (Kill g nr) = killing s g nr
own_turn s (Census g) = counting s g
own_turn s (AwaitGone g nr) = awaiting s g nr
own_turn s (SpawnMaster image) = spawning s image s.child
own_turn s Adopt = answers s (adopted_or_refused s.adopted)
own_turn s (WritePid path) = writes_file path (pid_text s.pid) (λ ok. answers s (fine_or_fault ok))
own_turn s (MovePid from to) = renames_file from to (λ ok. answers s (fine_or_fault ok))
own_turn s (RemovePid path) = removes_file path (λ ok. answers s (fine_or_fault ok))
own_turn s (Alive image) = living s image s.child
own_turn s Leave = leaving s
own_turn s (Usr1 g nr) = says_each (ServingNamed g nr) (codes "usr1") s.workers (answers s answer.Fine)
own_turn s (TermMaster image) = terminating s image s.child
own_turn s (Ask question) = answers s answer.Back

---- The calls of another image, which its child master makes

-- a child master whose pipe fails, or that says something else, is stopped
abbrev pub gives_up : State → ℕ → Turn
gives_up s id = stops_child id (answers (alone s) answer.MasterGone)

-- the answer that a child master was heard to give, one that the call lists
abbrev pub answer_heard : Call → Hearing → Option Answer
answer_heard call (line said) = answer_to call said
answer_heard call too_long = None
answer_heard call ended = None

-- the lines of a call, as a child master is told it; one that starts a master itself is told the handover besides
abbrev pub lines_of_call : List ℕ → ℕ → Call → List (List ℕ)
lines_of_call text by (SpawnMaster image) = call_line by (SpawnMaster image) ∷ lines_of text
lines_of_call text by call = call_line by call ∷ []

-- by what was read of an answer
abbrev pub read_or : Turn → (Answer → Turn) → Option Answer → Turn
read_or otherwise read None = otherwise
read_or otherwise read (Some a) = read a

-- a call is said to a child, which answers it
abbrev pub exchanged : ℕ → ℕ → Call → List ℕ → Turn → (Answer → Turn) → Turn
exchanged id by call text otherwise read = says_unless id (lines_of_call text by call) otherwise (hears id (λ h. read_or otherwise read (answer_heard call h)))

-- an answer is passed back
abbrev pub passing : State → ℕ → Call → Option ChildMaster → Turn
passing s by call None = answers s answer.MasterGone
passing s by call (Some master) = exchanged master.id by call s.text (gives_up s master.id) (answers s)

---- All calls, and the tick

abbrev pub turn_of : State → ℕ → Call → Turn
turn_of s by call =
    if by == s.image then (if s.left then answers s answer.MasterGone else own_turn s call)
    else passing s by call s.child

-- Each ready worker is told the moment, and then each is heard. The answer counts those that beat then.
abbrev pub tick_turn : State → ℕ → Turn
tick_turn s now =
    says_each IsReady (tick_line now) s.workers (
    beats_each now [] [] s.workers (λ ws numbers.
    answers (with_workers s ws) (answer.Counted numbers)))

---- A tick after an upgrade: the workers are the child master's

-- the numbers that a child master was heard to count: `counted SET`
abbrev pub count_in : Hearing → Option (List ℕ)
count_in (line said) = option_and_then set_of (after_prefix (codes "counted ") said)
count_in too_long = None
count_in ended = None

-- by what was read of a count
abbrev pub count_or : Turn → (List ℕ → Turn) → Option (List ℕ) → Turn
count_or otherwise read None = otherwise
count_or otherwise read (Some numbers) = read numbers

-- a tick is said to a child, which answers with a count
abbrev pub exchanged_tick : ℕ → ℕ → Turn → (List ℕ → Turn) → Turn
exchanged_tick id now otherwise read = says id (tick_line now) (λ ok. if ok then hears id (λ h. count_or otherwise read (count_in h)) else otherwise)

-- a child master whose pipe fails, or that counts nobody, is stopped, and nobody beat
abbrev pub beats_nobody : State → ℕ → Turn
beats_nobody s id = stops_child id (answers (alone s) (answer.Counted []))

-- the count of a child master is passed back
abbrev pub passing_tick : State → ℕ → Option ChildMaster → Turn
passing_tick s now None = answers s (answer.Counted [])
passing_tick s now (Some master) = exchanged_tick master.id now (beats_nobody s master.id) (λ numbers. answers s (answer.Counted numbers))

-- A master that has left passes the tick on.
abbrev pub reigning_tick : State → ℕ → Turn
reigning_tick s now = if s.left then passing_tick s now s.child else tick_turn s now
