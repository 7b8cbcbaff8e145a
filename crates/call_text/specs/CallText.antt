-- Texts of calls and of their answers.
use Rattle.std.specs.Prelude.{ℕ, List, [], ◌∷◌, ◌++◌, Option, Some, None, codes, if◌then◌else◌}
use Rattle.std.specs.Fmt.{decimal}
use Rattle.listener_set.specs.declared.generation.Generation.{Generation}
use Rattle.worker_groups.specs.Crews.{Posts, Crew, is_sole}
use Rattle.vocabulary.specs.declared.calls.Call.{Call}
use Rattle.vocabulary.specs.declared.calls.Call.TheVariants.{OpenAt, CloseAt, Fork, AwaitReady, Quit, Kill, Census}
use Rattle.vocabulary.specs.declared.calls.Call.TheVariants.{AwaitGone, SpawnMaster, Adopt, WritePid, MovePid}
use Rattle.vocabulary.specs.declared.calls.Call.TheVariants.{RemovePid, Alive, Leave, Usr1, TermMaster, Ask}
use Rattle.vocabulary.specs.declared.calls.Answer.{Answer}
use Rattle.vocabulary.specs.declared.calls.Answer.TheVariants as answer
use Rattle.vocabulary.specs.declared.plans.Order.{Order}
use Rattle.vocabulary.specs.declared.plans.Order.TheVariants.{Make, ForkLacking, AwaitLacking, KillLacking}
use Rattle.listener_set.specs.GenerationText.{generation_text}
use Rattle.call_text.specs.SetText.{set_text}

---- Calls

abbrev pub worker_text : Generation → ℕ → List ℕ
worker_text g nr = generation_text g ++ 32 ∷ decimal nr

-- a new worker, and the descriptors that it gets where it doesn't get all of its master's
abbrev pub forked_text : Generation → ℕ → Option (List ℕ) → List ℕ
forked_text g nr None = worker_text g nr
forked_text g nr (Some fds) = worker_text g nr ++ (codes " fds " ++ set_text fds)

abbrev pub call_text : Call → List ℕ
call_text (OpenAt a) = codes "open " ++ a
call_text (CloseAt a) = codes "close " ++ a
call_text (Fork g nr fds) = codes "fork " ++ forked_text g nr fds
call_text (AwaitReady g nr) = codes "await-ready " ++ worker_text g nr
call_text (Quit g nr) = codes "quit " ++ worker_text g nr
call_text (Kill g nr) = codes "kill " ++ worker_text g nr
call_text (Census g) = codes "census " ++ generation_text g
call_text (AwaitGone g nr) = codes "await-gone " ++ worker_text g nr
call_text (SpawnMaster i) = codes "spawn-master " ++ decimal i
call_text Adopt = codes "adopt"
call_text (WritePid path) = codes "write-pid " ++ path
call_text (MovePid from to) = codes "move-pid " ++ (from ++ 32 ∷ to)
call_text (RemovePid path) = codes "remove-pid " ++ path
call_text (Alive i) = codes "alive " ++ decimal i
call_text Leave = codes "leave"
call_text (Usr1 g nr) = codes "usr1 " ++ worker_text g nr
call_text (TermMaster i) = codes "term-master " ++ decimal i
call_text (Ask n) = codes "ask " ++ decimal n

abbrev pub master_text : ℕ → List ℕ
master_text by = codes "m" ++ decimal by

-- a call with the master that makes it
abbrev pub call_line : ℕ → Call → List ℕ
call_line by call = master_text by ++ 32 ∷ call_text call

---- Steps of plans

-- the worker of a settle gets its number when the plan runs
abbrev pub missing_text : List ℕ → Generation → List ℕ
missing_text verb g = verb ++ generation_text g ++ codes " missing"

-- where there are several groups, it gets the descriptors of its own
abbrev pub group_part : Posts → List ℕ
group_part posts = if is_sole posts then [] else codes " fds group"

abbrev pub fork_missing : Crew → List ℕ
fork_missing crew = missing_text (codes "fork ") crew.generation ++ group_part crew.posts

abbrev pub order_text : Order → List ℕ
order_text (Make call) = call_text call
order_text (ForkLacking crew) = fork_missing crew
order_text (AwaitLacking g) = missing_text (codes "await-ready ") g
order_text (KillLacking g) = missing_text (codes "kill ") g

abbrev pub order_line : ℕ → Order → List ℕ
order_line by order = master_text by ++ 32 ∷ order_text order

---- Answers

abbrev pub answer_word : Answer → List ℕ
answer_word (answer.Opened fd) = codes "opened"
answer_word answer.InUse = codes "in-use"
answer_word answer.TooMany = codes "too-many"
answer_word answer.Denied = codes "denied"
answer_word answer.NoMemory = codes "no-memory"
answer_word answer.Fine = codes "ok"
answer_word answer.Forked = codes "forked"
answer_word answer.Again = codes "again"
answer_word answer.IsReady = codes "ready"
answer_word answer.Gone = codes "gone"
answer_word answer.Late = codes "late"
answer_word (answer.Counted ns) = codes "counted"
answer_word answer.Spawned = codes "spawned"
answer_word answer.NoImage = codes "no-image"
answer_word answer.Adopted = codes "adopted"
answer_word answer.Refused = codes "refused"
answer_word answer.IoFault = codes "io-fault"
answer_word answer.IsAlive = codes "alive"
answer_word answer.Go = codes "go"
answer_word answer.Back = codes "back"
answer_word answer.MasterGone = codes "master-gone"

-- what follows the word, if something does
abbrev pub word_tail : Answer → List ℕ
word_tail (answer.Opened fd) = 32 ∷ decimal fd
word_tail (answer.Counted ns) = 32 ∷ set_text ns
word_tail _ = []

abbrev pub answer_text : Answer → List ℕ
answer_text a = answer_word a ++ word_tail a
