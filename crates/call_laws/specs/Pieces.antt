-- Pieces of the definitions by names of their own: planners draw them one by one, and lemmas speak of each.
--
-- Our own. A name stands for a text of the definitions, or for what some of them say together, and adds nothing.

use Rattle.std.specs.Prelude.{◌≡◌, ◌∷◌, ◌++◌, ◌&&◌, ◌==◌, ◌+◌, if◌then◌else◌}
use Rattle.vocabulary.specs.Words.{refl, ℕ, true, false, List, [], Bool, Option, Some, None, option_and_then, option_or}
use Rattle.vocabulary.specs.Words.{option_map, unwrap_or, is_some, then_some, map, filter, filter_map, list_any, lacks}
use Rattle.vocabulary.specs.Words.{get_or, not, bytes_eq, Posts, fds_of, length, nat_lt}
use Rattle.vocabulary.specs.declared.calls.Reply.TheVariants as reply
use Rattle.vocabulary.specs.declared.calls.Answer.TheVariants as answer
use Rattle.vocabulary.specs.declared.calls.Fate.{Fate}
use Rattle.definitions.specs.Table.{Address, FilePath, File, Generation, Hold, Listener, Process, Table, Caller, Stance}
use Rattle.definitions.specs.Table.{Starting, Ready, Draining, Exited, same_stance, is_active, is_worker, is_master}
use Rattle.definitions.specs.Table.{number_of, same_generation, bears, is_live_where, is_worker_where, is_serving, is_held}
use Rattle.definitions.specs.Table.{owner_at, Master, Worker}
use Rattle.definitions.specs.Calls.{change, with_stance, without_exited, is_active_worker, Call, CloseAt, Quit, Kill}
use Rattle.definitions.specs.Calls.{Usr1, Census, Answer, Stepped, gives, each_row, drop_where, is_of, with_holds}
use Rattle.definitions.specs.Calls.{census_of, is_exited_of, is_image, is_of_image, suits, with_file, without_file}
use Rattle.definitions.specs.Calls.{Handed, lowest_free, put_hold, has_process_room, with_new_row, own_step, step_with}
use Rattle.definitions.specs.Calls.{fault_of, shared}
use Rattle.definitions.specs.Run.{Tree, Branches, Does, Nothing, Make, Branch, Reply, Order, Ending, call_of, Moment}
use Rattle.definitions.specs.Run.{same_reply, plain_reply, lacked_by, Entry, Progress, Ran, Lack}
use Rattle.definitions.specs.Claims.{is_leave_call, one_then, is_quit, is_wait}
use Rattle.definitions.specs.Master.{PidNote}
use Rattle.definitions.specs.Plans.{on, tells, failed_replies}

---- What follows a call

-- the replies to a call, the plain one first
abbrev pub replies_to : Call → List Reply
replies_to call = plain_reply call ∷ failed_replies call

abbrev pub among : List Reply → Reply → Bool
among replies r = list_any (λ x. same_reply x r) replies

-- a census that lacks nothing of its set is full
abbrev pub full_or_short : List ℕ → Reply
full_or_short lacking = if list_any (λ k. true) lacking then reply.Short else reply.Full

abbrev pub fork_edges : Tree → Tree → Branches
fork_edges ok bad = on (reply.Forked ∷ []) ok (on (reply.Again ∷ reply.NoMemory ∷ []) bad Nothing)

abbrev pub await_edges : Tree → Tree → Tree → Branches
await_edges ok gone late = on (reply.IsReady ∷ []) ok (on (reply.Gone ∷ []) gone (on (reply.Late ∷ []) late Nothing))

abbrev pub gone_edges : Tree → Tree → Branches
gone_edges gone late = on (reply.Gone ∷ []) gone (on (reply.Late ∷ []) late Nothing)

abbrev pub spawn_edges : Tree → Tree → Branches
spawn_edges ok bad = on (reply.Spawned ∷ []) ok (on (reply.Again ∷ reply.NoMemory ∷ reply.NoImage ∷ []) bad Nothing)

abbrev pub census_edges : Tree → Tree → Branches
census_edges full short = on (reply.Full ∷ []) full (on (reply.Short ∷ []) short Nothing)

abbrev pub census : ℕ → Generation → List ℕ → Branches → Tree
census by g set branches = Does by (Make (Census g)) set branches

-- what follows a reply: the note that is set, and the rest
abbrev pub branch : Branches → Reply → Option (Option PidNote × Tree)
branch Nothing r = None
branch (Branch replies said rest more) r =
    elim (among replies r) as (λ b. Option (Option PidNote × Tree)) [
      | true ↦ Some (said, rest)
      | false ↦ branch more r
    ]

-- the number that a settle's step names: the lowest that the last census lacked
abbrev pub lowest : List ℕ → ℕ
lowest lacking = get_or lacking 0 0

---- Workers that are told, and addresses that are closed

abbrev pub quits : ℕ → Generation → List ℕ → Tree → Tree
quits by g ks rest = tells by (map (Quit g) ks) rest

abbrev pub kills : ℕ → Generation → List ℕ → Tree → Tree
kills by g ks rest = tells by (map (Kill g) ks) rest

abbrev pub usr1s : ℕ → Generation → List ℕ → Tree → Tree
usr1s by g ks rest = tells by (map (Usr1 g) ks) rest

abbrev pub closes : ℕ → List Address → Tree → Tree
closes by addresses rest = tells by (map CloseAt addresses) rest

---- What a row is

abbrev pub is_starting : Stance → Bool
is_starting s = same_stance Starting s

abbrev pub is_ready : Stance → Bool
is_ready s = same_stance Ready s

abbrev pub is_draining : Stance → Bool
is_draining s = same_stance Draining s

abbrev pub is_exited : Stance → Bool
is_exited s = same_stance Exited s

abbrev pub is_any : Stance → Bool
is_any s = true

-- the master's own row
abbrev pub is_row : ℕ → Process → Bool
is_row caller p = is_master p && (number_of p == caller)

-- a master of the image with the number
abbrev pub is_image_row : ℕ → ℕ → Process → Bool
is_image_row image m p = is_image image p && (number_of p == m)

-- a worker of any master with the name, in such a stance
abbrev pub is_named : (Stance → Bool) → Generation → ℕ → Process → Bool
is_named stance g k row = is_worker_where stance (λ n. true) (bears g k) row

-- The number is a live master's.
abbrev pub is_live_master : ℕ → Process → Bool
is_live_master m row = is_live_where (λ n holds. n == m) row

-- a live master whose holds pass a test
abbrev pub is_live_with : (List Hold → Bool) → Process → Bool
is_live_with test row = is_live_where (λ n holds. test holds) row

-- the process with the number, where it is a Ready worker with the worker number
abbrev pub is_ready_as : ℕ → ℕ → Process → Bool
is_ready_as p k row = is_worker_where (same_stance Ready) (λ n. n == p) (λ g j. j == k) row

-- the process with the number, where it is a Starting or Ready worker
abbrev pub is_active_process : ℕ → Process → Bool
is_active_process p row = is_active_worker row && (number_of row == p)

-- the process with the number, where it bears the name
abbrev pub is_process_of : ℕ → Generation → ℕ → Process → Bool
is_process_of p g k row = is_worker_where (λ s. true) (λ n. n == p) (bears g k) row

-- a Ready worker of the generation that holds the address
abbrev pub is_serving_as : Address → Generation → Process → Bool
is_serving_as a g row = is_serving a (λ h. same_generation h g) row

abbrev pub is_ready_with : Address → Process → Bool
is_ready_with a row = is_serving a (λ g. true) row

---- What a row becomes

abbrev pub made_exited : Process → Process
made_exited p = with_stance Exited p

abbrev pub made_ready : Process → Process
made_ready p = with_stance Ready p

abbrev pub made_draining : Process → Process
made_draining p = with_stance Draining p

abbrev pub with_rows : Table → List Process → Table
with_rows t rows = record t { rows = rows }

abbrev pub caller_if : Bool → ℕ → List Hold → Option Caller → Option Caller
caller_if found n hs rest = if found then Some (record { number = n; holds = hs }) else rest

abbrev pub caller_exits : Option Caller → List Process → List Process
caller_exits caller rows =
    unwrap_or
    (option_map (λ (c : Caller). filter_map (without_exited c.number (λ q. list_any (is_live_master q) rows)) rows)
    caller) rows

---- Holds and files

abbrev pub is_at : Address → Hold → Bool
is_at a h = bytes_eq h.address a

abbrev pub has_socket : Address → ℕ → List Hold → Bool
has_socket a socket hs = list_any (λ h. bytes_eq h.address a && (h.socket == socket)) hs

abbrev pub lacks_address : Address → List Hold → List Hold
lacks_address a hs = filter (λ h. not (bytes_eq h.address a)) hs

abbrev pub listener_of : Hold → Listener
listener_of h = record { descriptor = h.fd; address = h.address }

-- what a worker holds of what its master holds
abbrev pub share : Posts → ℕ → List Hold → List Hold
share posts k holds = shared (fds_of posts k) holds

abbrev pub owner_if : Bool → ℕ → Option ℕ → Option ℕ
owner_if found owner rest = if found then Some owner else rest

abbrev pub with_files : List File → Table → Table
with_files files t = record t { files = files }

---- Calls

abbrev pub closed : Caller → Address → Table → Stepped
closed c a t = gives answer.Fine (each_row (change (is_of c.number) (with_holds (lacks_address a))) t)

abbrev pub quitted : Caller → Generation → ℕ → Table → Stepped
quitted c g k t = gives answer.Fine (each_row (change (is_worker is_active c.number g k) made_draining) t)

abbrev pub killed : Caller → Generation → ℕ → Table → Stepped
killed c g k t = gives answer.Fine (each_row (drop_where (is_worker is_any c.number g k)) t)

abbrev pub counted : Caller → Generation → Table → Stepped
counted c g t = gives (answer.Counted (census_of c.number g t.rows)) (each_row (drop_where (is_exited_of c.number)) t)

abbrev pub terminated : ℕ → Table → Stepped
terminated image t = gives answer.Fine (each_row (drop_where (is_of_image image t.rows)) t)

abbrev pub written : Caller → FilePath → Table → Stepped
written c path t = gives answer.Fine (with_files (with_file path c.number t.files) t)

abbrev pub unlinked : FilePath → Table → Stepped
unlinked path t = gives answer.Fine (with_files (without_file path t.files) t)

-- what becomes of a row where a master leaves, of which nobody hears
abbrev pub without_master : ℕ → Process → Option Process
without_master m p = without_exited m (λ parent. false) p

abbrev pub departed : Caller → Table → Stepped
departed c t = gives answer.Fine (each_row (without_master c.number) t)

abbrev pub with_new_socket : Table → ℕ → Hold → Table
with_new_socket t caller h = record t {
  rows = filter_map (change (is_row caller) (with_holds (put_hold h))) t.rows;
  next_socket = t.next_socket + 1;
}

abbrev pub opened : Caller → Address → Table → Stepped
opened c a t =
    if is_held a t.rows then gives answer.InUse t
    else if nat_lt (length c.holds) t.limits.descriptors
    then
    gives (answer.Opened (lowest_free c.holds))
    (with_new_socket t c.number (record { fd = lowest_free c.holds; socket = t.next_socket; address = a }))
    else gives answer.TooMany t

abbrev pub forked : Caller → Generation → ℕ → Option (List ℕ) → Table → Stepped
forked c g k fds t =
    if list_any (is_worker is_active c.number g k) t.rows then gives answer.Again t
    else if has_process_room t
    then gives answer.Forked (with_new_row t (λ n. Worker n c.number g k Starting (shared fds c.holds)))
    else gives answer.Again t

abbrev pub awaited : Caller → Generation → ℕ → Table → Stepped
awaited c g k t =
    if list_any (is_worker is_active c.number g k) t.rows
    then gives answer.IsReady (each_row (change (is_worker is_starting c.number g k) made_ready) t)
    else gives answer.Gone (each_row (drop_where (is_worker is_exited c.number g k)) t)

abbrev pub awaited_gone : Caller → Generation → ℕ → Table → Stepped
awaited_gone c g k t =
    if list_any (is_worker is_active c.number g k) t.rows then gives answer.Late t
    else gives answer.Gone (each_row (drop_where (is_worker is_any c.number g k)) t)

abbrev pub spawned : Caller → ℕ → Table → Stepped
spawned c image t =
    if list_any (is_image image) t.rows then gives answer.Again t
    else if has_process_room t then gives answer.Spawned (with_new_row t (λ n. Master n c.number image true c.holds))
    else gives answer.Again t

abbrev pub asked_alive : Option Caller → ℕ → Table → Stepped
asked_alive lives image t =
    if is_some lives then gives answer.IsAlive t else gives answer.Gone (each_row (drop_where (is_image image)) t)

abbrev pub adopted : Handed → ℕ → Caller → Table → Stepped
adopted handed image c t = if suits handed image c.holds then gives answer.Adopted t else gives answer.Refused t

abbrev pub moved_if : Option ℕ → FilePath → FilePath → Table → Stepped
moved_if owner from to t =
    unwrap_or
    (option_map (λ (n : ℕ). gives answer.Fine (record t { files = with_file to n (without_file from t.files) })) owner)
    (gives answer.IoFault t)

abbrev pub moved : FilePath → FilePath → Table → Stepped
moved from to t = moved_if (owner_at from t.files) from to t

abbrev pub fault_or_own : Option Answer → Handed → ℕ → Caller → Call → Table → Stepped
fault_or_own fault handed image c call t =
    unwrap_or (option_map (λ a. gives a t) fault) (own_step handed image c call t)

-- the answer that is given at a call by its fate, where one is
abbrev pub fault_at : Caller → Call → Option Fate → Table → Option Answer
fault_at c call f t = option_and_then (λ fate. fault_of c call fate t) f

---- Runs

-- a moment at which nobody exits and nothing fails
abbrev pub quiet : Moment
quiet = record { exits = []; fate = None }

-- what the last count of all lacked
abbrev pub lacked_last : List Lack → List ℕ
lacked_last lacked = get_or (map (λ (lack : Lack). lack.numbers) lacked) 0 []

-- a call that is not answered plainly, or a census that lacks a number of its set
abbrev pub went_wrong : Call → Reply → Bool
went_wrong call r = not (same_reply r (plain_reply call))

abbrev pub noted : Option PidNote → Progress → Progress
noted said p = record p { note = unwrap_or said p.note }

-- the answer to a step's call, after the exits of its moment
abbrev pub answered : Handed → ℕ → Order → Option Fate → Progress → Stepped
answered handed by order f p = step_with handed by (call_of order (lacked_by by p.lacked)) f p.table

-- a run that makes no call
abbrev pub ends_at : Ending → Progress → Ran
ends_at e p = record { entries = []; passed = p ∷ []; ending = e; last = p }

abbrev pub with_entry : Entry → Progress → Progress → Ran → Ran
with_entry entry before middle rest =
    record rest { entries = entry ∷ rest.entries; passed = before ∷ middle ∷ rest.passed }

-- the worker was told to quit, and was waited for
abbrev pub was_waited_for : Generation → ℕ → List Entry → Bool
was_waited_for g k entries = one_then (λ e. is_quit (bears g k) e.call) (λ e. is_wait (bears g k) e.call) entries

-- the executing masters at a call, and after it
abbrev pub executing_at : Call → List ℕ → List ℕ → List ℕ
executing_at call executing heirs = if is_leave_call call then executing ++ heirs else executing

abbrev pub executing_after : Call → List ℕ → List ℕ → List ℕ
executing_after call executing heirs = if is_leave_call call then heirs else executing

-- what a master's last count lacks, after an answer to it
abbrev pub lacking_after : List ℕ → Answer → List ℕ → List ℕ
lacking_after set (answer.Counted ns) lacking = lacks set ns
lacking_after set _ lacking = lacking

-- the cause after one call more: the one before it, or else this call's number, if it went wrong
abbrev pub first_cause : Option ℕ → Bool → ℕ → Option ℕ
first_cause before wrong n = option_or before (then_some wrong n)

---- An example: one worker is told, and then what follows

example :
    (by : ℕ) (g : Generation) (rest : Tree) → quits by g (7 ∷ []) rest
    ≡ Does by (Make (Quit g 7)) [] (on (reply.Fine ∷ []) rest Nothing)
example by g rest = refl
