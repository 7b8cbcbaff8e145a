-- Reading a handover line by line: what a text reads as, or its first faulty line.
--
-- Each line is one of those that can come next (`Reached`), or it is the faulty one. That this reads each spelling
-- back, and nothing else, is `handovers_have_one_text`.

use Rattle.std.specs.Prelude.{◌≡◌, ◌+◌, ◌==◌, ◌&&◌, ◌∷◌, ◌++◌, if◌then◌else◌, refl, ℕ, nat_lt, nat_le, not, Bool, true}
use Rattle.std.specs.Prelude.{false, List, [], length, Option, Some, None, is_none, Result, Ok, Err, codes, bytes_eq}
use Rattle.std.specs.List.{list_any, before_first, after_first, slice_split}
use Rattle.worker_groups.specs.declared.groups.Group.{Group}
use Rattle.worker_groups.specs.Groups.{workers_in, group_refused}
use Rattle.std.specs.Result.{result_ok}
use Rattle.plain_text.specs.NumberText.{number_in, number_within}
use Rattle.plain_text.specs.Cuts.{after_prefix}
use Rattle.listener_set.specs.AddressText.{check}
use Rattle.listener_set.specs.declared.address.AddressRefusal.{AddressRefusal}
use Rattle.listener_set.specs.PathText.{is_path}
use Rattle.definitions.specs.Table.{Listener}
use Rattle.definitions.specs.Calls.{Handover, Handed}
use Rattle.master_listeners.specs.Listeners.{is_above}
use Rattle.handover_text.specs.Spelling.refusal
use Rattle.handover_text.specs.Spelling.{line_of, HandoverVersion, One, Two, HandoverRefusal, text_handed}

---- Values in lines

abbrev pub is_space : ℕ → Bool
is_space c = c == 32

abbrev pub passes : Result (Unit {0}) AddressRefusal → Bool
passes (Ok u) = true
passes (Err e) = false

abbrev pub is_address : List ℕ → Bool
is_address text = passes (check text)

---- Reading line by line

-- How far a reading has come: which lines can come next. Behind a group's line stands how many of its addresses were
-- read.
pub data Reached : Type 0 where
  AtVersion : Reached
  AtOldPid : HandoverVersion → Reached
  AtGeneration : HandoverVersion → Reached
  AtFirstListener : HandoverVersion → Reached
  AtListeners : HandoverVersion → Reached
  AtWants : Reached
  AtGroup : Group → Reached
  AtPidFile : Reached
  AtEnd : HandoverVersion → Reached
  Over : HandoverVersion → Reached

-- what was read so far
abbrev pub nothing_read : Handover
nothing_read = record {
  old_pid = 0;
  generation = record { image = 0; config = 0 };
  listeners = [];
  want = [];
  groups = [];
  pid_file = None;
}

abbrev pub Read : Type 0
Read = Result (Reached × Handover) HandoverRefusal

abbrev pub read_version : Handover → List ℕ → Read
read_version h line =
    if bytes_eq line (codes "handover 1") then Ok (AtOldPid One, h)
    else if bytes_eq line (codes "handover 2") then Ok (AtOldPid Two, h)
    else Err refusal.Version

abbrev pub with_old_pid : ℕ → HandoverVersion → Handover → Option ℕ → Read
with_old_pid n version h None = Err (refusal.Line n)
with_old_pid n version h (Some pid) =
    Ok (AtGeneration version, record h { old_pid = pid })

abbrev pub with_generation : ℕ → HandoverVersion → Handover → Option ℕ → Option ℕ → Read
with_generation n version h (Some i) (Some c) =
    Ok (AtFirstListener version, record h { generation = record { image = i; config = c } })
with_generation n version h None _ = Err (refusal.Line n)
with_generation n version h (Some i) None = Err (refusal.Line n)

-- the listener of a line, or none where its form or a value is wrong
abbrev pub listener_if : Option ℕ → List ℕ → Bool → Option Listener
listener_if (Some fd) text true = Some (record { descriptor = fd; address = text })
listener_if (Some fd) text false = None
listener_if None text ok = None

abbrev pub listener_read : List ℕ → Option Listener
listener_read rest =
    listener_if (number_within 3 66 (before_first is_space rest)) (after_first is_space rest)
    (is_address (after_first is_space rest))

-- Its descriptor is above the ones before, and then its address is a new one.
abbrev pub with_listener : ℕ → HandoverVersion → Handover → Option Listener → Read
with_listener n version h None = Err (refusal.Line n)
with_listener n version h (Some l) =
    if not (is_above l.descriptor h.listeners) then Err (refusal.OutOfOrder n)
    else if list_any (λ x. bytes_eq x.address l.address) h.listeners then Err (refusal.Line n)
    else Ok (AtListeners version, record h { listeners = h.listeners ++ l ∷ [] })

-- A new address, the 64th at most.
abbrev pub with_want : ℕ → Reached → Handover → List ℕ → Read
with_want n place h a =
    if is_address a && (not (list_any (λ b. bytes_eq b a) h.want) && nat_lt (length h.want) 64)
    then Ok (place, record h { want = h.want ++ a ∷ [] })
    else Err (refusal.Line n)

-- the groups with one more behind them, where it keeps the rules of groups
abbrev pub extended : List Group → Group → Option (List Group)
extended groups g = if is_none (group_refused groups g) then Some (groups ++ g ∷ []) else None

abbrev pub with_groups : ℕ → Reached → Handover → Option (List Group) → Read
with_groups n place h None = Err (refusal.Line n)
with_groups n place h (Some groups) = Ok (place, record h { groups = groups })

-- The workers of version 1: all addresses are of one group.
abbrev pub with_workers : ℕ → Handover → Option ℕ → Read
with_workers n h None = Err (refusal.Line n)
with_workers n h (Some workers) =
    with_groups n AtPidFile h (extended [] (record { addresses = length h.want; workers = workers }))

-- whether a group of so many workers can begin behind others: they are fewer than 16, and all their workers are at
-- most 1024
abbrev pub can_begin : List Group → ℕ → Bool
can_begin groups workers = nat_lt (length groups) 16 && nat_le (workers_in groups + workers) 1024

-- A group begins. Its line names no address, so it passes no limit of addresses: one behind it may.
abbrev pub with_group : ℕ → Handover → Option ℕ → Read
with_group n h None = Err (refusal.Line n)
with_group n h (Some workers) =
    if can_begin h.groups workers
    then Ok (AtGroup (record { addresses = 0; workers = workers }), h)
    else Err (refusal.Line n)

abbrev pub with_pid_file : ℕ → HandoverVersion → Handover → List ℕ → Read
with_pid_file n version h path =
    if is_path path
    then Ok (AtEnd version, record h { pid_file = Some path })
    else Err (refusal.Line n)

abbrev pub read_end : ℕ → HandoverVersion → Handover → List ℕ → Read
read_end n version h line = if bytes_eq line (codes "end") then Ok (Over version, h) else Err (refusal.Line n)

-- a line with the prefix is read so; another may be read otherwise
abbrev pub read_if : Option (List ℕ) → (List ℕ → Read) → Read → Read
read_if (Some rest) read otherwise = read rest
read_if None read otherwise = otherwise

abbrev pub read_want : ℕ → Reached → Handover → List ℕ → Read → Read
read_want n place h line otherwise = read_if (after_prefix (codes "want ") line) (with_want n place h) otherwise

abbrev pub read_listener : ℕ → HandoverVersion → Handover → List ℕ → Read → Read
read_listener n version h line otherwise =
    read_if (after_prefix (codes "listener ") line) (λ rest. with_listener n version h (listener_read rest)) otherwise

abbrev pub read_group : ℕ → Handover → List ℕ → Read → Read
read_group n h line otherwise =
    read_if (after_prefix (codes "group ") line) (λ rest. with_group n h (number_within 0 1024 rest)) otherwise

abbrev pub read_pid_file : ℕ → HandoverVersion → Handover → List ℕ → Read
read_pid_file n version h line =
    read_if (after_prefix (codes "pid-file ") line) (with_pid_file n version h) (read_end n version h line)

-- a line behind the last address of a group, which is among the groups then
abbrev pub read_behind : ℕ → Handover → Option (List Group) → List ℕ → Read
read_behind n h None line = Err (refusal.Line n)
read_behind n h (Some groups) line =
    read_group n (record h { groups = groups }) line (read_pid_file n Two (record h { groups = groups }) line)

abbrev pub one_more : Group → Group
one_more g = record g { addresses = g.addresses + 1 }

-- the first line of what is wanted
abbrev pub read_wanted : ℕ → HandoverVersion → Handover → List ℕ → Read
read_wanted n One h line = read_want n AtWants h line (Err (refusal.Line n))
read_wanted n Two h line = read_group n h line (Err (refusal.Line n))

-- the nth line, without its newline
abbrev pub read_line : ℕ → Reached → Handover → List ℕ → Read
read_line n AtVersion h line = read_version h line
read_line n (AtOldPid version) h line =
    read_if (after_prefix (codes "old-pid ") line) (λ rest. with_old_pid n version h (number_within 1 4294967295 rest))
    (Err (refusal.Line n))
read_line n (AtGeneration version) h line =
    read_if (after_prefix (codes "generation ") line)
    (λ rest.
    with_generation n version h (number_in (before_first is_space rest)) (number_in (after_first is_space rest)))
    (Err (refusal.Line n))
read_line n (AtFirstListener version) h line = read_listener n version h line (Err (refusal.Line n))
read_line n (AtListeners version) h line = read_listener n version h line (read_wanted n version h line)
read_line n AtWants h line =
    read_want n AtWants h line
    (read_if (after_prefix (codes "workers ") line) (λ rest. with_workers n h (number_within 0 1024 rest))
    (Err (refusal.Line n)))
read_line n (AtGroup g) h line = read_want n (AtGroup (one_more g)) h line (read_behind n h (extended h.groups g) line)
read_line n AtPidFile h line = read_pid_file n One h line
read_line n (AtEnd version) h line = read_end n version h line
read_line n (Over version) h line = Err refusal.Trailing

abbrev pub then_read : Read → (Reached → Handover → Result Handover HandoverRefusal) → Result Handover HandoverRefusal
then_read (Ok at) next = next at.0 at.1
then_read (Err e) next = Err e

-- what stands after the last newline: nothing, behind the line `end`
abbrev pub read_rest : Reached → Handover → List ℕ → Result Handover HandoverRefusal
read_rest (Over version) h [] = Ok h
read_rest (Over version) h (c ∷ cs) = Err refusal.Trailing
read_rest place h rest = Err refusal.Cut

-- Each piece but the last ends in a newline.
abbrev pub read_pieces : ℕ → Reached → Handover → List (List ℕ) → Result Handover HandoverRefusal
read_pieces n place h [] = read_rest place h []
read_pieces n place h (rest ∷ []) = read_rest place h rest
read_pieces n place h (line ∷ next ∷ more) =
    then_read (read_line n place h line) (λ place' h'. read_pieces (n + 1) place' h' (next ∷ more))

-- What reading a text gives: the handover, or its first faulty line.
abbrev pub reading : List ℕ → Result Handover HandoverRefusal
reading text = read_pieces 1 AtVersion nothing_read (slice_split (λ c. c == 10) text)

-- What a text hands to a new master: the handover that it reads as.
abbrev pub handed_by : List ℕ → Handed
handed_by text = result_ok (reading text)

-- The text is the one that hands it over, and hands over nothing else.
pub record Hands (text : List ℕ) (handed : Handed) : Type 0 where
  pub written : text ≡ text_handed handed
  pub read : handed_by text ≡ handed

---- An example: a version that there is not

example : reading (line_of (codes "handover 9")) ≡ Err refusal.Version
example = refl
