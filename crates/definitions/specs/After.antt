-- What a master's record becomes once a plan has ended.
--
-- After POSIX: a descriptor that is opened is the lowest free one. Our own: after a way back a master is what it was.

use Rattle.vocabulary.specs as vocabulary
use Rattle.definitions.specs as above
use Rattle.std.specs.Prelude.{◌≡◌, ◌+◌, ◌==◌, ◌&&◌, ◌∷◌, if◌then◌else◌}
use vocabulary.Words.{refl, codes, ℕ, nat_lt, nat_le, Bool, not, List, [], Option, Some, None, is_none, option_map}
use vocabulary.Words.{option_and_then, unwrap_or, filter, bytes_eq, length, list_any, has, first_from, Settings}
use vocabulary.Words.{then_some, map, take, drop}
use vocabulary.declared.reports.Outcome.TheVariants as outcome
use vocabulary.declared.targets.Target.TheVariants as target
use above.Table.{Address, Generation, Table, Caller, live_master}
use above.Master.{Posts, Crew, Group, Listener, Record, generation_wanted, Target, reload_generation}
use above.Master.{upgrade_generation, has_next}
use vocabulary.declared.plans.Side.TheVariants as side
use vocabulary.declared.reports.Report.{Report}
use vocabulary.declared.reports.Outcome.{Outcome}

---- Listeners that open and close

-- whether an address is listened on
abbrev pub listens_on : List Listener → Address → Bool
listens_on ls a = list_any (λ (l : Listener). bytes_eq l.address a) ls

abbrev pub listener_at : ℕ → Address → Listener
listener_at fd a = record { descriptor = fd; address = a }

-- an address at the lowest free descriptor; the listeners are those from the descriptor fd on, ascending
abbrev pub opened_from : ℕ → Address → List Listener → List Listener
opened_from fd a [] = listener_at fd a ∷ []
opened_from fd a (l ∷ ls) = if l.descriptor == fd then l ∷ opened_from (fd + 1) a ls else listener_at fd a ∷ l ∷ ls

-- addresses opened one after another, each at the descriptor that is the lowest free one then; a process has 64
-- descriptors
abbrev pub all_opened : List Address → List Listener → Option (List Listener)
all_opened [] ls = Some ls
all_opened (a ∷ more) ls = if nat_lt (length ls) 64 then all_opened more (opened_from 3 a ls) else None

-- the addresses of a list that are not listened on, in its order
abbrev pub added : List Address → List Listener → List Address
added addresses ls = filter (λ a. not (listens_on ls a)) addresses

-- the listeners whose addresses a list has; the others are closed
abbrev pub still_wanted : List Address → List Listener → List Listener
still_wanted addresses ls = filter (λ (l : Listener). has addresses l.address) ls

-- with what is added
abbrev pub with_added : List Address → List Listener → Option (List Listener)
with_added addresses ls = all_opened (added addresses ls) ls

-- A reload opens what is added, and closes what is dropped at its end.
abbrev pub reloaded : List Address → List Listener → Option (List Listener)
reloaded addresses ls = option_map (still_wanted addresses) (with_added addresses ls)

-- The new master of an upgrade closes what is dropped, and then opens what is added.
abbrev pub upgraded : List Address → List Listener → Option (List Listener)
upgraded addresses ls = with_added addresses (still_wanted addresses ls)

---- Where the workers of a target listen

-- the descriptors of the listeners whose addresses a list has
abbrev pub descriptors_at : List Listener → List Address → List ℕ
descriptors_at ls addresses =
    map (λ (l : Listener). l.descriptor) (filter (λ (l : Listener). has addresses l.address) ls)

-- the descriptors of each group: the groups divide the addresses in order
abbrev pub descriptors_by : List Group → List Address → List Listener → List (List ℕ)
descriptors_by [] addresses ls = []
descriptors_by (g ∷ gs) addresses ls =
    descriptors_at ls (take g.addresses addresses) ∷ descriptors_by gs (drop g.addresses addresses) ls

abbrev pub posts_of : List Group → List Address → List Listener → Posts
posts_of groups addresses ls = record { groups = groups; descriptors = descriptors_by groups addresses ls }

-- The listeners while the target's workers are started: with what is added, and, of an upgrade, without what is
-- dropped. Where the added ones are too many no worker is started, and it does not matter.
abbrev pub listeners_then : Record → Target → List Listener
listeners_then r (target.Reload s) = unwrap_or (with_added s.listeners r.listeners) r.listeners
listeners_then r (target.Upgrade s) = unwrap_or (upgraded s.listeners r.listeners) r.listeners
listeners_then r (target.Attended s) = unwrap_or (upgraded s.listeners r.listeners) r.listeners
listeners_then r _ = r.listeners

abbrev pub posts_wanted : Record → Target → Posts
posts_wanted r (target.Reload s) = posts_of s.groups s.listeners (listeners_then r (target.Reload s))
posts_wanted r (target.Upgrade s) = posts_of s.groups s.listeners (listeners_then r (target.Upgrade s))
posts_wanted r (target.Attended s) = posts_of s.groups s.listeners (listeners_then r (target.Attended s))
posts_wanted r _ = r.posts

-- the workers that a target wants, as they are started
abbrev pub crew_wanted : Record → Target → Crew
crew_wanted r t = record { generation = generation_wanted r t; posts = posts_wanted r t }

---- The record of a service

-- the generation of a reload
abbrev pub next_config : Generation → Option Generation
next_config g = then_some (has_next g.config) (reload_generation g)

-- the generation of an upgrade
abbrev pub next_image : Generation → Option Generation
next_image g = then_some (has_next g.image && has_next g.config) (upgrade_generation g)

-- a record with the service of new settings
abbrev pub renewed : Record → Settings → Posts → Option (List Listener) → Option Generation → Option Record
renewed r s posts (Some ls) (Some g) = Some (record r {
  listeners = ls;
  posts = posts;
  generation = g;
  wanted = s.workers;
  retries = s.retries;
  timeout = s.timeout;
})
renewed r s posts _ _ = None

-- with the target's service; a stop has none
abbrev pub target_record : Record → Target → Option Record
target_record r (target.Workers n) = Some (record r { wanted = n })
target_record r (target.Reload s) =
    renewed r s (posts_wanted r (target.Reload s)) (reloaded s.listeners r.listeners) (next_config r.generation)
target_record r (target.Upgrade s) =
    renewed r s (posts_wanted r (target.Upgrade s)) (upgraded s.listeners r.listeners) (next_image r.generation)
target_record r (target.Attended s) =
    renewed r s (posts_wanted r (target.Attended s)) (upgraded s.listeners r.listeners) (next_image r.generation)
target_record r (target.Stop quick) = None
target_record r _ = Some r

-- with the service that ran before; nothing runs after a stop
abbrev pub old_record : Record → Target → Option Record
old_record r (target.Stop quick) = None
old_record r _ = Some r

-- with the service that an outcome names
abbrev pub named_record : Outcome → Record → Target → Option Record
named_record outcome.Done r t = target_record r t
named_record outcome.RolledBack r t = old_record r t
named_record (outcome.Degraded side.Old shortfalls) r t = old_record r t
named_record (outcome.Degraded side.Target shortfalls) r t = target_record r t
named_record outcome.Lost r t = None

---- The next record

-- with what a report says, and the process number of the master
abbrev pub reported : Record → Report → ℕ → Record
reported r report pid = record r { ready = report.ready; note = report.note; pid = pid }

-- what a report might break of the rules of a record: it listens, at most 1024 workers are wanted, each ready number
-- is below the wanted count, and there is a process number
abbrev pub keeps_rules : Record → Bool
keeps_rules r =
    nat_le 1 (length r.listeners) && (nat_le r.wanted 1024 && (is_none (first_from r.wanted r.ready) && nat_le 1 r.pid))

abbrev pub record_from : Option Record → Report → ℕ → Option Record
record_from None report pid = None
record_from (Some r) report pid = then_some (keeps_rules (reported r report pid)) (reported r report pid)

-- The record after a plan for a target: the service that the report names, with its ready numbers and its note. No
-- record is left after a stop or a lost run, nor where the result would break the rules of a record.
abbrev pub record_after : Record → Target → Report → ℕ → Option Record
record_after r t report pid = record_from (named_record report.outcome r t) report pid

---- The master that reigns then

-- the process number of the live master of a service's image
abbrev pub master_of : Option Record → Table → Option ℕ
master_of None t = None
master_of (Some r) t = option_map (λ (c : Caller). c.number) (live_master r.generation.image t.rows)

-- The record that a report leaves to the master that reigns in the last table: the live master of the image of the
-- service that the outcome names.
abbrev pub next_record : Record → Target → Report → Table → Option Record
next_record r t report last =
    option_and_then (record_after r t report) (master_of (named_record report.outcome r t) last)

---- An example: the gap in the descriptors is filled first

example :
    opened_from 3 (codes "1.2.3.4:82") (listener_at 3 (codes "1.2.3.4:80") ∷ listener_at 5 (codes "1.2.3.4:81") ∷ [])
    ≡ listener_at 3 (codes "1.2.3.4:80") ∷ listener_at 4 (codes "1.2.3.4:82") ∷ listener_at 5 (codes "1.2.3.4:81") ∷ []
example = refl
