-- What each handover keeps, and what is read of one so far.
use Rattle.std.specs.Prelude.{ℕ, ◌≡◌, ◌+◌, ◌≤◌, ◌<◌, true, Bool, List, [], Option, Some, None, length, ⊤, ◌⊎◌}
use Rattle.std.specs.List.{list_all}
use Rattle.listener_set.specs.AddressList.{AreDistinct}
use Rattle.listener_set.specs.PathText.{is_path}
use Rattle.worker_groups.specs.declared.groups.Group.{Group}
use Rattle.worker_groups.specs.Groups.{AreGroups, addresses_in, workers_in}
use Rattle.vocabulary.specs.Settings.{HasSuffixRoom}
use Rattle.definitions.specs.Table.{FilePath}
use Rattle.definitions.specs.Calls.{Handover}
use Rattle.handover_text.specs.Spelling.{HandoverVersion, One, Two, spelled}
use Rattle.handover_text.specs.Reading.{Reached, AtVersion, AtOldPid, AtGeneration, AtFirstListener, AtListeners}
use Rattle.handover_text.specs.Reading.{AtWants, AtGroup, AtPidFile, AtEnd, Over, is_address}
use Rattle.master_listeners.specs.Listeners.{AreListed}

-- a process number of at least 1, at least one listener, groups that take all addresses that are wanted, and a pid file's path of
-- at most 100 bytes
pub record IsInRange (h : Handover) : Type 0 where
  pub old_pid : 1 ≤ h.old_pid
  pub listens : 1 ≤ length h.listeners
  pub add_up : addresses_in h.groups ≡ length h.want
  pub pid_file : HasSuffixRoom h.pid_file

abbrev pub is_path_if : Option FilePath → Bool
is_path_if None = true
is_path_if (Some path) = is_path path

-- Numbers of 32 bits, listeners and wanted addresses that can be, and a path that can be.
pub record AreParts (h : Handover) : Type 0 where
  pub old_pid : h.old_pid ≤ 4294967295
  pub image : h.generation.image ≤ 4294967295
  pub config : h.generation.config ≤ 4294967295
  pub listed : AreListed h.listeners
  pub listened : list_all (λ l. is_address l.address) h.listeners ≡ true
  pub wanted : list_all is_address h.want ≡ true
  pub distinct : AreDistinct h.want
  pub most : length h.want ≤ 64
  pub path : is_path_if h.pid_file ≡ true

-- Every handover is so.
pub record IsHandover (h : Handover) : Type 0 where
  pub parts : AreParts h
  pub in_range : IsInRange h
  pub groups : AreGroups h.groups

-- Version 1 tells of one group.
abbrev pub IsTold : HandoverVersion → Handover → Type 0
IsTold One h = length h.groups ≡ 1
IsTold Two h = ⊤

-- The text is the spelling of a handover in one of the versions.
pub record IsSpelling (text : List ℕ) (told : Handover) : Type 0 where
  pub version : HandoverVersion
  pub tells : IsTold version told
  pub spelled : spelled version told ≡ text

---- What is read so far

-- how many lines there are up to a place, besides listeners, groups and wanted addresses
abbrev pub lines_to : Reached → ℕ
lines_to AtVersion = 1
lines_to (AtOldPid version) = 2
lines_to (AtGeneration version) = 3
lines_to (AtFirstListener version) = 4
lines_to (AtListeners version) = 4
lines_to AtWants = 4
lines_to (AtGroup g) = 5
lines_to AtPidFile = 5
lines_to (AtEnd version) = 6
lines_to (Over version) = 7

abbrev pub HasPid : Reached → Handover → Type 0
HasPid AtVersion h = ⊤
HasPid (AtOldPid version) h = ⊤
HasPid (AtGeneration version) h = 1 ≤ h.old_pid
HasPid (AtFirstListener version) h = 1 ≤ h.old_pid
HasPid (AtListeners version) h = 1 ≤ h.old_pid
HasPid AtWants h = 1 ≤ h.old_pid
HasPid (AtGroup g) h = 1 ≤ h.old_pid
HasPid AtPidFile h = 1 ≤ h.old_pid
HasPid (AtEnd version) h = 1 ≤ h.old_pid
HasPid (Over version) h = 1 ≤ h.old_pid

abbrev pub HasListener : Reached → Handover → Type 0
HasListener AtVersion h = h.listeners ≡ []
HasListener (AtOldPid version) h = h.listeners ≡ []
HasListener (AtGeneration version) h = h.listeners ≡ []
HasListener (AtFirstListener version) h = h.listeners ≡ []
HasListener (AtListeners version) h = 1 ≤ length h.listeners
HasListener AtWants h = 1 ≤ length h.listeners
HasListener (AtGroup g) h = 1 ≤ length h.listeners
HasListener AtPidFile h = 1 ≤ length h.listeners
HasListener (AtEnd version) h = 1 ≤ length h.listeners
HasListener (Over version) h = 1 ≤ length h.listeners

-- nothing of what is wanted was read
abbrev pub IsUnasked : Handover → Type 0
IsUnasked h = (h.want ≡ []) × (h.groups ≡ [])

-- A group was begun behind others, and so many of its addresses were read.
pub record IsBegun (g : Group) (h : Handover) : Type 0 where
  pub before : (h.groups ≡ []) ⊎ AreGroups h.groups
  pub counts : addresses_in h.groups + g.addresses ≡ length h.want
  pub few : length h.groups < 16
  pub workers : workers_in h.groups + g.workers ≤ 1024

-- all that is wanted was read
pub record IsAsked (version : HandoverVersion) (h : Handover) : Type 0 where
  pub groups : AreGroups h.groups
  pub add_up : addresses_in h.groups ≡ length h.want
  pub tells : IsTold version h

abbrev pub HasGroups : Reached → Handover → Type 0
HasGroups AtVersion h = IsUnasked h
HasGroups (AtOldPid version) h = IsUnasked h
HasGroups (AtGeneration version) h = IsUnasked h
HasGroups (AtFirstListener version) h = IsUnasked h
HasGroups (AtListeners version) h = IsUnasked h
HasGroups AtWants h = h.groups ≡ []
HasGroups (AtGroup g) h = IsBegun g h
HasGroups AtPidFile h = IsAsked One h
HasGroups (AtEnd version) h = IsAsked version h
HasGroups (Over version) h = IsAsked version h

abbrev pub HasNoPath : Reached → Handover → Type 0
HasNoPath AtVersion h = h.pid_file ≡ None
HasNoPath (AtOldPid version) h = h.pid_file ≡ None
HasNoPath (AtGeneration version) h = h.pid_file ≡ None
HasNoPath (AtFirstListener version) h = h.pid_file ≡ None
HasNoPath (AtListeners version) h = h.pid_file ≡ None
HasNoPath AtWants h = h.pid_file ≡ None
HasNoPath (AtGroup g) h = h.pid_file ≡ None
HasNoPath AtPidFile h = h.pid_file ≡ None
HasNoPath (AtEnd version) h = ⊤
HasNoPath (Over version) h = ⊤

-- the line of that number can come next, where so much of a handover was read
pub record IsReadTo (number : ℕ) (place : Reached) (h : Handover) : Type 0 where
  pub parts : AreParts h
  pub count : number ≤ lines_to place + length h.listeners + length h.groups + length h.want
  pub pid : HasPid place h
  pub listener : HasListener place h
  pub groups : HasGroups place h
  pub no_path : HasNoPath place h
