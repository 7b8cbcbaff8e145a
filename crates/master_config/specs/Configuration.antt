-- What a configuration says, as a function of the tree of its text: the settings and the command, or the first rule
-- that it breaks.
use Rattle.std.specs.Prelude.{◌≡◌, ◌≢◌, ◌⊎◌, ℕ, nat_lt, nat_le, Bool, true, ◌&&◌, List, [], length, IsUtf8, Option, Some, None, Result, Ok, Err, if◌then◌else◌}
use Rattle.std.specs.List.{list_all}
use Rattle.worker_groups.specs.Groups.{workers_in}
use Rattle.listener_set.specs.PathText.{path_reading}
use Rattle.listener_set.specs.declared.file_path.BadFile.{BadFile}
use Rattle.vocabulary.specs.Settings.{Settings}
use Rattle.toml.specs.Data.{Data, Members, as_str}
use Rattle.toml.specs.Parse.{parse_document}
use Rattle.master_config.specs.Arguments.{is_argument}
use Rattle.master_config.specs.Names.{is_known}
use Rattle.master_config.specs.Values.{◌>>=◌, value_at, has_only, number_at, texts_read, texts_of}
use Rattle.master_config.specs.Listening.{listeners_at}
use Rattle.master_config.specs.Groups.{Pools, one_pool, is_table, pools_in}
use Rattle.master_config.specs.Sockets.{sockets_at}
use Rattle.master_config.specs.declared.key.Key.TheVariants.{Command, Groups, Listeners, Pid, Retries, Service, Sockets, Surge, Timeout, Workers}
use Rattle.master_config.specs.declared.refusal.ConfigRefusal.{ConfigRefusal}
use Rattle.master_config.specs.declared.refusal.ConfigRefusal.TheVariants.{NotToml, UnknownKey, WrongKind, BadPid, BadCommand, BadService, Memory}

-- what a configuration says: the settings, and the command that starts a worker, with no text where none is given
pub record Configuration : Type 0 where
  pub settings : Settings
  pub command : List (List ℕ)

-- ---- the command

-- 1 to 16 arguments
abbrev pub is_command : List (List ℕ) → Bool
is_command texts = nat_lt 0 (length texts) && nat_le (length texts) 16 && list_all is_argument texts

abbrev pub command_read : List (List ℕ) → Result (List (List ℕ)) ConfigRefusal
command_read texts = if is_command texts then Ok texts else Err BadCommand

abbrev pub command_in : Data → Result (List (List ℕ)) ConfigRefusal
command_in value = texts_read Command value >>= (λ items. command_read (texts_of items))

abbrev pub command_at : Option Data → Result (List (List ℕ)) ConfigRefusal
command_at None = Ok []
command_at (Some value) = command_in value

-- ---- the pid file
abbrev pub path_or_refusal : Result (List ℕ) BadFile → Result (Option (List ℕ)) ConfigRefusal
path_or_refusal (Ok path) = Ok (Some path)
path_or_refusal (Err refusal) = Err BadPid

abbrev pub pid_read : Option (List ℕ) → Result (Option (List ℕ)) ConfigRefusal
pid_read None = Err (WrongKind Pid)
pid_read (Some text) = path_or_refusal (path_reading text)

abbrev pub pid_at : Option Data → Result (Option (List ℕ)) ConfigRefusal
pid_at None = Ok None
pid_at (Some value) = pid_read (as_str value)

-- ---- what is the service's
-- a master does not read it: it is a table, or it is missing
abbrev pub is_service : Option Data → Bool
is_service None = true
is_service (Some value) = is_table value

abbrev pub service_check : Option Data → Result (Unit {0}) ConfigRefusal
service_check value = if is_service value then Ok tt else Err BadService

-- ---- the whole

-- what does not hang on groups
pub record Rest : Type 0 where
  pub pid : Option (List ℕ)
  pub retries : ℕ
  pub surge : ℕ
  pub timeout : ℕ

abbrev pub rest_of : Members → Result Rest ConfigRefusal
rest_of members = do
  pid ← pid_at (value_at Pid members)
  retries ← number_at Retries 0 8 3 (value_at Retries members)
  surge ← number_at Surge 0 1024 0 (value_at Surge members)
  timeout ← number_at Timeout 1 86400 60 (value_at Timeout members)
  Ok (record { pid = pid; retries = retries; surge = surge; timeout = timeout })

abbrev pub settings_with : Pools → Rest → Settings
settings_with pools rest = record { listeners = pools.listeners; workers = workers_in pools.groups; groups = pools.groups; timeout = rest.timeout; retries = rest.retries; surge = rest.surge; pid = rest.pid }

-- where no groups are named
abbrev pub settings_of_one : Members → Result Settings ConfigRefusal
settings_of_one members = do
  listeners ← listeners_at (value_at Listeners members)
  rest ← rest_of members
  workers ← number_at Workers 0 1024 1 (value_at Workers members)
  Ok (settings_with (one_pool listeners workers) rest)

abbrev pub settings_of_groups : Members → Data → Result Settings ConfigRefusal
settings_of_groups members value = do
  pools ← pools_in members value
  rest ← rest_of members
  Ok (settings_with pools rest)

abbrev pub settings_at : Option Data → Members → Result Settings ConfigRefusal
settings_at None members = settings_of_one members
settings_at (Some value) members = settings_of_groups members value

abbrev pub values_of : Members → Result Configuration ConfigRefusal
values_of members = do
  command ← command_at (value_at Command members)
  settings ← settings_at (value_at Groups members) members
  _ ← service_check (value_at Service members)
  _ ← sockets_at settings.listeners (value_at Sockets members)
  Ok (record { settings = settings; command = command })

-- what a configuration says, or the first rule that it breaks
abbrev pub configuration_of : Members → Result Configuration ConfigRefusal
configuration_of members = if has_only is_known members then values_of members else Err UnknownKey

-- ---- texts

-- a text is the TOML document of a tree
pub record IsDocument (text : List ℕ) (members : Members) : Type 0 where
  pub utf8 : IsUtf8 text
  pub document : parse_document text ≡ Some members

-- what is read of a text: what its tree says, or that it has none
abbrev pub IsReadingOf : List ℕ → Result Configuration ConfigRefusal → Type 0
IsReadingOf text answer =
    ((members : Members) × IsDocument text members × (answer ≡ configuration_of members))
    ⊎ ((answer ≡ Err NotToml) × ((members : Members) → ¬ (IsDocument text members)))

-- the same, unless memory was refused
abbrev pub Reads : List ℕ → Result Configuration ConfigRefusal → Type 0
Reads text answer = answer ≢ Err Memory → IsReadingOf text answer
