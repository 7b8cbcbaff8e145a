-- The configuration of a file.
use Rattle.std.specs.Prelude.{◌≡◌, ◌≢◌, ◌⊎◌, ⊤, ℕ, List, [], Option, Some, None, Ok, Err}
use Rattle.std.specs.declared.io.ErrorKind.{ErrorKind}
use Rattle.std.specs.declared.io.ErrorKind.TheVariants.{OutOfMemory}
use Rattle.vocabulary.specs.Settings.{Settings, plain_settings}
use Rattle.master_config.specs.Configuration.{Configuration, IsReadingOf}
use Rattle.master_config.specs.declared.refusal.ConfigRefusal.{ConfigRefusal}
use Rattle.master_config.specs.declared.refusal.ConfigRefusal.TheVariants.{Memory, Unreadable}

-- the defaults of all keys
abbrev pub plain_configuration : Configuration
plain_configuration = record { settings = plain_settings; command = [] }

-- a configuration that a text of a file says
pub record IsConfigured (config : Configuration) : Type 0 where
  pub text : List ℕ
  pub is_read : IsReadingOf text (Ok config)

-- that of the file that is named, and the defaults where none is
abbrev pub IsNamed : Option (List ℕ) → Configuration → Type 0
IsNamed None config = config ≡ plain_configuration
IsNamed (Some path) config = IsConfigured config

-- settings that a text of a file says
pub record AreConfigured (settings : Settings) : Type 0 where
  pub text : List ℕ
  pub config : Configuration
  pub is_read : IsReadingOf text (Ok config)
  pub are_its : settings ≡ config.settings

-- those of the file that is named, and others where none is
abbrev pub AreNamed : Option (List ℕ) → Settings → Settings → Type 0
AreNamed None others settings = settings ≡ others
AreNamed (Some path) others settings = AreConfigured settings

-- that of an error of a read: such an error tells want of memory too
abbrev pub IsOfKind : ErrorKind → ConfigRefusal → Type 0
IsOfKind kind refusal = ((kind ≡ OutOfMemory) × (refusal ≡ Memory)) ⊎ ((kind ≢ OutOfMemory) × (refusal ≡ Unreadable))

-- the read failed
abbrev pub IsUnread : ConfigRefusal → Type 0
IsUnread refusal = (refusal ≡ Unreadable) ⊎ (refusal ≡ Memory)

-- Why a file has no configuration: the read failed, memory is wanted, or a text is none.
abbrev pub IsMisread : ConfigRefusal → Type 0
IsMisread Unreadable = ⊤
IsMisread Memory = ⊤
IsMisread refusal = (text : List ℕ) × IsReadingOf text (Err refusal)

-- Why that of a file can't be had: it is named, and has none.
abbrev pub IsRefusalOf : Option (List ℕ) → ConfigRefusal → Type 0
IsRefusalOf None refusal = ⊥
IsRefusalOf (Some path) refusal = IsMisread refusal
