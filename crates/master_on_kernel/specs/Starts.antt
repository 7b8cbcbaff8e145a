-- How a master starts.
use Rattle.std.specs.Prelude.{◌≡◌, ◌⊎◌, ℕ, nat_lt, ◌||◌, List, [], Option, Some, None, Result, Ok, Err, unwrap_or, option_map, if◌then◌else◌}
use Rattle.listener_set.specs.Numbers.{numbers_below}
use Rattle.vocabulary.specs.Settings.{Settings, plain_settings}
use Rattle.vocabulary.specs.declared.table.Limits.{Limits}
use Rattle.definitions.specs.Master.{Record}
use Rattle.call_laws.specs.Start.{started, booted}
use Rattle.worker_table.specs.Beats.{Workers, followed}
use Rattle.master_config.specs.Files.{AreNamed, IsRefusalOf}
use Rattle.master_config.specs.declared.refusal.ConfigRefusal.{ConfigRefusal}
use Rattle.faults.specs.declared.fault.Fault.{Fault}
use Rattle.faults.specs.declared.fault.Fault.TheVariants.{Boot}
use Rattle.faults.specs.Faults.{config_fault}
use Rattle.kernel_model.specs.declared.boot.BootRefusal.TheVariants.{BadLimits}
use Rattle.master_on_kernel.specs.declared.start.StartSetup.{StartSetup}
use Rattle.master_on_kernel.specs.declared.start.Start.{Start}
use Rattle.master_on_kernel.specs.declared.rehearsal.Rehearsal.{Rehearsal}

-- Why the settings of a file can't be had: the file that is named has no configuration.
abbrev pub IsOfSettings : Option (List ℕ) → Fault → Type 0
IsOfSettings path fault = (refusal : ConfigRefusal) × IsRefusalOf path refusal × (fault ≡ config_fault refusal)

-- How a master starts that is asked for: the settings of the files, or the plain ones and those of the start; as many workers
-- as an option says, or else the start's settings; and none of them runs where the start is bare.
pub record IsStartOf (setup : StartSetup) (start : Start) : Type 0 where
  pub settings : AreNamed (option_map (λ text. text.now) setup.from) plain_settings start.settings
  pub next : AreNamed (option_map (λ text. text.now) setup.to) start.settings start.next
  pub wanted : start.wanted ≡ unwrap_or setup.workers start.settings.workers
  pub running : start.running ≡ (if setup.bare then 0 else start.wanted)

-- Why a start can't be read: the settings of one of its files can't be had.
abbrev pub IsOfStart : StartSetup → Fault → Type 0
IsOfStart setup fault = IsOfSettings (option_map (λ text. text.now) setup.from) fault ⊎ IsOfSettings (option_map (λ text. text.now) setup.to) fault

-- what the master knows of itself at first
abbrev pub first_record : Start → Record
first_record start = started start.settings start.wanted (numbers_below start.running) 100

-- more workers than there can be are a fault of the boot
abbrev pub record_at : Start → Result Record Fault
record_at start = if nat_lt 1024 start.wanted || nat_lt start.wanted start.running then Err (Boot BadLimits) else Ok (first_record start)

-- the workers at first, none of which has beaten
abbrev pub silent_workers : Record → Workers
silent_workers r = followed [] r.ready []

-- what the modelled kernel allows
abbrev pub limits : Limits
limits = record { processes = 65535; descriptors = 64 }

-- A master that has just started on the modelled kernel.
pub record IsStarted (start : Start) (it : Rehearsal) : Type 0 where
  pub fits : record_at start ≡ Ok (first_record start)
  pub kernel : it.standing.world ≡ record { table = booted start.settings.listeners start.settings.groups start.running start.settings.pid limits; room = 0 }
  pub knows : it.standing.record ≡ Some (first_record start)
  pub workers : it.standing.workers ≡ silent_workers (first_record start)
  pub next : it.next ≡ start.next
