-- How a master on the modelled kernel begins, as options say.
use Rattle.std.specs.Prelude.{◌≡◌, ◌⊎◌, ℕ, List, Option, Some, None}
use Rattle.listener_set.specs.AddressText.{reading}
use Rattle.faults.specs.declared.fault.Fault.{Fault}
use Rattle.faults.specs.Faults.{IsDue}
use Rattle.master_on_kernel.specs.declared.rehearsal.Rehearsal.{Rehearsal}
use Rattle.master_on_kernel.specs.declared.start.StartSetup.{StartSetup}
use Rattle.master_on_kernel.specs.declared.start.Start.{Start}
use Rattle.master_on_kernel.specs.Starts.{IsStartOf, IsOfStart, IsStarted, record_at}
use Rattle.master_on_kernel.specs.Rehearsals.{Held, IsOfHeld}

-- somebody else holds the address that is named, if one is
abbrev pub HoldsNamed : Option (List ℕ) → Rehearsal → Rehearsal → Type 0
HoldsNamed None old new = new ≡ old
HoldsNamed (Some text) old new = Held text old new

-- why nobody can hold it
abbrev pub IsOfNamed : Option (List ℕ) → Rehearsal → Fault → Type 0
IsOfNamed None old fault = ⊥
IsOfNamed (Some text) old fault = IsOfHeld (reading text) old.standing.world fault

-- The master of a start that is asked for, on a kernel where somebody holds the address that is named.
pub record HasBegun (setup : StartSetup) (held : Option (List ℕ)) (it : Rehearsal) : Type 0 where
  pub start : Start
  pub is_read : IsStartOf setup start
  pub before : Rehearsal
  pub is_started : IsStarted start before
  pub is_held : HoldsNamed held before it

-- Why it can't begin: the start can't be read; no master can start so; or nobody can hold the address.
abbrev pub IsOfBeginning : StartSetup → Option (List ℕ) → Fault → Type 0
IsOfBeginning setup held fault =
    IsOfStart setup fault ⊎ ((start : Start) × IsStartOf setup start ×
    (IsDue (record_at start) fault ⊎ ((it : Rehearsal) × IsStarted start it × IsOfNamed held it fault)))
