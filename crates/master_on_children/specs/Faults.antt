-- Faults of a supervisor, as they are printed.
use Rattle.std.specs.Prelude.{ℕ, ◌≡◌, ◌≢◌, ◌⊎◌, List, Result, Ok, Err, codes}
use Rattle.std.specs.declared.io.ErrorKind.{ErrorKind}
use Rattle.std.specs.declared.io.ErrorKind.TheVariants.{OutOfMemory}
use Rattle.master_on_children.specs.declared.fault.SupervisorFault.{SupervisorFault}
use Rattle.master_on_children.specs.declared.fault.SupervisorFault.TheVariants.{Memory, File}
use Rattle.master_on_children.specs.declared.fault.Halt.{Halt}
use Rattle.master_on_children.specs.declared.fault.Halt.TheVariants.{Short, Fault}

abbrev pub fault_code : SupervisorFault → List ℕ
fault_code Memory = codes "memory"
fault_code File = codes "file"

-- what no further line was acted on for
abbrev pub supervisor_fault : Halt → SupervisorFault
supervisor_fault Short = Memory
supervisor_fault (Fault fault) = fault

abbrev pub status_or_fault : Result ℕ Halt → Result ℕ SupervisorFault
status_or_fault (Ok status) = Ok status
status_or_fault (Err halt) = Err (supervisor_fault halt)

-- By the kind of an error: want of memory, which may fail a read or a write too, or else a fault of a file.
abbrev pub IsOfKind : ErrorKind → SupervisorFault → Type 0
IsOfKind kind fault = ((kind ≡ OutOfMemory) × (fault ≡ Memory)) ⊎ ((kind ≢ OutOfMemory) × (fault ≡ File))

-- what no further line is acted on for, by the kind of an error: a fault, and never want of memory for a word
abbrev pub IsFaultOfKind : ErrorKind → Halt → Type 0
IsFaultOfKind kind Short = ⊥
IsFaultOfKind kind (Fault fault) = IsOfKind kind fault
