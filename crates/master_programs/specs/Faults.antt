-- The fault with which a master that ran ends, or of one that does not start.
use Rattle.std.specs.Prelude.{◌≢◌, ⊤, ℕ}
use Rattle.master_on_children.specs.declared.fault.SupervisorFault.{SupervisorFault}
use Rattle.master_on_children.specs.declared.fault.SupervisorFault.TheVariants as supervisor
use Rattle.faults.specs.Faults.{IsOfFile}
use Rattle.faults.specs.declared.fault.Fault.{Fault}
use Rattle.faults.specs.declared.fault.Fault.TheVariants.{Running, File, Memory}

abbrev pub supervisor_fault : SupervisorFault → Fault
supervisor_fault supervisor.Memory = Memory
supervisor_fault supervisor.File = File

-- A pid file is not taken over: it has the number of a process other than the own one, or a read failed.
abbrev pub IsOfPidFile : ℕ → Fault → Type 0
IsOfPidFile own (Running number) = number ≢ own
IsOfPidFile own fault = IsOfFile fault
