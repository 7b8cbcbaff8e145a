-- Which fault a refusal is, which one is told, and what a fault says.
use Rattle.std.specs.Prelude.{◌≡◌, ◌≢◌, ◌⊎◌, ℕ, List, ◌++◌, Result, Ok, Err, codes}
use Rattle.std.specs.Fmt.{decimal}
use Rattle.std.specs.declared.io.ErrorKind.{ErrorKind}
use Rattle.std.specs.declared.io.ErrorKind.TheVariants.{OutOfMemory}
use Rattle.command_line.specs.Codes.{refusal_code}
use Rattle.command_line.specs.declared.Refusal.{Refusal}
use Rattle.command_line.specs.declared.Refusal.TheVariants as command
use Rattle.control_words.specs.Words as words
use Rattle.kernel_model.specs.Codes.{boot_code, foreign_code}
use Rattle.kernel_model.specs.declared.boot.BootRefusal.{BootRefusal}
use Rattle.kernel_model.specs.declared.boot.BootRefusal.TheVariants as boot
use Rattle.kernel_model.specs.declared.refusal.ForeignRefusal.{ForeignRefusal}
use Rattle.kernel_model.specs.declared.refusal.ForeignRefusal.TheVariants as foreign
use Rattle.listener_set.specs.Codes.{address_code}
use Rattle.master_config.specs.Codes.{config_text}
use Rattle.master_config.specs.declared.refusal.ConfigRefusal.{ConfigRefusal}
use Rattle.master_config.specs.declared.refusal.ConfigRefusal.TheVariants as config
use Rattle.lines_text.specs.Codes.{refusal_text}
use Rattle.lines_text.specs.declared.refusal.TextRefusal.{TextRefusal}
use Rattle.lines_text.specs.declared.refusal.TextRefusal.TheVariants as pattern
use Rattle.faults.specs.declared.fault.Fault.{Fault}
use Rattle.mismatches.specs.Codes.{mismatch_code}
use Rattle.mismatches.specs.declared.Mismatch.{Mismatch}
use Rattle.mismatches.specs.declared.Mismatch.TheVariants as mismatch
use Rattle.faults.specs.declared.fault.Fault.TheVariants.{Usage, Word, Config, Boot, Address, Foreign, Pattern}
use Rattle.faults.specs.declared.fault.Fault.TheVariants.{Transcript, Certify, Code, Orders, Running, File, Memory}

---- Which fault a refusal is: want of memory or a file where it is that, and else its own

abbrev pub command_fault : Refusal → Fault
command_fault command.Memory = Memory
command_fault command.Usage = Usage

abbrev pub config_fault : ConfigRefusal → Fault
config_fault config.Memory = Memory
config_fault config.Unreadable = File
config_fault refusal = Config refusal

abbrev pub boot_fault : BootRefusal → Fault
boot_fault boot.Memory = Memory
boot_fault boot.BadLimits = Boot boot.BadLimits

abbrev pub foreign_fault : ForeignRefusal → Fault
foreign_fault foreign.Memory = Memory
foreign_fault refusal = Foreign refusal

abbrev pub pattern_fault : TextRefusal → Fault
pattern_fault pattern.Memory = Memory
pattern_fault refusal = Pattern refusal

abbrev pub transcript_fault : TextRefusal → Fault
transcript_fault pattern.Memory = Memory
transcript_fault refusal = Transcript refusal

abbrev pub block_fault : ℕ → Mismatch → Fault
block_fault number mismatch.Memory = Memory
block_fault number other = Certify number other

-- that of an error of a read or a write: such an error tells want of memory too
abbrev pub IsOfKind : ErrorKind → Fault → Type 0
IsOfKind kind fault = ((kind ≡ OutOfMemory) × (fault ≡ Memory)) ⊎ ((kind ≢ OutOfMemory) × (fault ≡ File))

---- Which fault is told

-- The one that is due, and want of memory only where none is.
abbrev pub IsDue : {A : Type 0} → Result A Fault → Fault → Type 0
IsDue (Ok value) fault = fault ≡ Memory
IsDue (Err due) fault = fault ≡ due

-- A read or a write failed.
abbrev pub IsOfFile : Fault → Type 0
IsOfFile fault = (fault ≡ File) ⊎ (fault ≡ Memory)

---- What a fault says

-- 2 for the fault of the command line, of one of its words or of what it asks too much of, and 5 for a block that is not the master's
abbrev pub fault_status : Fault → ℕ
fault_status Usage = 2
fault_status (Word number refusal) = 2
fault_status Code = 2
fault_status Orders = 2
fault_status (Certify number mismatch) = 5
fault_status _ = 1

abbrev pub fault_text : Fault → List ℕ
fault_text Usage = refusal_code command.Usage
fault_text (Word number refusal) = codes "word " ++ decimal number ++ codes " " ++ words.refusal_code refusal
fault_text (Config refusal) = codes "config " ++ config_text refusal
fault_text (Boot refusal) = codes "boot " ++ boot_code refusal
fault_text (Address refusal) = codes "held " ++ address_code refusal
fault_text (Foreign refusal) = codes "held " ++ foreign_code refusal
fault_text (Pattern refusal) = codes "pattern " ++ refusal_text refusal
fault_text (Transcript refusal) = codes "transcript " ++ refusal_text refusal
fault_text (Certify number mismatch) = codes "certify " ++ decimal number ++ codes " " ++ mismatch_code mismatch
fault_text Code = codes "code"
fault_text Orders = codes "orders"
fault_text (Running number) = codes "running " ++ decimal number
fault_text File = codes "file"
fault_text Memory = codes "memory"
