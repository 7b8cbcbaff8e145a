-- The codes of refusals, as they are printed.
use Rattle.std.specs.Prelude.{ℕ, List, ◌++◌, codes}
use Rattle.std.specs.Fmt.{decimal}
use Rattle.word_runner.specs.Codes.{unplanned_code}
use Rattle.word_runner.specs.declared.enactor.TargetRefusal.{TargetRefusal}
use Rattle.word_runner.specs.declared.enactor.TargetRefusal.TheVariants as lack
use Rattle.mismatches.specs.declared.Mismatch.{Mismatch}
use Rattle.mismatches.specs.declared.Mismatch.TheVariants as mismatch
use Rattle.plan_executor.specs.declared.enactment.EnactRefusal.{EnactRefusal}
use Rattle.plan_executor.specs.declared.enactment.EnactRefusal.TheVariants.{Memory, RecordDisagrees, Plan, MasterNamed, NoNumbers}

abbrev pub enact_code : EnactRefusal → List ℕ
enact_code Memory = codes "E1"
enact_code RecordDisagrees = codes "E2"
enact_code (Plan refusal) = unplanned_code refusal
enact_code (MasterNamed moment) = codes "E4 " ++ decimal moment
enact_code NoNumbers = codes "E5"

-- want of memory has no code that a word prints
abbrev pub target_refusal : EnactRefusal → TargetRefusal
target_refusal Memory = lack.Memory
target_refusal RecordDisagrees = lack.Coded (enact_code RecordDisagrees)
target_refusal (Plan refusal) = lack.Coded (enact_code (Plan refusal))
target_refusal (MasterNamed moment) = lack.Coded (enact_code (MasterNamed moment))
target_refusal NoNumbers = lack.Coded (enact_code NoNumbers)

-- what a certificate says of it
abbrev pub mismatch_of : EnactRefusal → Mismatch
mismatch_of Memory = mismatch.Memory
mismatch_of _ = mismatch.Refused
