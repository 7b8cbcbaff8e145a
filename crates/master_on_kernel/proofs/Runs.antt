-- Why a target has no runs.
use Rattle.std.proofs.Common.{◌≡◌, ◌⊎◌, inl, inr, ap, ℕ, List}
use Rattle.vocabulary.specs.declared.targets.Target.{Target}
use Rattle.definitions.specs.Table.{Table}
use Rattle.definitions.specs.Master.{Record}
use Rattle.word_runner.specs.declared.block.Body.TheVariants.{Refused}
use Rattle.word_runner.specs.declared.enactor.TargetRefusal.TheVariants.{Coded}
use Rattle.plan_executor.specs.Codes.{enact_code, target_refusal}
use Rattle.plan_executor.specs.declared.enactment.EnactRefusal.{EnactRefusal}
use Rattle.plan_executor.specs.declared.enactment.EnactRefusal.TheVariants.{Memory, RecordDisagrees, Plan, MasterNamed, NoNumbers}
use Rattle.definitions.specs.Plans.{Turn}
use Rattle.call_laws.specs.Pieces.{quiet}
use Rattle.plan_executor.specs.Refusals.{IsRefused}
use Rattle.master_on_kernel.specs.Dying.{HasNoDeaths}
use Rattle.master_on_kernel.specs.Explorations.{IsHopeless, HasNoRuns}

-- want of memory has no code
uncoded : (why : EnactRefusal) (code : List ℕ) → target_refusal why ≡ Coded code → why ≡ Memory → ⊥
uncoded Memory code said is = cc
uncoded RecordDisagrees code said is = cc
uncoded (Plan refusal) code said is = cc
uncoded (MasterNamed moment) code said is = cc
uncoded NoNumbers code said is = cc

its-code : (why : EnactRefusal) (code : List ℕ) → target_refusal why ≡ Coded code → code ≡ enact_code why
its-code Memory code said = cc
its-code RecordDisagrees code said = cc
its-code (Plan refusal) code said = cc
its-code (MasterNamed moment) code said = cc
its-code NoNumbers code said = cc

-- a target is refused for a reason that has a code
pub has-none : (t : Table) (r : Record) (target : Target) (why : EnactRefusal) (code : List ℕ) →
    (why ≡ Memory) ⊎ IsHopeless t r target why → target_refusal why ≡ Coded code → HasNoRuns t r target (Refused code)
has-none t r target why code (inl memory) said = absurd (uncoded why code said memory)
has-none t r target why code (inr due) said = record { why = why; due = due; told = ap Refused (its-code why code said) }

-- so is one by some turns, though nothing goes wrong
pub no-deaths : (t : Table) (r : Record) (target : Target) (why : EnactRefusal) (code : List ℕ) →
    (why ≡ Memory) ⊎ ((turns : List Turn) × IsRefused t r target turns (λ n. quiet) why) → target_refusal why ≡ Coded code → HasNoDeaths t r target (Refused code)
no-deaths t r target why code (inl memory) said = absurd (uncoded why code said memory)
no-deaths t r target why code (inr due) said = record { why = why; turns = due.0; due = due.1; told = ap Refused (its-code why code said) }
