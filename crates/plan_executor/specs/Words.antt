-- What control words come to on the modelled kernel.
use Rattle.std.specs.Prelude.{ℕ, ◌≡◌, List, [], Option, Some, None, unwrap_or, slice_get, ⊤}
use Rattle.vocabulary.specs.declared.targets.Target.{Target}
use Rattle.definitions.specs.Table.{Table}
use Rattle.definitions.specs.Master.{Record, Agrees}
use Rattle.kernel_model.specs.State.{State}
use Rattle.kernel_model.specs.Pattern.{moment_at}
use Rattle.kernel_pattern.specs.declared.section.Section.{Section}
use Rattle.word_runner.specs.declared.enactor.Enacted.{Enacted}
use Rattle.plan_executor.specs.declared.enactment.EnactRefusal.{EnactRefusal}
use Rattle.plan_executor.specs.Codes.{enact_code}
use Rattle.plan_executor.specs.Refusals.{IsPlannable, IsRefused}
use Rattle.plan_executor.specs.Enacted.{IsEnacted}

-- nothing goes wrong, and no turns are given
abbrev pub quiet_section : Section
quiet_section = record { pattern = []; turns = [] }

-- the section at a place, a quiet one where there is none
abbrev pub section_at : List Section → ℕ → Section
section_at sections place = unwrap_or (slice_get sections place) quiet_section

-- What a target that is carried out says: it was enacted from the one kernel to the other, in the section of its word.
abbrev pub EnactsAt : List Section → State → ℕ → Record → Target → Enacted → State → Type 0
EnactsAt sections first place r target e last =
    IsEnacted first last r target (section_at sections place).turns (moment_at (section_at sections place).pattern) e

-- What a code says that a target is refused with: it is the code of a refusal that fits, in the section of its word.
pub record DeclinesAt (sections : List Section) (first : State) (place : ℕ) (r : Record) (target : Target) (code : List ℕ) : Type 0 where
  pub why : EnactRefusal
  pub is_refused : IsRefused first.table r target (section_at sections place).turns (moment_at (section_at sections place).pattern) why
  pub code_is : code ≡ enact_code why

-- When memory can be wanted for a target: only where the record agrees and there is a plan.
abbrev pub WantsMemoryFor : State → ℕ → Record → Target → Type 0
WantsMemoryFor k place r target = IsPlannable k.table r target

-- Where a master runs, its record agrees with the table.
abbrev pub IsTrueOf : Table → Option Record → Type 0
IsTrueOf t None = ⊤
IsTrueOf t (Some r) = Agrees t r
