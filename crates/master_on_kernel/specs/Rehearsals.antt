-- Words on a master that was started on the modelled kernel.
use Rattle.std.specs.Prelude.{◌≡◌, ◌+◌, ◌⊎◌, ℕ, false, true, List, Option, Some, None, Result, Ok, Err}
use Rattle.listener_set.specs.AddressText.{reading}
use Rattle.listener_set.specs.declared.address.AddressRefusal.{AddressRefusal}
use Rattle.definitions.specs.Table.{Table, is_held}
use Rattle.definitions.specs.Master.{Record}
use Rattle.definitions.specs.Run.{Entry}
use Rattle.vocabulary.specs.declared.targets.Target.{Target}
use Rattle.kernel_table.specs.Foreign.{with_foreign}
use Rattle.kernel_table.specs.Room.{LacksNumbers}
use Rattle.kernel_model.specs.State.{State}
use Rattle.kernel_model.specs.declared.refusal.ForeignRefusal.TheVariants as foreign
use Rattle.control_words.specs.declared.words.Word.{Word}
use Rattle.word_runner.specs.declared.block.Block.{Block}
use Rattle.word_runner.specs.Words.{AreDone}
use Rattle.word_runner.specs.Asking.{asked_by}
use Rattle.word_runner.specs.declared.asking.Asked.{Asked}
use Rattle.word_runner.specs.declared.asking.Asked.TheVariants as asks
use Rattle.certifier.specs.Certified.{IsBeginning}
use Rattle.certifier.specs.Explained.{IsNoBeginning}
use Rattle.mismatches.specs.declared.Mismatch.{Mismatch}
use Rattle.kernel_pattern.specs.declared.section.Section.{Section}
use Rattle.plan_executor.specs.Words.{quiet_section, EnactsAt, DeclinesAt}
use Rattle.faults.specs.declared.fault.Fault.{Fault}
use Rattle.faults.specs.declared.fault.Fault.TheVariants.{Address, Foreign, Memory}
use Rattle.master_on_kernel.specs.declared.rehearsal.Rehearsal.{Rehearsal}

-- nobody holds the address, and a number is left for who is to hold it
pub record IsFree (address : List ℕ) (kernel : State) : Type 0 where
  pub unheld : is_held address kernel.table.rows ≡ false
  pub numbers : ¬ (LacksNumbers kernel.table (kernel.room + 1))

-- the address of a text, which a foreign process now holds
pub record Held (text : List ℕ) (old new : Rehearsal) : Type 0 where
  pub address : List ℕ
  pub is_read : reading text ≡ Ok address
  pub is_free : IsFree address old.standing.world
  pub kernel : new
      ≡ record old {
        standing =
            record old.standing {
              world =
                  record { table = with_foreign address old.standing.world.table; room = old.standing.world.room };
            };
      }

-- Why nobody can hold what a text is read as: it is no address, somebody holds it, no number is left, or else memory is wanted.
abbrev pub IsOfHeld : Result (List ℕ) AddressRefusal → State → Fault → Type 0
IsOfHeld (Err refusal) kernel fault = fault ≡ Address refusal
IsOfHeld (Ok address) kernel (Foreign foreign.Held) = is_held address kernel.table.rows ≡ true
IsOfHeld (Ok address) kernel (Foreign foreign.NoNumbers) = (is_held address kernel.table.rows ≡ false) × LacksNumbers kernel.table (kernel.room + 1)
IsOfHeld (Ok address) kernel fault = (fault ≡ Memory) × IsFree address kernel

-- the first of these words come to these blocks, the i-th in the i-th section
pub record IsRehearsed (sections : List Section) (words : List Word) (old : Rehearsal) (blocks : List Block) (new : Rehearsal) : Type 0 where
  pub done : AreDone (EnactsAt sections) (DeclinesAt sections) (Some old.next) words 0 old.standing blocks new.standing
  pub next : new.next ≡ old.next

---- What the first calls of a word show

-- The section that entries show which begin a run of the target; a quiet one where they begin none.
abbrev pub IsShownOf : Table → Record → Target → List Entry → Section → Type 0
IsShownOf t r target entries section =
    IsBeginning t r target entries section ⊎ ((section ≡ quiet_section) × (why : Mismatch) × IsNoBeginning t r target entries why)

-- a word that asks for no target has no first calls
abbrev pub IsShownWhere : Asked → Table → Record → List Entry → Section → Type 0
IsShownWhere (asks.Act target) t r entries section = IsShownOf t r target entries section
IsShownWhere _ t r entries section = section ≡ quiet_section

abbrev pub IsShownTo : Option Record → Rehearsal → Word → List Entry → Section → Type 0
IsShownTo None it word entries section = section ≡ quiet_section
IsShownTo (Some r) it word entries section = IsShownWhere (asked_by word r it.standing.workers (Some it.next)) it.standing.world.table r entries section

-- The section that entries show which are a word's first calls; a quiet one where they begin no run of the master.
abbrev pub IsShownBy : Rehearsal → Word → List Entry → Section → Type 0
IsShownBy it word entries section = IsShownTo it.standing.record it word entries section
