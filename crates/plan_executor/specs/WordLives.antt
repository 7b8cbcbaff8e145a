-- What control words come to on the modelled kernel is a life, and keeps what lives keep.
--
-- Our own. `AreDone` is what `run_words` ensures; here it is shown to be a life of the targets that were carried out.

use Rattle.std.specs.Prelude.{◌≡◌, List, [], ◌∷◌, Option, Some, None, IfSome}
use Rattle.vocabulary.specs.Settings.{Settings, IsInRange}
use Rattle.definitions.specs.Table.{Table}
use Rattle.definitions.specs.Master.{Record}
use Rattle.kernel_model.specs.State.{State}
use Rattle.kernel_pattern.specs.declared.section.Section.{Section}
use Rattle.control_words.specs.declared.words.Word.{Word}
use Rattle.word_runner.specs.declared.block.Block.{Block}
use Rattle.word_runner.specs.declared.block.Block.TheVariants.{Heard, Unread}
use Rattle.word_runner.specs.declared.block.Body.TheVariants.{Nothing, Refused, Ran}
use Rattle.word_runner.specs.declared.standing.Standing.{Standing}
use Rattle.word_runner.specs.Words.{AreDone}
use Rattle.plan_executor.specs.Words.{EnactsAt, DeclinesAt}
use Rattle.lives.specs.Lives.{Task, run_at, reported_at, table_after, record_left_by, IsStanding, AreCarriedOut, LifeKeeps}

-- A life's tasks lead from one standing to another, and to these blocks: each block of a run has the entries and the report
-- of the next task's run; the others change nothing.
abbrev pub LeadTo : Table → Option Record → List Block → List Task → Table → Option Record → Type 0
LeadTo t state [] tasks last left = (tasks ≡ []) × (last ≡ t) × (left ≡ state)
LeadTo t state (Unread refusal ∷ blocks) tasks last left = ⊥
LeadTo t state (Heard word Nothing ∷ blocks) tasks last left = LeadTo t state blocks tasks last left
LeadTo t state (Heard word (Refused code) ∷ blocks) tasks last left = LeadTo t state blocks tasks last left
LeadTo t (Some r) (Heard word (Ran log report) ∷ blocks) (task ∷ tasks) last left =
    (log.entries ≡ (run_at t r task).entries) × (report ≡ reported_at t r task)
    × LeadTo (table_after t r task) (record_left_by t r task) blocks tasks last left
LeadTo t (Some r) (Heard word (Ran log report) ∷ blocks) [] last left = ⊥
LeadTo t None (Heard word (Ran log report) ∷ blocks) tasks last left = ⊥

-- The life that words were.
pub record IsLife (first last : Standing State) (r : Record) (blocks : List Block) : Type 0 where
  pub tasks : List Task
  pub carried_out : AreCarriedOut first.world.table r tasks
  pub leads : LeadTo first.world.table (Some r) blocks tasks last.world.table last.record
  pub keeps : LifeKeeps first.world.table r tasks

-- WORDS. Of every list of words, with sections and settings in range, from every running master on: what they come to is
-- a life, which keeps what lives keep.
abbrev pub WordsAreLives : Type 0
WordsAreLives =
    (sections : List Section) (settings : Option Settings) (words : List Word) (first last : Standing State) (blocks : List Block)
    (r : Record) → IfSome settings IsInRange → first.record ≡ Some r → IsStanding first.world.table r →
    AreDone (EnactsAt sections) (DeclinesAt sections) settings words 0 first blocks last → IsLife first last r blocks
