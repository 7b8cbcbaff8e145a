-- What the program says of blocks that it compares.
use Rattle.std.specs.Prelude.{◌≡◌, ◌≢◌, ℕ, List, [], map, Ok}
use Rattle.vocabulary.specs.Settings.{Settings}
use Rattle.kernel_pattern.specs.declared.section.Section.{Section}
use Rattle.word_runner.specs.declared.block.Block.{Block}
use Rattle.pattern_text.specs.Courses.{course_of}
use Rattle.pattern_text.specs.PatternsText.{patterns_of}
use Rattle.pattern_text.specs.PatternsWriting.{patterns_text}
use Rattle.certifier.specs.Blocks.{AreTaken, StopsAtBlock}
use Rattle.faults.specs.declared.fault.Fault.{Fault}
use Rattle.faults.specs.declared.fault.Fault.TheVariants.{Certify, Memory}
use Rattle.master_on_kernel.specs.declared.rehearsal.Rehearsal.{Rehearsal}

-- The text is that of sections that explain the blocks, one each, from where a rehearsal stood to where it stands. What is written
-- of one section or more is read again as these.
pub record AreExplained (goals : List Settings) (blocks : List Block) (old : Rehearsal) (text : List ℕ) (new : Rehearsal) : Type 0 where
  pub sections : List Section
  pub taken : AreTaken goals blocks old.standing sections new.standing
  pub written : text ≡ patterns_text sections
  pub again : sections ≢ [] → patterns_of text ≡ Ok (map course_of sections)

-- A fault of a block names the first that is none of the master's, and why.
abbrev pub IsOfBlock : List Settings → List Block → Rehearsal → Fault → Type 0
IsOfBlock goals blocks old (Certify n why) = StopsAtBlock goals blocks old.standing n why
IsOfBlock goals blocks old fault = fault ≡ Memory
