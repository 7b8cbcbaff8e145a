-- What the program says of the life of blocks that it compares.
use Rattle.std.specs.Prelude.{◌≡◌, ℕ, List, ◌++◌, length}
use Rattle.vocabulary.specs.Settings.{Settings}
use Rattle.word_runner.specs.declared.block.Block.{Block}
use Rattle.pattern_text.specs.PatternsWriting.{patterns_text}
use Rattle.life_account.specs.declared.certifying.CertifiedLife.{CertifiedLife}
use Rattle.life_account.specs.Account.{seen_life}
use Rattle.life_account.specs.Lived.{IsCertifiedLife}
use Rattle.life_text.specs.LifeText.{life_text}
use Rattle.master_on_kernel.specs.declared.rehearsal.Rehearsal.{Rehearsal}

-- The text is that of sections that explain the blocks, one each, from where a rehearsal stood to where it stands, and of the
-- account of their life.
pub record AreAccounted (goals : List Settings) (blocks : List Block) (old : Rehearsal) (text : List ℕ) (new : Rehearsal) : Type 0 where
  pub certified : CertifiedLife
  pub is_life : IsCertifiedLife goals blocks old.standing new.standing certified
  pub written : text ≡ patterns_text certified.sections.items ++ life_text (length blocks) (seen_life certified.life)
