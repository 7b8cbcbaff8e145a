-- Blocks that are certified one after another, and the account of their life.
use Rattle.std.specs.Prelude.{ℕ, ◌≡◌, ◌+◌, List, [], ◌∷◌, length, Option, Some, None}
use Rattle.vocabulary.specs.Settings.{Settings}
use Rattle.definitions.specs.Table.{Table}
use Rattle.definitions.specs.Master.{Record}
use Rattle.definitions.specs.Claims.{run_of}
use Rattle.kernel_model.specs.Pattern.{moment_at}
use Rattle.kernel_model.specs.State.{State}
use Rattle.kernel_pattern.specs.declared.section.Section.{Section}
use Rattle.control_words.specs.declared.words.Word.{Word}
use Rattle.word_runner.specs.declared.asking.Asked.{Asked}
use Rattle.word_runner.specs.declared.asking.Asked.TheVariants as asks
use Rattle.word_runner.specs.declared.block.Block.{Block}
use Rattle.word_runner.specs.declared.block.Block.TheVariants.{Heard, Unread}
use Rattle.word_runner.specs.declared.block.Body.TheVariants.{Nothing, Refused, Ran}
use Rattle.word_runner.specs.Asking.{asked_by}
use Rattle.word_runner.specs.declared.standing.Standing.{Standing}
use Rattle.certifier.specs.Blocks.{goal_of, goals_then, IsTaken}
use Rattle.life_account.specs.declared.certifying.CertifiedLife.{CertifiedLife}
use Rattle.life_account.specs.Tables.{Passed}
use Rattle.life_account.specs.Account.{Account, first_account, tables_of, after_run, seen_life}

-- The tables that the run of a word in a section passes; none where the word asks for no target.
abbrev pub tables_asked : Asked → Record → Table → Section → List Passed
tables_asked (asks.Act target) r t section = tables_of (run_of r target section.turns (moment_at section.pattern) t)
tables_asked asks.Nothing r t section = []
tables_asked (asks.Beat beat) r t section = []
tables_asked (asks.Refused code) r t section = []

abbrev pub tables_by : Option Record → Option Settings → Word → Standing State → Section → List Passed
tables_by None settings word old section = []
tables_by (Some r) settings word old section = tables_asked (asked_by word r old.workers settings) r old.world.table section

-- The account after the n-th block, which a section explains, and which led from the one standing to the other. A block that is no
-- run changes nothing.
abbrev pub lived_block : ℕ → Option Settings → Block → Standing State → Section → Standing State → Account → Account
lived_block n settings (Heard word (Ran log report)) old section new a =
    after_run (record { word = n; call = length log.entries }) (tables_by old.record settings word old section) new.record new.world.table a
lived_block n settings (Heard word Nothing) old section new a = a
lived_block n settings (Heard word (Refused code)) old section new a = a
lived_block n settings (Unread refusal) old section new a = a

-- A block is explained, and the account goes on over it.
pub record IsLived (n : ℕ) (settings : Option Settings) (b : Block) (old : Standing State) (before : Account) (section : Section)
    (new : Standing State) (after : Account) : Type 0 where
  pub taken : IsTaken settings b old section new
  pub account : after ≡ lived_block n settings b old section new before

-- Blocks are explained one after another, the first of which has this number, and the account goes on over each.
abbrev pub AreLived : List Settings → ℕ → List Block → Standing State → Account → List Section → Standing State → Account → Type 0
AreLived goals n [] old before [] new after = (new ≡ old) × (after ≡ before)
AreLived goals n [] old before (s ∷ ss) new after = ⊥
AreLived goals n (b ∷ bs) old before [] new after = ⊥
AreLived goals n (b ∷ bs) old before (s ∷ ss) new after =
    (middle : Standing State) × (a : Account) × IsLived n (goal_of goals) b old before s middle a
    × AreLived (goals_then b goals) (n + 1) bs middle a ss new after

-- The blocks are explained from a standing on, and what is told of their life is its account.
abbrev pub IsCertifiedLife : List Settings → List Block → Standing State → Standing State → CertifiedLife → Type 0
IsCertifiedLife goals blocks old new it =
    AreLived goals 1 blocks old (first_account old.record old.world.table) it.sections.items new (seen_life it.life)
