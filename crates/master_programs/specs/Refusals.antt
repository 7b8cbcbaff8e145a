-- Why settings are not taken up.
use Rattle.std.specs.Prelude.{◌≡◌, ◌⊎◌, ℕ, List, Option, Result, IfOk, IfErr}
use Rattle.master_config.specs.Codes.{config_text}
use Rattle.master_config.specs.Files.{AreNamed, IsRefusalOf}
use Rattle.master_config.specs.declared.refusal.ConfigRefusal.{ConfigRefusal}
use Rattle.master_config.specs.declared.refusal.ConfigRefusal.TheVariants as config
use Rattle.master_on_children.specs.declared.next.NextRefusal.{NextRefusal}
use Rattle.master_on_children.specs.declared.next.NextRefusal.TheVariants.{Memory, Refused, Unreadable}
use Rattle.vocabulary.specs.Settings.{Settings, plain_settings}

-- want of memory, a file that can't be read, or else the code of a configuration's refusal, or want of memory for it
abbrev pub IsDeclined : ConfigRefusal → NextRefusal → Type 0
IsDeclined config.Memory why = why ≡ Memory
IsDeclined config.Unreadable why = why ≡ Unreadable
IsDeclined refusal why = (why ≡ Refused (config_text refusal)) ⊎ (why ≡ Memory)

-- Why the settings of a file aren't taken up: the file that is named has none.
pub record IsOfNext (path : Option (List ℕ)) (why : NextRefusal) : Type 0 where
  pub refusal : ConfigRefusal
  pub due : IsRefusalOf path refusal
  pub told : IsDeclined refusal why

-- what a reading of the next configuration gives: the settings of the file, the plain ones where none is named, or why not
abbrev pub IsNext : Option (List ℕ) → Result Settings NextRefusal → Type 0
IsNext path answer = IfOk answer (AreNamed path plain_settings) × IfErr answer (IsOfNext path)
