-- What it means that a text would be read.
use Rattle.std.specs.Prelude.{ℕ, Bool, false, true, List, Ok, Err}
use Rattle.master_config.specs.Configuration.{Configuration, IsReadingOf}
use Rattle.master_config.specs.declared.refusal.ConfigRefusal.{ConfigRefusal}

-- a text that is taken says a configuration, and one that is not breaks a rule
abbrev pub IsTaken : List ℕ → Bool → Type 0
IsTaken text true = (config : Configuration) × IsReadingOf text (Ok config)
IsTaken text false = (refusal : ConfigRefusal) × IsReadingOf text (Err refusal)
