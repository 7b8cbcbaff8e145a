-- The settings of a configuration.
use Rattle.std.proofs.Common.{◌≡◌, ℕ, List, Option, Some, None, refl, ap}
use Rattle.vocabulary.specs.Settings.{plain_settings}
use Rattle.master_config.specs.Configuration.{Configuration}
use Rattle.master_config.specs.Files.{AreNamed, IsNamed}

pub settings_named : (path : Option (List ℕ)) (config : Configuration) → IsNamed path config → AreNamed path plain_settings config.settings
settings_named None config is = ap (λ (c : Configuration). c.settings) is
settings_named (Some path) config is = record { text = is.text; config = config; is_read = is.is_read; are_its = refl }
