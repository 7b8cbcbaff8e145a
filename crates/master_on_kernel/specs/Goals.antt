-- The settings that the words of a transcript go over to.
use Rattle.std.specs.Prelude.{◌≡◌, List, ◌∷◌}
use Rattle.std.specs.List.{AllByRecursion}
use Rattle.vocabulary.specs.Settings.{Settings}
use Rattle.master_config.specs.Files.{AreConfigured}

-- the first that are known, and then those that files say
pub record AreGoals (first : Settings) (goals : List Settings) : Type 0 where
  pub later : List Settings
  pub goals_are : goals ≡ first ∷ later
  pub configured : AllByRecursion AreConfigured later
