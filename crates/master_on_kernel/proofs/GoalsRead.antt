-- Settings that files say, one after another.
use Rattle.std.proofs.Common.{◌≡◌, List, [], ◌∷◌, ◌++◌, ◌∙◌, ap}
use Rattle.std.specs.List.{AllByRecursion}
use Rattle.vocabulary.specs.Settings.{Settings}
use Rattle.master_config.specs.Files.{AreConfigured}
use Rattle.master_on_kernel.specs.Goals.{AreGoals}

all-more : (ss : List Settings) (s : Settings) → AllByRecursion AreConfigured ss → AreConfigured s → AllByRecursion AreConfigured (ss ++ s ∷ [])
all-more [] s all is = (is, tt)
all-more (x ∷ ss) s all is = (all.0, all-more ss s all.1 is)

pub goals-more : (first : Settings) (old new : List Settings) (s : Settings) → AreGoals first old → AreConfigured s → new ≡ old ++ s ∷ [] → AreGoals first new
goals-more first old new s goals is e = record {
  later = goals.later ++ s ∷ [];
  goals_are = e ∙ ap (λ (xs : List Settings). xs ++ s ∷ []) goals.goals_are;
  configured = all-more goals.later s goals.configured is;
}
