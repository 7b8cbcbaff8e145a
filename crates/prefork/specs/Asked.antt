-- What `explore` is asked.
use Rattle.std.specs.Prelude.{◌≡◌, ◌↔◌, ℕ, Bool, ◌||◌, IsTrue, List, [], Option, Some, None, is_some, option_map, Ok, codes}
use Rattle.definitions.specs.Plans.{Turn}
use Rattle.command_line.specs.declared.options.ExploreOptions.{ExploreOptions}
use Rattle.control_words.specs.Words.{reading}
use Rattle.pattern_text.specs.TurnsText.{some_turns}
use Rattle.master_on_kernel.specs.declared.summing.Demands.{Demands}
use Rattle.prefork.specs.declared.program.Question.{Question}

-- The options can only name the end that they are for.
pub record AreDemandsOf (options : ExploreOptions) (demands : Demands) : Type 0 where
  pub degraded : demands.forbids_degraded ≡ is_some options.forbid
  pub done : demands.requires_done ≡ is_some options.require
  pub least : demands.least ≡ options.least

-- The turns of a text: none without one, and none that is given where all orders are asked for.
abbrev pub AreTurnsGiven : Option (List ℕ) → Option (List Turn) → Type 0
AreTurnsGiven None found = found ≡ Some []
AreTurnsGiven (Some text) None = text ≡ codes "all"
AreTurnsGiven (Some text) (Some turns) = some_turns text ≡ Some turns

-- what the options ask
pub record IsQuestion (options : ExploreOptions) (question : Question) : Type 0 where
  pub word : reading options.word.now ≡ Ok question.word
  pub turns : AreTurnsGiven (option_map (λ text. text.now) options.turns) question.turns
  pub pairs : IsTrue question.pairs ↔ (options.events ≡ Some 2)
  pub demands : AreDemandsOf options question.demands

-- an option of runs with events is given
abbrev pub asks_for_runs : ExploreOptions → Bool
asks_for_runs options = options.list || options.progress || is_some options.limit || is_some options.events
