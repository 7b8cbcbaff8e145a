-- What a start after each death comes to, and why deaths are not counted.
use Rattle.std.specs.Prelude.{◌≡◌, ◌⊎◌, true, List}
use Rattle.std.specs.List.{AllByRecursion}
use Rattle.vocabulary.specs.Settings.{Settings, IsInRange}
use Rattle.vocabulary.specs.declared.targets.Target.{Target}
use Rattle.definitions.specs.Table.{Table}
use Rattle.definitions.specs.Master.{Record}
use Rattle.definitions.specs.Run.{Pattern, Progress}
use Rattle.definitions.specs.Plans.{Turn}
use Rattle.definitions.specs.Claims.{run_of}
use Rattle.call_laws.specs.Pieces.{quiet}
use Rattle.lives.specs.Lives.{IsStanding}
use Rattle.lives.specs.Deaths.{lent, CanTakeOver}
use Rattle.plan_executor.specs.Refusals.{IsRefused}
use Rattle.plan_executor.specs.declared.enactment.EnactRefusal.{EnactRefusal}
use Rattle.plan_executor.specs.declared.enactment.EnactRefusal.TheVariants.{Memory}
use Rattle.death_explorer.specs.declared.exploring.DeathSearch.{DeathSearch}
use Rattle.death_explorer.specs.Leftovers.{are_held}

-- Where somebody else's process is lent the sockets of the record's master, and has each address of the settings so: in each
-- table that the target's run passes then, by any turns and under any pattern, a master that is started with the settings
-- takes over.
abbrev pub IsSurvived : Settings → Table → Record → Target → Type 0
IsSurvived s t r target =
    IsStanding t r → IsInRange s → are_held s.listeners r ≡ true → (turns : List Turn) (pattern : Pattern) →
    AllByRecursion (λ (p : Progress). CanTakeOver s (lent r t) p.table) (run_of r target turns pattern (lent r t)).passed

-- Memory was refused; or `enact` refuses the target by some turns, though nothing goes wrong.
abbrev pub IsRefusedQuiet : DeathSearch → EnactRefusal → Type 0
IsRefusedQuiet search why =
    (why ≡ Memory) ⊎ ((turns : List Turn) × IsRefused search.kernel.now.table search.state.now search.target.now turns (λ n. quiet) why)
