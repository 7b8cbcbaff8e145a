-- What a target is asked: a number of workers, and generations that there are.
use Rattle.std.specs.Prelude.{Bool, false, ◌≤◌, ⊤}
use Rattle.std.specs.Option.{is_none}
use Rattle.vocabulary.specs.declared.targets.Target.{Target}
use Rattle.vocabulary.specs.declared.targets.Target.TheVariants as target
use Rattle.definitions.specs.Master.{Record}
use Rattle.definitions.specs.After.{next_config, next_image}

-- A number of workers that is wanted is at most 1024. What settings say is in range by itself.
abbrev pub IsTarget : Target → Type 0
IsTarget (target.Workers n) = n ≤ 1024
IsTarget _ = ⊤

-- a reload or an upgrade that has no generation, since a number would pass its limit
abbrev pub lacks_generation : Record → Target → Bool
lacks_generation r (target.Reload s) = is_none (next_config r.generation)
lacks_generation r (target.Upgrade s) = is_none (next_image r.generation)
lacks_generation r (target.Attended s) = is_none (next_image r.generation)
lacks_generation r _ = false
