-- What is left where a moment kills an executing master.
use Rattle.std.specs.Prelude.{List}
use Rattle.std.specs.List.{AllByRecursion}
use Rattle.vocabulary.specs.Settings.{Settings, IsInRange}
use Rattle.vocabulary.specs.declared.targets.Target.{Target}
use Rattle.definitions.specs.Table.{Table}
use Rattle.definitions.specs.Master.{Record}
use Rattle.definitions.specs.Run.{Pattern, Progress}
use Rattle.definitions.specs.Plans.{Turn}
use Rattle.definitions.specs.Claims.{run_of}
use Rattle.kernel_table.specs.Room.{IsKept}
use Rattle.lives.specs.Deaths.{AreAllKept, CanTakeOver}

-- In each table that the run passes, the one that the death leaves among them: where somebody else's process has kept the
-- sockets of some settings from the first table on, a master that is started with these settings takes over.
abbrev pub IsSurvived : Table → Record → Target → List Turn → Pattern → Type 0
IsSurvived t r target turns pattern =
    (s : Settings) → IsKept t → IsInRange s → AreAllKept s.listeners t →
    AllByRecursion (λ (p : Progress). CanTakeOver s t p.table) (run_of r target turns pattern t).passed
