-- Where a run ends: at none of the marks that join the two parts of an upgrade.

use Rattle.vocabulary.specs as vocabulary
use Rattle.definitions.specs as above
use Rattle.std.specs.Prelude.{⊤}
use vocabulary.Words.{List}
use above.Table.{Table}
use above.Master.{Record, Target}
use above.Plans.{Turn}
use above.Run.{Done, RolledBack, ShortOld, ShortTarget, Ending, At, Pattern}
use above.Claims.{IsAccepted, run_of}

-- one of the ends that a report names; of a mark it would say Done
abbrev pub IsEnd : Ending → Type 0
IsEnd (At Done) = ⊤
IsEnd (At RolledBack) = ⊤
IsEnd (At ShortOld) = ⊤
IsEnd (At ShortTarget) = ⊤
IsEnd _ = ⊥

abbrev pub RunsEndAtNoMark : Type 0
RunsEndAtNoMark =
    (t : Table) (r : Record) (target : Target) (turns : List Turn) (pattern : Pattern) →
    IsAccepted t r target turns pattern → IsEnd (run_of r target turns pattern t).ending
