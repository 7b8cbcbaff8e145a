-- Why runs are not all counted.
use Rattle.std.specs.Prelude.{List}
use Rattle.definitions.specs.Plans.{Turn}
use Rattle.definitions.specs.Run.{Pattern}
use Rattle.plan_executor.specs.Refusals.{IsRefused}
use Rattle.plan_executor.specs.declared.enactment.EnactRefusal.{EnactRefusal}
use Rattle.plan_executor.specs.declared.enactment.EnactRefusal.TheVariants as enact
use Rattle.explorer.specs.declared.counting.ExploreRefusal.{ExploreRefusal}
use Rattle.explorer.specs.declared.counting.ExploreRefusal.TheVariants.{Memory, Enough}
use Rattle.explorer.specs.declared.exploring.Search.{Search}
use Rattle.explorer.specs.declared.exploring.Unexplored.{Unexplored}
use Rattle.explorer.specs.declared.exploring.Unexplored.TheVariants as un

-- Behind the first call there is want of memory, and the audience's enough.
abbrev pub unexplored : ExploreRefusal → Unexplored
unexplored Memory = un.Enact enact.Memory
unexplored Enough = un.Enough

-- To enact the target is refused so whatever the turns, and whatever goes wrong.
abbrev pub IsRefusedAlways : Search → EnactRefusal → Type 0
IsRefusedAlways search why = (turns : List Turn) (pattern : Pattern) → IsRefused search.kernel.now.table search.state.now search.target.now turns pattern why
