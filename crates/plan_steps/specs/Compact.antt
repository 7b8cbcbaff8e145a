-- What stands in a step's little room.
use Rattle.std.specs.Prelude.{ℕ, List, [], Option, Some, None}
use Rattle.std.specs.Global.{Box}
use Rattle.vocabulary.specs.declared.calls.Call.TheVariants.{Fork}
use Rattle.vocabulary.specs.declared.plans.Order.{Order}
use Rattle.vocabulary.specs.declared.plans.Order.TheVariants.{Make}
use Rattle.plan_steps.specs.declared.compact.GroupFork.{GroupFork}
use Rattle.plan_steps.specs.declared.compact.Kept.{Kept}
use Rattle.plan_steps.specs.declared.compact.Kept.TheVariants as kept

-- the order to fork a worker with its descriptors
abbrev pub fork_order : GroupFork → Order
fork_order f = Make (Fork f.generation f.number (Some f.descriptors))

-- the order that is kept
abbrev pub order_of : Kept → Order
order_of (kept.Worker w) = Make w
order_of (kept.Fork f) = fork_order f.value
order_of (kept.Boxed b) = b.value

-- the set that is kept; where there is none it is empty
abbrev pub set_of : Option (Box (List ℕ)) → List ℕ
set_of None = []
set_of (Some b) = b.value
