-- The workers of an edge, and which of them are meant.
use Rattle.std.specs.Prelude.{ℕ, ◌==◌, nat_lt, nat_eq, Bool, true, false, ◌&&◌, not, List, [], ◌∷◌, filter, insert}
use Rattle.std.specs.Prelude.{length, map, position, unwrap_or, if◌then◌else◌}
use Rattle.definitions.specs.Table.{Generation, same_generation}
use Rattle.listener_set.specs.Numbers.{with_number}
pub use Rattle.child_workers.specs.declared.worker.Worker.{Worker}
pub use Rattle.child_workers.specs.declared.worker.Stage.{Stage}
pub use Rattle.child_workers.specs.declared.worker.Stage.TheVariants.{Starting, Ready, Draining}
pub use Rattle.child_workers.specs.declared.who.Who.{Who}
pub use Rattle.child_workers.specs.declared.who.Who.TheVariants.{Any, Serving, IsReady, ReadyOf, Named, ServingNamed, StartingNamed, ReadyNamed}

abbrev pub is_starting : Stage → Bool
is_starting Starting = true
is_starting Ready = false
is_starting Draining = false

abbrev pub is_ready : Stage → Bool
is_ready Starting = false
is_ready Ready = true
is_ready Draining = false

-- not told to quit
abbrev pub is_serving_stage : Stage → Bool
is_serving_stage Starting = true
is_serving_stage Ready = true
is_serving_stage Draining = false

abbrev pub has_name : Generation → ℕ → Worker → Bool
has_name g nr w = same_generation w.generation g && (w.nr == nr)

-- whether a worker is among those that are meant
abbrev pub means : Who → Worker → Bool
means Any w = true
means Serving w = is_serving_stage w.stage
means IsReady w = is_ready w.stage
means (ReadyOf g) w = is_ready w.stage && same_generation w.generation g
means (Named g nr) w = has_name g nr w
means (ServingNamed g nr) w = is_serving_stage w.stage && has_name g nr w
means (StartingNamed g nr) w = is_starting w.stage && has_name g nr w
means (ReadyNamed g nr) w = is_ready w.stage && has_name g nr w

---- The list of workers: upwards in number, and those of one number by their start

-- a worker put behind those whose number is not above its own
abbrev pub in_place : Worker → List Worker → List Worker
in_place w ws = insert ws (unwrap_or (position (λ x. nat_lt w.nr x.nr) ws) (length ws)) w

abbrev pub without : Who → List Worker → List Worker
without who ws = filter (λ w. not (means who w)) ws

-- without those of a process number
abbrev pub without_id : ℕ → List Worker → List Worker
without_id id ws = filter (λ w. not (nat_eq w.id id)) ws

abbrev pub at_stage : Stage → Worker → Worker
at_stage stage w = record w { stage = stage }

-- those that are meant at a stage, the others as they are
abbrev pub moved : Who → Stage → List Worker → List Worker
moved who stage ws = map (λ w. if means who w then at_stage stage w else w) ws

-- the first that is meant at a stage
abbrev pub moved_first : Who → Stage → List Worker → List Worker
moved_first who stage [] = []
moved_first who stage (w ∷ ws) = if means who w then at_stage stage w ∷ ws else w ∷ moved_first who stage ws

-- without the first that is meant
abbrev pub without_first : Who → List Worker → List Worker
without_first who [] = []
without_first who (w ∷ ws) = if means who w then ws else w ∷ without_first who ws

-- the numbers with that of a worker, which is below 1024 in any count
abbrev pub with_number_of : Worker → List ℕ → List ℕ
with_number_of w numbers = if nat_lt w.nr 1024 then with_number numbers w.nr else numbers

abbrev pub add_numbers : Who → List ℕ → List Worker → List ℕ
add_numbers who numbers [] = numbers
add_numbers who numbers (w ∷ ws) = if means who w then add_numbers who (with_number_of w numbers) ws else add_numbers who numbers ws

-- the numbers of those that are meant
abbrev pub numbers_of : Who → List Worker → List ℕ
numbers_of who ws = add_numbers who [] ws
