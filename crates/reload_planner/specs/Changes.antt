-- Trees of plans, by the lists that they go through.
use Rattle.std.specs.Prelude.{ℕ, Bool, true, false, List, [], reverse}
use Rattle.listener_set.specs.declared.generation.Generation.{Generation}
use Rattle.definitions.specs.Table.{Address}
use Rattle.definitions.specs.Master.{Posts, Crew, reload_generation}
use Rattle.vocabulary.specs.declared.plans.Side.TheVariants.{Old, Target}
use Rattle.definitions.specs.Run.{Tree}
use Rattle.definitions.specs.Plans.{starts, starts_any, awaits_gone, opens, settle}
use Rattle.call_laws.specs.Pieces.{quits, kills, closes, census, census_edges}

-- Some numbers are started and then others quit, and the target settles. A failed start quits what was forked, and the old
-- side settles.
abbrev pub change_tree : ℕ → Crew → List ℕ → ℕ → List ℕ → List ℕ → List ℕ → Tree
change_tree by crew ready rounds wanted fresh surplus =
    starts by crew fresh (quits by crew.generation surplus (settle by crew wanted Target rounds))
    (λ forked. quits by crew.generation forked (settle by crew ready Old rounds))

-- Some numbers are killed and then others started, going on after a failure, and the target settles.
abbrev pub repair_tree : ℕ → Crew → ℕ → List ℕ → List ℕ → List ℕ → Tree
repair_tree by crew rounds wanted late fresh = kills by crew.generation late (starts_any by crew fresh (settle by crew wanted Target rounds))

-- The workers are killed, or they quit and are waited for.
abbrev pub ends_tree : ℕ → Generation → List ℕ → Bool → Tree → Tree
ends_tree by g ready true rest = kills by g ready rest
ends_tree by g ready false rest = quits by g (reverse ready) (awaits_gone by g (reverse ready) rest)

-- The old workers quit, addresses are closed, and the new workers settle.
abbrev pub on_tree : ℕ → Crew → Crew → List ℕ → ℕ → List Address → List ℕ → Tree
on_tree by old new ready rounds dropped wanted = quits by old.generation (reverse ready) (closes by dropped (settle by new wanted Target rounds))
