-- The plan is the one of its definition.
use Rattle.std.proofs.Common.{◌≡◌, ℕ, Bool, List}
use Rattle.listener_set.specs.Numbers.{numbers_below}
use Rattle.listener_set.specs.declared.generation.Generation.{Generation}
use Rattle.vocabulary.specs.Settings.{Settings}
use Rattle.vocabulary.specs.declared.targets.Target.TheVariants.{Reload}
use Rattle.definitions.specs.Table.{Address}
use Rattle.definitions.specs.Master.{Posts, Crew, Record, addresses_of, crew_of, reload_generation}
use Rattle.definitions.specs.After.{posts_wanted}
use Rattle.definitions.specs.Plans.{only_in}
use Rattle.definitions.specs.Plans.{Step, reload_plan, rollout_of}
use Rattle.reload_planner.specs.Trees.{renewed_tree}

pub planned-is : (asked : Bool) (surge : ℕ) (r : Record) (s : Settings) (by : ℕ) (old : Crew) (g : Generation)
    (posts : Posts)
    (ready : List ℕ) (rounds : ℕ) (added dropped : List Address) (wanted : List ℕ) (steps : List Step)
    (last left : List ℕ) →
    by ≡ r.generation.image → old ≡ crew_of r → g ≡ reload_generation r.generation → posts ≡ posts_wanted r (Reload s) →
    ready ≡ r.ready → rounds ≡ r.retries → added ≡ only_in s.listeners (addresses_of r) → dropped ≡
    only_in (addresses_of r) s.listeners →
    wanted ≡ numbers_below s.workers → steps ≡ (rollout_of r s surge).steps → last ≡ (rollout_of r s surge).last →
    left ≡ (rollout_of r s surge).left →
    renewed_tree asked by old (record { generation = g; posts = posts }) ready rounds added dropped wanted steps last
    left
    ≡ reload_plan asked surge r s
planned-is asked surge r s by old g posts ready rounds added dropped wanted steps last left b o e p q n a d w t l m =
    λ i. renewed_tree asked (b i) (o i) (record { generation = e i; posts = p i }) (q i) (n i) (a i) (d i) (w i)
    (t i) (l i) (m i)
