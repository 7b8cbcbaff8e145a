-- Who takes over, and whose the record is that a run leaves.
use Rattle.std.proofs.Common.{◌≡◌, false, [], ◌∷◌, Option, Some, None, refl, sym, ap}
use Rattle.std.specs.Prelude.{is_none, option_map, option_and_then}
use Rattle.std.proofs.lemmas.Bool.{false≢true}
use Rattle.definitions.specs.Table.{Table, Generation, Caller, live_master}
use Rattle.definitions.specs.Master.{upgrade_generation, Record}
use Rattle.definitions.specs.After.{next_image, master_of}
use Rattle.upgrade_planner.proofs.Upgrades.{next_is}
use Rattle.plan_executor.specs.Naming.{listed}

-- An upgrade's generation, where it has a number, is the one that takes over.
pub heir : (g : Generation) (o : Option Generation) → next_image g ≡ o → is_none o ≡ false →
    listed (option_map (λ (x : Generation). x.image) o) ≡ (upgrade_generation g).image ∷ []
heir g None is some = absurd (false≢true (sym some))
heir g (Some new) is some = ap (λ (x : Generation). x.image ∷ []) (next_is g new is)

-- The live master of a service's image is the one that runs the service.
pub master-of : (o : Option Record) (t : Table) →
    option_and_then (λ image. option_map (λ (c : Caller). c.number) (live_master image t.rows))
    (option_map (λ (r : Record). r.generation.image) o) ≡ master_of o t
master-of None t = refl
master-of (Some r) t = refl
