-- The workers of both sides, as a rollout keeps them.
use Rattle.std.specs.Prelude.{◌≡◌}
use Rattle.vocabulary.specs.Settings.{Settings}
use Rattle.definitions.specs.Master.{Record, addresses_of, layout_of, layout_in}
use Rattle.plan_rollout.specs.declared.crowd.Crowd.{Crowd}
use Rattle.plan_rollout.specs.declared.rolling.Newcomers.{Newcomers}
use Rattle.plan_rollout.specs.Spots.{all_spots}
use Rattle.plan_rollout.specs.Counts.{AreLeast}

-- the old workers of a record
pub record AreOld (r : Record) (s : Settings) (c : Crowd) : Type 0 where
  pub groups : c.groups.now ≡ r.posts.groups
  pub spots : c.spots.now ≡ all_spots (layout_of r) (addresses_of r)
  pub least : AreLeast r s c.least.now

-- the new ones of settings
pub record AreNew (r : Record) (s : Settings) (n : Newcomers) : Type 0 where
  pub groups : n.groups.now ≡ s.groups
  pub spots : n.spots.now ≡ all_spots (layout_in s.groups s.listeners) (addresses_of r)
  pub workers : n.workers ≡ s.workers
