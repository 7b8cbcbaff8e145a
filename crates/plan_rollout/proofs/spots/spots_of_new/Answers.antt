use Rattle.std.proofs.Common.{◌∙◌}
use Rattle.plan_rollout.specs.Spots.{places_of}
use Rattle.plan_rollout.proofs.spots.spots_of_new.Goals as goal

pub returns : goal.returns
returns c = c.places_of.ensures ∙ (λ i. places_of (c.addresses_of_group.ensures i) (c.as_slice.ensures.items i))
