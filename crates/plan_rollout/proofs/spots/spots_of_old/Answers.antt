use Rattle.std.proofs.Common.{◌∙◌, ap, map}
use Rattle.vocabulary.specs.declared.table.Listener.{Listener}
use Rattle.plan_rollout.specs.Spots.{places_of}
use Rattle.plan_rollout.proofs.spots.spots_of_old.Goals as goal

pub returns : goal.returns
returns c =
    let own = c.as_slice-2.ensures.items ∙ (c.addresses-own.ensures ∙
    ap (map (λ (l : Listener). l.address)) c.listeners_of-held.ensures) in
    c.places_of.ensures ∙ (λ i. places_of (own i) (c.as_slice.ensures.items i))
