use Rattle.std.proofs.Common.{◌≡◌, ◌++◌, ◌∷◌, [], length, map, sym, ◌∙◌, ap, arith}
use Rattle.listener_set.specs.Numbers.{numbers_below}
use Rattle.definitions.specs.Master.{Record, layout_of}
use Rattle.plan_rollout.specs.Spots.{spots_of}
use Rattle.plan_rollout.proofs.Sides.{mapped-more}
use Rattle.plan_rollout.proofs.spots.old_spots.Goals as goal

pub loop-place-preserved : goal.loop-place-preserved
loop-place-preserved c =
    let r = c.args.state.now in
    c.in_ok-push.ensures.items
    ∙ ((λ i. c.loop-place.invariant i ++ c.spots_of_old.ensures i ∷ []) ∙
    sym (mapped-more (spots_of (layout_of r) c.args.addresses.now) c.loop-place.place))

pub returns : goal.returns
returns c =
    let r = c.args.state.now in
    let all : c.loop-place.place ≡ length r.posts.groups =
    omega (
      arith,
      ap length c.as_slice-groups.ensures.items,
      ap length c.groups.ensures.groups,
      ap (λ (k : Record). length k.posts.groups) c.state.view_is,
    ) in
    c.loop-place.invariant ∙ ap (λ n. map (spots_of (layout_of r) c.args.addresses.now) (numbers_below n)) all
