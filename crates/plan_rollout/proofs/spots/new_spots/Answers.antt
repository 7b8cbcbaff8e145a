use Rattle.std.proofs.Common.{◌≡◌, ◌++◌, ◌∷◌, [], length, map, sym, ◌∙◌, ap, arith}
use Rattle.listener_set.specs.Numbers.{numbers_below}
use Rattle.vocabulary.specs.Settings.{Settings}
use Rattle.definitions.specs.Master.{layout_in}
use Rattle.plan_rollout.specs.Spots.{spots_of}
use Rattle.plan_rollout.proofs.Sides.{mapped-more}
use Rattle.plan_rollout.proofs.spots.new_spots.Goals as goal

pub loop-place-preserved : goal.loop-place-preserved
loop-place-preserved c =
    let s = c.args.settings.now in
    c.in_ok-push.ensures.items
    ∙ ((λ i. c.loop-place.invariant i ++ c.spots_of_new.ensures i ∷ []) ∙
    sym (mapped-more (spots_of (layout_in s.groups s.listeners) c.args.addresses.now) c.loop-place.place))

pub returns : goal.returns
returns c =
    let s = c.args.settings.now in
    let all : c.loop-place.place ≡ length s.groups =
    omega (
      arith,
      ap length c.as_slice-groups.ensures.items,
      ap (λ (t : Settings). length t.groups) c.settings.view_is,
    ) in
    c.loop-place.invariant ∙ ap (λ n. map (spots_of (layout_in s.groups s.listeners) c.args.addresses.now)
    (numbers_below n)) all
