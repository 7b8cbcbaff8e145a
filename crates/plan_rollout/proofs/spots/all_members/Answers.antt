use Rattle.std.proofs.Common.{◌≡◌, ◌++◌, ◌∷◌, [], length, map, sym, ◌∙◌, ap, arith}
use Rattle.listener_set.specs.Numbers.{numbers_below}
use Rattle.plan_rollout.specs.Spots.{members_of}
use Rattle.plan_rollout.proofs.Sides.{mapped-more}
use Rattle.plan_rollout.proofs.spots.all_members.Goals as goal

pub loop-place-preserved : goal.loop-place-preserved
loop-place-preserved c =
    c.in_ok-push.ensures.items
    ∙ ((λ i. c.loop-place.invariant i ++ c.members_below.ensures i ∷ []) ∙
    sym (mapped-more (members_of c.args.groups.now) c.loop-place.place))

pub returns : goal.returns
returns c =
    let gs = c.args.groups.now in
    let all : c.loop-place.place ≡ length gs = omega (arith, ap length c.as_slice-count.ensures.items) in
    c.loop-place.invariant ∙ ap (λ n. map (members_of gs) (numbers_below n)) all
