use Rattle.std.proofs.Common.{◌<◌, [], get_or, length, ◌∙◌, ap, arith}
use Rattle.std.proofs.lemmas.List.{get_or_read}
use Rattle.worker_groups.proofs.GroupCounts.{group-within}
use Rattle.plan_rollout.proofs.tally.spots_at.Goals as goal

pub offset_bounds-spots-group_of : goal.offset_bounds-spots-group_of
offset_bounds-spots-group_of c =
    omega (
      arith,
      c.group_of.ensures,
      group-within c.args.groups.now c.args.number c.as_slice.ensures.groups.some,
      c.as_slice.ensures.groups.most,
    )

pub bounds-spots-group_of : goal.bounds-spots-group_of
bounds-spots-group_of c =
    omega (
      arith,
      c.group_of.ensures,
      group-within c.args.groups.now c.args.number c.as_slice.ensures.groups.some,
      c.requires,
    )

pub returns : goal.returns
returns c =
    let spots = c.args.spots.now in
    let low : c.group_of.result < length spots =
    omega (
      arith,
      c.group_of.ensures,
      group-within c.args.groups.now c.args.number c.as_slice.ensures.groups.some,
      c.requires,
    ) in
    get_or_read spots c.group_of.result c.index-spots-group_of.result low c.index-spots-group_of.is [] ∙
    ap (λ i. get_or spots i []) c.group_of.ensures
