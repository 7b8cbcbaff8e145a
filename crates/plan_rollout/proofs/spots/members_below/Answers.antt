use Rattle.std.proofs.Common.{◌≡◌, cond, ◌∙◌, ap, sym}
use Rattle.std.specs.Prelude.{◌==◌}
use Rattle.listener_set.specs.Numbers.{with_number}
use Rattle.listener_set.proofs.NumberSets.{filter_below-more}
use Rattle.worker_groups.specs.Groups.{group_of}
use Rattle.plan_rollout.proofs.spots.members_below.Goals as goal

pub loop-number-preserved : goal.loop-number-preserved
loop-number-preserved c =
    let gs = c.args.groups.now in
    let k = c.loop-number.number in
    let b = c.group_of.result == c.args.place in
    let there : (group_of gs k == c.args.place) ≡ b = ap (λ g. g == c.args.place) (sym c.group_of.ensures) in
    c.with_number_if-members.ensures ∙ (ap (λ ns. cond b (with_number ns k) ns) c.loop-number.invariant ∙
    sym (filter_below-more (λ j. group_of gs j == c.args.place) k b there))
