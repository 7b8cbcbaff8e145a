use Rattle.std.proofs.Common.{ap, sym, ◌∙◌}
use Rattle.worker_groups.specs.Groups.{group_refused}
use Rattle.worker_groups.proofs.GroupShares.{groups-kept}
use Rattle.worker_groups.proofs.groups.Groups.add.Goals as goal

pub invariant_of-self : goal.invariant_of-self
invariant_of-self c =
    groups-kept c.self.inside.items c.self.inside.len c.args.group c.self.invariant
    (ap (λ gs. group_refused gs c.args.group) c.self.view_is ∙ (sym c.refused.ensures ∙ c.in_default.is))
