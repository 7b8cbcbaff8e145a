use Rattle.std.proofs.Common.{◌≡◌, take}
use Rattle.std.specs.List.{sum_by}
use Rattle.worker_groups.specs.Groups.{size_in}
use Rattle.worker_groups.proofs.groups.Groups.total.Given as goal

abbrev pub invariant-loop-group : goal.invariant-loop-group
invariant-loop-group l = l.sum ≡ sum_by (size_in l.share) (take l.group-index l.all)
