use Rattle.std.proofs.Common.{arith, ap, ◌∙◌}
use Rattle.std.proofs.lemmas.List.{take_all}
use Rattle.std.specs.List.{sum_by}
use Rattle.worker_groups.specs.Groups.{size_in, AreGroups}
use Rattle.worker_groups.proofs.GroupShares.{sum-next, sum-fits}
use Rattle.worker_groups.proofs.groups.Groups.total.Goals as goal

pub overflow_add-sum : goal.overflow_add-sum
overflow_add-sum c =
    let all = c.as_slice-all.result.now in
    let are : AreGroups all = rw (← c.as_slice-all.ensures.items) at c.as_slice-all.ensures.groups in
    omega (arith, c.loop-group.invariant, c.size-sum.ensures, sum-fits c.args.share all c.loop-group.group-index (record { addresses = 0; workers = 0 }) are c.loop-group-test.true)

pub loop-group-preserved : goal.loop-group-preserved
loop-group-preserved c =
    omega (arith, c.loop-group.invariant, c.size-sum.ensures, sum-next (size_in c.args.share) c.as_slice-all.result.now c.loop-group.group-index (record { addresses = 0; workers = 0 }) c.loop-group-test.true)

pub returns : goal.returns
returns c =
    c.loop-group.invariant
    ∙ ap (sum_by (size_in c.args.share)) (take_all c.loop-group.group-index c.as_slice-all.result.now (omega arith) ∙ c.as_slice-all.ensures.items)
