use Rattle.std.proofs.Common.{◌+◌, ◌-◌, ◌^◌, min, map, List, ap, arith}
use Rattle.std.specs.List.{sum_by}
use Rattle.std.proofs.lemmas.List.{drop_all}
use Rattle.kernel_service.specs.declared.counts.Count.{Count}
use Rattle.kernel_service.specs.Served.{seen_count}
use Rattle.explorer.proofs.findings.workers_in.Goals as goal

pub returns : goal.returns
returns c =
    let over = drop_all c.loop-count.count-index c.args.counts.now (omega (arith, c.loop-count-test.false)) in
    let none = ap (λ (cs : List Count). min (c.loop-count.sum + sum_by (λ x. x.1) (map seen_count cs)) (2 ^ 32 - 1)) over in
    omega (arith, c.loop-count.invariant.small, none, c.loop-count.invariant.all)
