use Rattle.std.proofs.Common.{◌≡◌, ◌≤◌, ◌+◌, ◌-◌, ◌^◌, min, map, drop}
use Rattle.std.specs.List.{sum_by}
use Rattle.kernel_service.specs.Served.{seen_count}
use Rattle.explorer.proofs.findings.workers_in.Given as goal

abbrev pub invariant-loop-count : goal.invariant-loop-count
invariant-loop-count l = record {
  small : l.sum ≤ 2 ^ 32 - 1;
  all : min (l.sum + sum_by (λ c. c.1) (map seen_count (drop l.count-index l.counts))) (2 ^ 32 - 1)
      ≡ min (sum_by (λ c. c.1) (map seen_count l.counts)) (2 ^ 32 - 1);
}
