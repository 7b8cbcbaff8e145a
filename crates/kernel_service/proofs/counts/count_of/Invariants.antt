use Rattle.std.proofs.Common.{◌≡◌, map, drop}
use Rattle.kernel_service.specs.Services.{count_at}
use Rattle.kernel_service.specs.Served.{seen_count}
use Rattle.kernel_service.proofs.counts.count_of.Given as goal

abbrev pub invariant-loop-count : goal.invariant-loop-count
invariant-loop-count l = count_at (map seen_count (drop l.count-index l.counts)) l.generation ≡ count_at (map seen_count l.counts) l.generation
