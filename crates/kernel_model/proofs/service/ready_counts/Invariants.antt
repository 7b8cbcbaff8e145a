use Rattle.std.proofs.Common.{◌≡◌, ◌+◌, map, count_by}
use Rattle.definitions.specs.Table.{Generation}
use Rattle.call_laws.specs.Pieces.{is_serving_as}
use Rattle.kernel_rows.specs.Seen.{seen_rows}
use Rattle.kernel_service.specs.Services.{count_at, AreCounts}
use Rattle.kernel_service.specs.Served.{seen_count}
use Rattle.kernel_model.proofs.service.ready_counts.Given as goal

abbrev pub invariant-loop-holder : goal.invariant-loop-holder
invariant-loop-holder l = record {
  sound : AreCounts (map seen_count l.counts.items);
  counted : (g : Generation) →
      count_at (map seen_count l.counts.items) g + count_by (is_serving_as l.address g)
      (seen_rows l.addresses l.holder-iterator)
      ≡ count_by (is_serving_as l.address g) (seen_rows l.addresses l.holders.items);
}
