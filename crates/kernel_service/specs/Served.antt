-- A service as its lists are kept.
use Rattle.std.specs.Prelude.{ℕ, map}
use Rattle.definitions.specs.Table.{Address, Generation}
use Rattle.kernel_service.specs.declared.counts.Count.{Count}
use Rattle.kernel_service.specs.declared.service.Served.{Served}
use Rattle.kernel_service.specs.Services.{Counts}

abbrev pub seen_count : Count → Generation × ℕ
seen_count c = (c.generation, c.workers)

abbrev pub seen_served : Served → Address × Counts
seen_served e = (e.address, map seen_count e.counts.items)
