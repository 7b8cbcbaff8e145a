use Rattle.worker_table.proofs.PlaceLemmas.{in_order-none}
use Rattle.worker_table.proofs.workers.WorkerTable.new.Goals as goal

pub returns : goal.returns
returns c = in_order-none c.in_ok-with_capacity.field-0.entries c.in_ok-with_capacity.ensures.empty
