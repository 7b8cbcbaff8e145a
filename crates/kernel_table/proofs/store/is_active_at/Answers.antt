use Rattle.std.proofs.Common.{sym, ◌∙◌}
use Rattle.definitions.specs.Table.{is_active}
use Rattle.kernel_rows.proofs.Bearing.{borne-there}
use Rattle.kernel_table.proofs.store.is_active_at.Goals as goal

pub returns : goal.returns
returns c = λ yes.
    let found = borne-there is_active c.args.name c.args.holders.now.items c.args.place (λ addresses. sym (c.is_worker_row.ensures addresses) ∙ yes) in
    record { there = found.0; active = found.1 }
