use Rattle.std.proofs.Common.{◌≡◌}
use Rattle.kernel_rows.specs.Rows.{master_number}
use Rattle.kernel_rows.specs.Seen.{seen_rows}
use Rattle.kernel_table.proofs.store.Store.master_number.Given as goal

abbrev pub invariant-loop-holder : goal.invariant-loop-holder
invariant-loop-holder l =
    master_number l.image (seen_rows l.self.addresses.items l.self.holders.items)
    ≡ master_number l.image (seen_rows l.self.addresses.items l.holder-iterator)
