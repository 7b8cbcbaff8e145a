use Rattle.std.proofs.Common.{◌≡◌, ◌++◌}
use Rattle.definitions.specs.Table.{live_master}
use Rattle.kernel_rows.specs.Seen.{seen_rows}
use Rattle.kernel_rows.proofs.Passing.{passed}
use Rattle.kernel_table.proofs.store.Store.live_master.Given as goal

abbrev pub invariant-loop-holder : goal.invariant-loop-holder
invariant-loop-holder l = record {
  split : passed l.yielded ++ l.holder-iterator ≡ l.self.holders.items;
  first : live_master l.image (seen_rows l.self.addresses.items l.self.holders.items)
      ≡ live_master l.image (seen_rows l.self.addresses.items l.holder-iterator);
}
