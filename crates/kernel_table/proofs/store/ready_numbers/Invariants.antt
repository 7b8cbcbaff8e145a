use Rattle.std.proofs.Common.{◌≡◌, ℕ, List, ◌++◌, ◌&&◌, nat_lt}
use Rattle.std.specs.List.{list_any}
use Rattle.listener_set.specs.Numbers.{is_in, IsRising}
use Rattle.definitions.specs.Table.{is_worker}
use Rattle.call_laws.specs.Pieces.{is_ready}
use Rattle.kernel_rows.specs.Seen.{seen_rows}
use Rattle.kernel_rows.proofs.Passing.{passed}
use Rattle.kernel_table.proofs.store.ready_numbers.Given as goal

abbrev pub invariant-loop-holder : goal.invariant-loop-holder
invariant-loop-holder l = record {
  split : passed l.yielded ++ l.holder-iterator ≡ l.holders.items;
  rising : IsRising l.numbers;
  same : (addresses : List (List ℕ)) (k : ℕ) →
      is_in l.numbers k
      ≡ (list_any (is_worker is_ready l.caller l.generation k) (seen_rows addresses (passed l.yielded))
      && nat_lt k 1024);
}
