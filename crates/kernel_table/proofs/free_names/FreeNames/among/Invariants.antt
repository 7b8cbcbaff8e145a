use Rattle.std.proofs.Common.{◌≡◌, ◌≤◌, ◌++◌, ℕ, List, false}
use Rattle.std.specs.List.{list_any}
use Rattle.definitions.specs.Table.{is_active, is_worker}
use Rattle.kernel_rows.specs.Seen.{seen_rows}
use Rattle.kernel_rows.proofs.Passing.{passed}
use Rattle.kernel_table.proofs.free_names.FreeNames.among.Given as goal

abbrev pub invariant-loop-holder : goal.invariant-loop-holder
invariant-loop-holder l = record {
  split : passed l.yielded ++ l.holder-iterator ≡ l.holders.items;
  free : (addresses : List (List ℕ)) (k : ℕ) → l.first ≤ k →
      list_any (is_worker is_active l.parent l.generation k) (seen_rows addresses (passed l.yielded)) ≡ false;
}
