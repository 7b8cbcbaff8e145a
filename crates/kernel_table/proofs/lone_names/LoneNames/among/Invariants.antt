use Rattle.std.proofs.Common.{◌≡◌, ◌++◌, List, ℕ}
use Rattle.kernel_rows.specs.Seen.{seen_rows}
use Rattle.kernel_table.proofs.Doubled.{AreMet}
use Rattle.kernel_rows.proofs.Passing.{passed}
use Rattle.kernel_table.proofs.lone_names.LoneNames.among.Given as goal

abbrev pub invariant-loop-holder : goal.invariant-loop-holder
invariant-loop-holder l = record {
  split : passed l.yielded ++ l.holder-iterator ≡ l.holders.items;
  met : (addresses : List (List ℕ)) → AreMet l.parent l.generation l.once l.doubled (seen_rows addresses (passed l.yielded));
}
