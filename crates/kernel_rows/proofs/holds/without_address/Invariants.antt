use Rattle.std.proofs.Common.{◌≡◌, ◌++◌, not, bytes_eq, filter}
use Rattle.kernel_rows.specs.Holds.{address_of}
use Rattle.kernel_rows.proofs.holds.without_address.Given as goal

abbrev pub invariant-loop-descriptor : goal.invariant-loop-descriptor
invariant-loop-descriptor l = record {
  split : l.yielded ++ l.descriptor-iterator ≡ l.holds;
  rest : l.rest ≡ filter (λ p. not (bytes_eq (address_of l.addresses p.1) l.address)) l.yielded ++ l.descriptor-iterator;
}
