use Rattle.std.proofs.Common.{◌≡◌, ◌++◌, take}
use Rattle.listener_set.specs.Padded.{IsPadded}
use Rattle.worker_groups.specs.Crews.{shortfalls_of}
use Rattle.worker_groups.proofs.shortfalls.Shortfalls.of.Given as goal

abbrev pub invariant-loop-number : goal.invariant-loop-number
invariant-loop-number l = record {
  split : l.yielded ++ l.number-iterator ≡ l.lacking;
  padded : IsPadded 16 0 l.counts l.len;
  counted : take l.len l.counts ≡ shortfalls_of l.groups l.yielded;
}
