use Rattle.std.proofs.Common.{◌≡◌, ◌+◌, ◌-◌}
use Rattle.call_text.specs.SetReading.{with_run}
use Rattle.call_text.proofs.sets.add_run.Given as goal

abbrev pub invariant-loop-nr : goal.invariant-loop-nr
invariant-loop-nr l = with_run l.numbers l.nr (l.last + 1 - l.nr) ≡ with_run l.fn.numbers l.first (l.last + 1 - l.first)
