use Rattle.std.proofs.Common.{◌≡◌, ℕ, ◌++◌, nat_eq, None, map}
use Rattle.std.specs.Prelude.{if◌then◌else◌}
use Rattle.listener_set.specs.Numbers.{AreBelow}
use Rattle.vocabulary.specs.declared.names.Name.TheVariants as name
use Rattle.kernel_model.specs.Pattern.{moment_at}
use Rattle.certifier.proofs.showing.add_workers.Given as goal

abbrev pub invariant-loop-nr : goal.invariant-loop-nr
invariant-loop-nr l = record {
  split : l.yielded ++ l.nr-iterator ≡ l.workers;
  below : AreBelow 1024 l.nr-iterator;
  moments : (n : ℕ) → moment_at l.pattern n
      ≡ (if nat_eq n l.number then record { exits = map (name.Worker l.generation) l.yielded; fate = None }
      else moment_at l.fn.pattern n);
}
