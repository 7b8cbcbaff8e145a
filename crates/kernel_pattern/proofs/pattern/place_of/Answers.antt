use Rattle.kernel_pattern.proofs.Patterns.{rising-from}
use Rattle.kernel_pattern.proofs.pattern.place_of.Goals as goal

pub first_from-place-requires : goal.first_from-place-requires
first_from-place-requires c = rising-from c.args.events.now 1 c.requires
