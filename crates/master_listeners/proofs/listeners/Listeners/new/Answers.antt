use Rattle.master_listeners.proofs.Listed.{blanks_kept}
use Rattle.master_listeners.proofs.listeners.Listeners.new.Goals as goal

pub invariant_of-result : goal.invariant_of-result
invariant_of-result c = blanks_kept c.plain.result c.plain.ensures
