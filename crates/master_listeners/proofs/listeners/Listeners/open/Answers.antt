use Rattle.std.proofs.Common.{subst, ap, sym, ◌∙◌, arith}
use Rattle.std.specs.Prelude.{insert}
use Rattle.master_listeners.specs.Listeners.{AreListed}
use Rattle.master_listeners.proofs.Listed.{AreListedFrom-opened_from}
use Rattle.master_listeners.proofs.listeners.Listeners.open.Goals as goal

pub insert-requires-clause-listed : goal.insert-requires-clause-listed
insert-requires-clause-listed c =
    subst AreListed (c.first_gap-place.ensures.gap c.args.address.now ∙ ap (insert c.args.self.now c.first_gap-place.result) (sym c.nth.ensures))
    (AreListedFrom-opened_from c.args.address.now 3 c.args.self.now c.requires.new (omega arith) c.first_gap-place.ensures.listed)
