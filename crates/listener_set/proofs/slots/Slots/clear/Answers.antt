use Rattle.std.proofs.Common.{◌∙◌, ap, slice_set, None}
use Rattle.listener_set.proofs.SlotWrites.{clear_slot, clear-slots}
use Rattle.listener_set.proofs.slots.Slots.clear.Goals as goal

pub invariant_of-self : goal.invariant_of-self
invariant_of-self c = clear-slots c.self.inside.taken c.self.inside.sockets c.args.place c.self.invariant c.requires

pub returns : goal.returns
returns c =
    clear_slot c.self.inside.taken c.self.inside.sockets c.args.place c.self.invariant c.requires
    ∙ ap (λ slots. slice_set slots c.args.place None) c.self.view_is
