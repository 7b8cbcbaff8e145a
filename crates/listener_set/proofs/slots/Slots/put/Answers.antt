use Rattle.std.proofs.Common.{◌∙◌, ap, slice_set, Some}
use Rattle.listener_set.proofs.SlotWrites.{put_slot, put-slots}
use Rattle.listener_set.proofs.slots.Slots.put.Goals as goal

pub invariant_of-self : goal.invariant_of-self
invariant_of-self c = put-slots c.self.inside.taken c.self.inside.sockets c.args.place c.args.socket c.self.invariant c.requires

pub returns : goal.returns
returns c =
    put_slot c.self.inside.taken c.self.inside.sockets c.args.place c.args.socket c.self.invariant c.requires
    ∙ ap (λ slots. slice_set slots c.args.place (Some c.args.socket)) c.self.view_is
