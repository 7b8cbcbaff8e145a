use Rattle.std.proofs.Common.{◌<◌, get_or, None, sym, ap, ◌∙◌, inl, inr}
use Rattle.std.proofs.lemmas.Bool.{cases_lt}
use Rattle.listener_set.specs.Descriptors.{socket_of}
use Rattle.listener_set.proofs.DescriptorSlots.{socket_within, socket_below, are_descriptors}
use Rattle.listener_set.proofs.descriptors.DescriptorTable.get.Goals as goal

pub returns-in_err-place-clause-socket : goal.returns-in_err-place-clause-socket
returns-in_err-place-clause-socket c =
    let low : c.args.descriptor < 3 = elim (cases_lt c.args.descriptor 3) [ inl lt ↦ lt | inr over ↦ absurd (c.in_err-place.ensures over) ] in
    c.from_residual.ensures ∙ sym (socket_below c.self.inside.slots c.args.descriptor low) ∙ ap (λ ps. socket_of ps c.args.descriptor) c.self.view_is

pub returns-in_err-place-clause-descriptors : goal.returns-in_err-place-clause-descriptors
returns-in_err-place-clause-descriptors c = rw c.self.view_is at (are_descriptors c.self.inside.slots c.self.invariant)

pub returns-clause-socket : goal.returns-clause-socket
returns-clause-socket c =
    c.get.ensures.socket ∙ ap (λ i. get_or c.self.inside.slots i None) c.in_ok-place.ensures.1
    ∙ sym (socket_within c.self.inside.slots c.args.descriptor c.in_ok-place.ensures.0)
    ∙ ap (λ ps. socket_of ps c.args.descriptor) c.self.view_is

pub returns-clause-descriptors : goal.returns-clause-descriptors
returns-clause-descriptors c = rw c.self.view_is at (are_descriptors c.self.inside.slots c.self.invariant)
