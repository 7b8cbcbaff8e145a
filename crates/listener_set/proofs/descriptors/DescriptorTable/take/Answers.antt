use Rattle.std.proofs.Common.{◌≡◌, ◌+◌, ◌-◌, ap, sym, ◌∙◌, arith}
use Rattle.listener_set.specs.Descriptors.{without_descriptor, pairs_of}
use Rattle.listener_set.proofs.DescriptorSlots.{pairs_of-take}
use Rattle.listener_set.proofs.DescriptorPairs.{without-absent}
use Rattle.listener_set.proofs.descriptors.DescriptorTable.take.Goals as goal

pub returns-in_err-socket-clause-after : goal.returns-in_err-socket-clause-after
returns-in_err-socket-clause-after c = without-absent c.args.self.now c.args.descriptor (sym c.get.ensures.socket ∙ c.in_err-socket.was)

pub returns-clause-after : goal.returns-clause-after
returns-clause-after c =
    let d = c.args.descriptor in
    let place : 3 + (d - 3) ≡ d = omega (arith, c.in_ok-socket.ensures.within.0) in
    ap (pairs_of 3) c.clear.ensures
    ∙ pairs_of-take 3 (d - 3) c.self.inside.slots (omega (arith, c.in_ok-socket.ensures.within.0, c.in_ok-socket.ensures.within.1, c.self.invariant))
    ∙ ap (without_descriptor _) place ∙ ap (λ ps. without_descriptor ps d) c.self.view_is
