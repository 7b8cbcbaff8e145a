use Rattle.std.proofs.Common.{◌≡◌, ◌+◌, ◌-◌, ◌<◌, ◌≤◌, None, Some, get_or, ap, sym, ◌∙◌, arith}
use Rattle.listener_set.specs.Descriptors.{put_pair, socket_of, pairs_of}
use Rattle.listener_set.proofs.DescriptorSlots.{socket_within, pairs_of-put}
use Rattle.listener_set.proofs.descriptors.DescriptorTable.put.Goals as goal

pub returns-clause-after : goal.returns-clause-after
returns-clause-after c =
    let slots = c.self.inside.slots in
    let d = c.in_ok-descriptor.descriptor in
    let is : c.lowest_unused.result ≡ Some d = c.in_ok-descriptor.ensures.ok_part in
    let within : (3 ≤ d) × (d < 67) = rw is at c.lowest_unused.ensures.within in
    let free : socket_of c.args.self.now d ≡ None = rw is at c.lowest_unused.ensures.free in
    let place : 3 + (d - 3) ≡ d = omega (arith, within.0) in
    let empty : get_or slots (d - 3) None ≡ None = sym (socket_within slots d within.0) ∙ ap (λ ps. socket_of ps d) c.self.view_is ∙ free in
    ap (pairs_of 3) c.put.ensures
    ∙ pairs_of-put 3 (d - 3) c.args.socket slots (omega (arith, within.0, within.1, c.self.invariant)) empty
    ∙ ap (λ k. put_pair (pairs_of 3 slots) k c.args.socket) place ∙ ap (λ ps. put_pair ps d c.args.socket) c.self.view_is
