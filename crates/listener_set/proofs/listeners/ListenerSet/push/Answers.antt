use Rattle.std.proofs.Common.{arith, length, ◌≡◌}
use Rattle.listener_set.specs.PaddedLemmas.{length-padded}
use Rattle.listener_set.proofs.AddressLists.{pushed_kept}
use Rattle.listener_set.proofs.listeners.ListenerSet.push.Goals as goal

pub invariant_of-self : goal.invariant_of-self
invariant_of-self c =
    let same : length c.args.self.now ≡ c.self.inside.len = rw c.self.view_is at (length-padded c.self.invariant.padded) in
    pushed_kept _ _ _ c.self.invariant (omega (arith, same)) (λ in_it. c.requires.new (rw c.self.view_is at in_it))
