use Rattle.std.proofs.Common.{refl, arith}
use Rattle.kernel_agreement.proofs.Comparing.{same_pairs}
use Rattle.kernel_agreement.proofs.agreement.same_holds.Goals as goal

pub returns : goal.returns
returns c =
    let loop = c.loop-descriptor.invariant in
    (λ t. same_pairs c.args.holds.now c.args.others.now 3 67 loop.holds.rising loop.others.rising loop.holds.below loop.others.below (λ d from below. loop.same d from (omega arith)), λ e. refl)
