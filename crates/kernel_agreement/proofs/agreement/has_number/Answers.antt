use Rattle.std.proofs.Common.{ap, ◌∙◌, Some, nat_eq}
use Rattle.std.specs.Option.{option_eq}
use Rattle.kernel_agreement.proofs.Comparing.{first_from-itself}
use Rattle.kernel_agreement.proofs.agreement.has_number.Goals as goal

pub returns-clause-value : goal.returns-clause-value
returns-clause-value c =
    c.eq.ensures
    ∙ ap (λ o. option_eq nat_eq o (Some c.args.nr)) c.next_from.ensures.lowest
    ∙ first_from-itself c.args.numbers.now 0 c.args.nr c.next_from.ensures.numbers.rising
