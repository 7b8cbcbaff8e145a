use Rattle.std.proofs.Common.{◌≡◌, ◌<◌, ◌^◌, None, IfSome, subst}
use Rattle.std.specs.Fmt.{decimal}
use Rattle.command_line.specs.Arguments.{IsNumber}
use Rattle.command_line.proofs.Values.{not_spelled, spelled, unread}
use Rattle.command_line.proofs.options.number_of.Goals as goal

pub returns-in-None-clause-found : goal.returns-in-None-clause-found
returns-in-None-clause-found c = subst (λ given. IsNumber given None) c.in-None.ensures tt

pub returns-in-None-read_number-clause-usage : goal.returns-in-None-read_number-clause-usage
returns-in-None-read_number-clause-usage c workers =
    subst (λ given. ¬ IsNumber given workers) c.in-Some.ensures
    (not_spelled c.in-Some.text.now workers (unread c.in-Some.text.now c.as_bytes.result.now c.as_bytes.ensures.value c.in-None-read_number.ensures.only))

pub returns-in_default-clause-found : goal.returns-in_default-clause-found
returns-in_default-clause-found c =
    subst (λ given. IsNumber given c.read_number.result) c.in-Some.ensures
    (spelled c.in-Some.text.now c.read_number.result c.in_default.not-None
    (subst (λ text. IfSome c.read_number.result (λ n. (text ≡ decimal n) × (n < 2 ^ 32))) c.as_bytes.ensures.value c.read_number.ensures.found))
