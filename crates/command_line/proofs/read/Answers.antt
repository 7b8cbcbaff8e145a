use Rattle.std.proofs.Common.{◌≡◌, List, ℕ, ap, sym, ◌∙◌, map, string_bytes, subst}
use Rattle.clap.specs.Words.{HasKind, app_of, fault_of, is_simple, subcommand_of}
use Rattle.clap.specs.Faults.{is_simple_and_free}
use Rattle.command_line.specs.Arguments.{AreMatchesOf, prefork_app}
use Rattle.command_line.proofs.Simple.{has_exact_faults, has_exact_matches}
use Rattle.command_line.proofs.read.Goals as goal

found : (c : goal.Joined-matches) → AreMatchesOf (map string_bytes c.args.args.now) c.in-Ok.matches
found c =
    let same : app_of c.in_ok-program.field-0 ≡ prefork_app = c.in_ok-program.ensures in
    let arguments : List (List ℕ) = map string_bytes c.args.args.now in
    record {
      taken = ap (λ a. fault_of a arguments) (sym same) ∙ c.in-Ok.ensures.kinds (ap is_simple_and_free same ∙ has_exact_faults);
      command = (c.in-Ok.ensures.matches (ap is_simple same ∙ has_exact_matches)).1 ∙ ap (λ a. subcommand_of a arguments) same;
    }

pub returns-in-Ok-clause-asks : goal.returns-in-Ok-clause-asks
returns-in-Ok-clause-asks c = c.request_of.ensures.asks (map string_bytes c.args.args.now) (found c)

pub returns-in-Ok-clause-refused : goal.returns-in-Ok-clause-refused
returns-in-Ok-clause-refused c = c.request_of.ensures.refused (map string_bytes c.args.args.now) (found c)

pub returns-in-Err-clause-asks : goal.returns-in-Err-clause-asks
returns-in-Err-clause-asks c =
    let same : app_of c.in_ok-program.field-0 ≡ prefork_app = c.in_ok-program.ensures in
    c.shown_by.ensures.asks (map string_bytes c.args.args.now)
    (subst (λ a. HasKind (fault_of a (map string_bytes c.args.args.now)) c.in-Err.error) same
    (c.in-Err.ensures.kinds (ap is_simple_and_free same ∙ has_exact_faults)))

pub returns-in-Err-clause-refused : goal.returns-in-Err-clause-refused
returns-in-Err-clause-refused c =
    let same : app_of c.in_ok-program.field-0 ≡ prefork_app = c.in_ok-program.ensures in
    c.shown_by.ensures.refused (map string_bytes c.args.args.now)
    (subst (λ a. HasKind (fault_of a (map string_bytes c.args.args.now)) c.in-Err.error) same
    (c.in-Err.ensures.kinds (ap is_simple_and_free same ∙ has_exact_faults)))
