use Rattle.std.proofs.Common.{◌≡◌, Option, Some, None, Result, Ok, Err, IfNone, IfOk, ap, inl, inr, map, string_bytes, subst, sym, ◌∙◌}
use Rattle.clap.specs.Words.{HasKind, app_of, fault_of}
use Rattle.clap.specs.Faults.{is_simple_and_free}
use Rattle.command_line.specs.Arguments.{prefork_app}
use Rattle.command_line.proofs.Simple.{has_exact_faults}
use Rattle.command_line.proofs.complaint.Goals as goal

-- what is silent for one reason is silent for a weaker one
weakened : {A E P Q : Type 0} → (P → Q) → (r : Result (Option A) E) → IfOk r (λ said. IfNone said P) → IfOk r (λ said. IfNone said Q)
weakened weaker (Ok None) why = weaker why
weakened weaker (Ok (Some text)) why = why
weakened weaker (Err e) why = why

pub returns-in-Ok-clause-silent : goal.returns-in-Ok-clause-silent
returns-in-Ok-clause-silent c =
    let same : app_of c.in_ok-program.field-0 ≡ prefork_app = c.in_ok-program.ensures in
    inl (ap (λ a. fault_of a (map string_bytes c.args.args.now)) (sym same) ∙ c.in-Ok.ensures.kinds (ap is_simple_and_free same ∙ has_exact_faults))

pub returns-clause-said : goal.returns-clause-said
returns-clause-said c =
    let same : app_of c.in_ok-program.field-0 ≡ prefork_app = c.in_ok-program.ensures in
    c.complaint_in.ensures.said (map string_bytes c.args.args.now)
    (subst (λ a. HasKind (fault_of a (map string_bytes c.args.args.now)) c.in-Err.error) same
    (c.in-Err.ensures.kinds (ap is_simple_and_free same ∙ has_exact_faults)))

pub returns-clause-silent : goal.returns-clause-silent
returns-clause-silent c =
    let same : app_of c.in_ok-program.field-0 ≡ prefork_app = c.in_ok-program.ensures in
    weakened inr c.complaint_in.result (c.complaint_in.ensures.silent (map string_bytes c.args.args.now)
    (subst (λ a. HasKind (fault_of a (map string_bytes c.args.args.now)) c.in-Err.error) same
    (c.in-Err.ensures.kinds (ap is_simple_and_free same ∙ has_exact_faults))))
