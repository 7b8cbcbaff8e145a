-- What a command is after some steps, each of which says only what it makes of the one before.
use Rattle.std.proofs.Common.{◌≡◌, ◌∙◌, Result, Ok, Err, IfOk, ap, subst}
use Rattle.clap.specs.Words.{App, Rule, app_of, rule_of, with_rule, with_subcommand}
use Rattle.clap.specs.declared.builder.arg.Arg.{Arg}
use Rattle.clap.specs.declared.builder.command.Command.{Command}

-- one argument more, as a step
abbrev pub more : Rule → App → App
more rule app = with_rule app rule

pub follows : (step : App → App) (old new : Command) (known : App) → app_of old ≡ known → app_of new ≡ step (app_of old) → app_of new ≡ step known
follows step old new known is made = made ∙ ap step is

-- the last step, which may fail
pub ends : {E : Type 0} (step : App → App) (old : Command) (last : Result Command E) (known : App) → app_of old ≡ known → IfOk last (λ new. app_of new ≡ step (app_of old)) → IfOk last (λ new. app_of new ≡ step known)
ends step old last known is made = subst (λ (app : App). IfOk last (λ new. app_of new ≡ step app)) is made

-- by an argument whose rule is known
pub follows_with : (old new : Command) (argument : Arg) (known : App) (rule : Rule) → app_of old ≡ known → rule_of argument ≡ rule → app_of new ≡ with_rule (app_of old) (rule_of argument) → app_of new ≡ with_rule known rule
follows_with old new argument known rule is says made = made ∙ ap (λ (app : App). with_rule app (rule_of argument)) is ∙ ap (λ (r : Rule). with_rule known r) says

pub ends_with : {E : Type 0} (old : Command) (last : Result Command E) (argument : Arg) (known : App) (rule : Rule) → app_of old ≡ known → rule_of argument ≡ rule → IfOk last (λ new. app_of new ≡ with_rule (app_of old) (rule_of argument)) → IfOk last (λ new. app_of new ≡ with_rule known rule)
ends_with old last argument known rule is says made =
    subst (λ (r : Rule). IfOk last (λ new. app_of new ≡ with_rule known r)) says
    (subst (λ (app : App). IfOk last (λ new. app_of new ≡ with_rule app (rule_of argument))) is made)

-- by a subcommand that is known, if it was made
pub combined : {E : Type 0} (old new : Command) (given : Result Command E) (whole part : App) → app_of old ≡ whole → IfOk given (λ made. app_of made ≡ part) → ((known : App) → IfOk given (λ made. app_of made ≡ known) → app_of new ≡ with_subcommand (app_of old) known.top) → app_of new ≡ with_subcommand whole part.top
combined old new given whole part is says made = made part says ∙ ap (λ (app : App). with_subcommand app part.top) is

pub ends_joined : {E F : Type 0} (old : Command) (given : Result Command E) (last : Result Command F) (whole part : App) → app_of old ≡ whole → IfOk given (λ made. app_of made ≡ part) → IfOk last (λ new. (known : App) → IfOk given (λ made. app_of made ≡ known) → app_of new ≡ with_subcommand (app_of old) known.top) → IfOk last (λ new. app_of new ≡ with_subcommand whole part.top)
ends_joined old given (Ok new) whole part is says made = made part says ∙ ap (λ (app : App). with_subcommand app part.top) is
ends_joined old given (Err e) whole part is says made = made
