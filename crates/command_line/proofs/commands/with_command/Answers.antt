use Rattle.std.proofs.Common.{◌≡◌, ◌∙◌, Result, Ok, Err, IfOk, ap, false, subst}
use Rattle.clap.specs.Words.{AddsSubcommand, App, app_of, with_subcommand}
use Rattle.clap.specs.declared.builder.command.Command.{Command}
use Rattle.clap.specs.declared.builder.command.Command.TheViews.{out-Command}
use Rattle.command_line.proofs.commands.with_command.Goals as goal

-- of all that `clap` says of a subcommand more, what the command then is
added : {E F : Type 0} (old part : Command) (given : Result Command E) (last : Result Command F) → given ≡ Ok part → IfOk given (λ made. (out-Command made).has_globals ≡ false) → IfOk last (λ new. AddsSubcommand old part new) → IfOk last (λ new. (known : App) → IfOk given (λ made. app_of made ≡ known) → app_of new ≡ with_subcommand (app_of old) known.top)
added old part given (Ok new) was own adds = λ known is.
    let local : (out-Command part).has_globals ≡ false = subst (λ r. IfOk r (λ made. (out-Command made).has_globals ≡ false)) was own in
    let says : app_of part ≡ known = subst (λ r. IfOk r (λ made. app_of made ≡ known)) was is in
    adds.shape local ∙ ap (λ (app : App). with_subcommand (app_of old) app.top) says
added old part given (Err e) was own adds = adds

pub returns : goal.returns
returns c =
    added c.args.command c.in_ok-part.part c.args.part c.subcommand.result c.in_ok-part.was c.requires c.subcommand.ensures
