use Rattle.std.proofs.Common.{refl}
use Rattle.clap.specs.Words.{app_of}
use Rattle.command_line.specs.Arguments.{enact_app, explore_app, plan_app}
use Rattle.command_line.proofs.Apps.{ends_joined, combined}
use Rattle.command_line.proofs.commands.with_words.Goals as goal

pub returns : goal.returns
returns c =
    let known0 = combined c.args.command c.in_ok-command.command c.enact.result (app_of c.args.command) enact_app refl c.enact.ensures.app c.in_ok-command.ensures in
    let known1 = combined c.in_ok-command.command c.in_ok-command-2.command c.plan.result _ plan_app known0 c.plan.ensures.app c.in_ok-command-2.ensures in
    ends_joined c.in_ok-command-2.command c.explore.result c.with_command-3.result _ explore_app known1 c.explore.ensures.app c.with_command-3.ensures
