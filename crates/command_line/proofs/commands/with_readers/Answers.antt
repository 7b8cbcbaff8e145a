use Rattle.std.proofs.Common.{refl}
use Rattle.clap.specs.Words.{app_of}
use Rattle.command_line.specs.Arguments.{certify_app, check_app, explain_app}
use Rattle.command_line.proofs.Apps.{ends_joined, combined}
use Rattle.command_line.proofs.commands.with_readers.Goals as goal

pub returns : goal.returns
returns c =
    let known0 = combined c.args.command c.in_ok-command.command c.certify.result (app_of c.args.command) certify_app refl c.certify.ensures.app c.in_ok-command.ensures in
    let known1 = combined c.in_ok-command.command c.in_ok-command-2.command c.check.result _ check_app known0 c.check.ensures.app c.in_ok-command-2.ensures in
    ends_joined c.in_ok-command-2.command c.explain.result c.with_command-3.result _ explain_app known1 c.explain.ensures.app c.with_command-3.ensures
