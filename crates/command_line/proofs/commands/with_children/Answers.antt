use Rattle.std.proofs.Common.{Ok, refl}
use Rattle.std.specs.declared.alloc.AllocError.{AllocError}
use Rattle.clap.specs.Words.{app_of}
use Rattle.command_line.specs.Arguments.{adopt_app, child_app, supervise_app}
use Rattle.command_line.proofs.Apps.{ends_joined, combined}
use Rattle.command_line.proofs.commands.with_children.Goals as goal

pub returns : goal.returns
returns c =
    let known0 = combined c.args.command c.in_ok-command.command c.supervise.result (app_of c.args.command) supervise_app refl c.supervise.ensures.app c.in_ok-command.ensures in
    let known1 = combined c.in_ok-command.command c.in_ok-command-2.command c.adopt.result _ adopt_app known0 c.adopt.ensures.app c.in_ok-command-2.ensures in
    ends_joined {E = AllocError} c.in_ok-command-2.command (Ok c.child.result) c.with_command-3.result _ child_app known1 c.child.ensures.app c.with_command-3.ensures
