use Rattle.std.proofs.Common.{codes}
use Rattle.command_line.specs.Arguments.{flag_rule}
use Rattle.command_line.proofs.Apps.{ends, follows, more}
use Rattle.command_line.proofs.commands.with_running.Goals as goal

pub returns-clause-app : goal.returns-clause-app
returns-clause-app c =
    let known = follows (more (flag_rule (codes "bare"))) c.in_ok-command.command c.in_ok-command-2.command _ c.in_ok-command.ensures.app c.in_ok-command-2.ensures.app in
    ends (more (flag_rule (codes "why"))) c.in_ok-command-2.command c.with_flag-2.result _ known c.with_flag-2.ensures.app
