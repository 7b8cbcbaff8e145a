use Rattle.std.proofs.Common.{codes}
use Rattle.command_line.specs.Arguments.{flag_rule, with_family}
use Rattle.command_line.proofs.Apps.{ends, follows, more}
use Rattle.command_line.proofs.commands.supervise.Goals as goal

pub returns-clause-app : goal.returns-clause-app
returns-clause-app c =
    let known0 = follows with_family c.named-command.result c.in_ok-command.command _ c.named-command.ensures.app c.in_ok-command.ensures.app in
    let known1 = follows (more (flag_rule (codes "verbose"))) c.in_ok-command.command c.in_ok-command-2.command _ known0 c.in_ok-command-2.ensures.app in
    ends (more (flag_rule (codes "why"))) c.in_ok-command-2.command c.with_flag-2.result _ known1 c.with_flag-2.ensures.app
