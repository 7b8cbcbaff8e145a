use Rattle.std.proofs.Common.{codes}
use Rattle.command_line.specs.Arguments.{flag_rule, option_rule, with_goals, with_running}
use Rattle.command_line.proofs.Apps.{ends, follows, more}
use Rattle.command_line.proofs.commands.certify.Goals as goal

pub returns-clause-app : goal.returns-clause-app
returns-clause-app c =
    let known0 = follows with_goals c.named-command.result c.in_ok-command.command _ c.named-command.ensures.app c.in_ok-command.ensures.app in
    let known1 = follows with_running c.in_ok-command.command c.in_ok-command-2.command _ known0 c.in_ok-command-2.ensures.app in
    let known2 = follows (more (flag_rule (codes "json"))) c.in_ok-command-2.command c.in_ok-command-3.command _ known1 c.in_ok-command-3.ensures.app in
    let known3 = follows (more (flag_rule (codes "life"))) c.in_ok-command-3.command c.in_ok-command-4.command _ known2 c.in_ok-command-4.ensures.app in
    ends (more (option_rule (codes "held"))) c.in_ok-command-4.command c.with_option.result _ known3 c.with_option.ensures.app
