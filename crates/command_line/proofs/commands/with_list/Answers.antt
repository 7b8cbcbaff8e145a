use Rattle.std.proofs.Common.{codes}
use Rattle.command_line.specs.Arguments.{flag_rule, option_rule}
use Rattle.command_line.proofs.Apps.{ends, follows, more}
use Rattle.command_line.proofs.commands.with_list.Goals as goal

pub returns-clause-app : goal.returns-clause-app
returns-clause-app c =
    let known1 = follows (more (option_rule (codes "held"))) c.in_ok-command.command c.in_ok-command-2.command _ c.in_ok-command.ensures.app c.in_ok-command-2.ensures.app in
    let known2 = follows (more (flag_rule (codes "list"))) c.in_ok-command-2.command c.in_ok-command-3.command _ known1 c.in_ok-command-3.ensures.app in
    let known3 = follows (more (flag_rule (codes "progress"))) c.in_ok-command-3.command c.in_ok-command-4.command _ known2 c.in_ok-command-4.ensures.app in
    ends (more (flag_rule (codes "deaths"))) c.in_ok-command-4.command c.with_flag-3.result _ known3 c.with_flag-3.ensures.app
