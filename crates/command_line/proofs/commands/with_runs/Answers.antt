use Rattle.std.proofs.Common.{codes}
use Rattle.command_line.specs.Arguments.{option_rule}
use Rattle.command_line.proofs.Apps.{ends, follows, more}
use Rattle.command_line.proofs.commands.with_runs.Goals as goal

pub returns-clause-app : goal.returns-clause-app
returns-clause-app c =
    let known1 = follows (more (option_rule (codes "turns"))) c.in_ok-command.command c.in_ok-command-2.command _ c.in_ok-command.ensures.app c.in_ok-command-2.ensures.app in
    let known2 = follows (more (option_rule (codes "limit"))) c.in_ok-command-2.command c.in_ok-command-3.command _ known1 c.in_ok-command-3.ensures.app in
    ends (more (option_rule (codes "forbid"))) c.in_ok-command-3.command c.with_option-4.result _ known2 c.with_option-4.ensures.app
