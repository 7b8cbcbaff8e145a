use Rattle.command_line.specs.Arguments.{with_limits}
use Rattle.command_line.proofs.Apps.{ends, follows_with}
use Rattle.command_line.proofs.commands.with_family.Goals as goal

pub returns-clause-app : goal.returns-clause-app
returns-clause-app c =
    let known1 = follows_with c.in_ok-command.command c.in_ok-command-2.command c.program_option.result _ _ c.in_ok-command.ensures.app c.program_option.ensures.rule c.in_ok-command-2.ensures.app in
    ends with_limits c.in_ok-command-2.command c.with_limits.result _ known1 c.with_limits.ensures.app
