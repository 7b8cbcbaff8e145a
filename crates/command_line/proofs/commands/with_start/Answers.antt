use Rattle.command_line.specs.Arguments.{with_running}
use Rattle.command_line.proofs.Apps.{ends}
use Rattle.command_line.proofs.commands.with_start.Goals as goal

pub returns-clause-app : goal.returns-clause-app
returns-clause-app c =
    ends with_running c.in_ok-command.command c.with_running.result _ c.in_ok-command.ensures.app c.with_running.ensures.app
