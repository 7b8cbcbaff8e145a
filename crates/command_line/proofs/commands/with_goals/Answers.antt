use Rattle.command_line.proofs.Apps.{ends_with}
use Rattle.command_line.proofs.commands.with_goals.Goals as goal

pub returns-clause-app : goal.returns-clause-app
returns-clause-app c =
    ends_with c.in_ok-command.command c.with_argument.result c.repeated.result _ _ c.in_ok-command.ensures.app c.repeated.ensures.rule c.with_argument.ensures.app
